-- `Kept::to_f64` meets its contract: ten conditional doublings lead from 2^−831 to the exponent, and each is exact.
use Rattle.std.proofs.Common.{rules, w32, SFits, to_z-of_z}
use Rattle.std.proofs.Math.Nat.{div-one}
use Rattle.std.specs.Float.Ieee.{of_bits}
use Rattle.kept.specs.Binary64.Laws.{shown_normal, shown_exponent, undoubled, doubled, all_doubled, is_binary64}
use Rattle.kept.proofs.Kept.to_f64.Goals as goal

pub doublings-n-requires : goal.doublings-n-requires
doublings-n-requires c =
    let fit : SFits w32 c.args.self.exponent = search rules in
    rw (to_z-of_z fit) (shown_exponent c.requires)

pub returns : goal.returns
unfolding of_bits
returns c =
    let fit : SFits w32 c.args.self.exponent = search rules in
    let n = rw (to_z-of_z fit) at c.doublings-n.ensures in
    let shown = c.requires in
    let d0 = undoubled (shown_normal shown.kept shown.least) n.below in
    let d1 = doubled 512 d0 c.scaled_by-x.ensures in
    let d2 = doubled 256 d1 c.scaled_by-x-2.ensures in
    let d3 = doubled 128 d2 c.scaled_by-x-3.ensures in
    let d4 = doubled 64 d3 c.scaled_by-x-4.ensures in
    let d5 = doubled 32 d4 c.scaled_by-x-5.ensures in
    let d6 = doubled 16 d5 c.scaled_by-x-6.ensures in
    let d7 = doubled 8 d6 c.scaled_by-x-7.ensures in
    let d8 = doubled 4 d7 c.scaled_by-x-8.ensures in
    let d9 = doubled 2 d8 c.scaled_by-x-9.ensures in
    is_binary64 shown (all_doubled n (doubled 1 d9 (rw (div-one _) c.scaled_by.ensures)))
