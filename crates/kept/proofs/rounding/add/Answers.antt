-- `add` meets its contract.
use Rattle.std.proofs.Common.{◌+◌, ◌*◌, ◌%◌, ◌^◌, ◌<◌, ◌≡◌, ◌∙◌, pos, ◌-ℤ◌, to_z, of_z, mod-eq_of_lt, mul-pos, arith, lit<, pow_pos}
use Rattle.std.specs.Int.{w32}
use Rattle.model.specs.Fraction.Laws.{same_refl}
use Rattle.kept.specs.Rounding.Exponents.{reach_back, result_back}
use Rattle.kept.specs.Rounding.Arithmetic.{between_exact}
use Rattle.kept.specs.Rounding.Laws.{kept_below}
use Rattle.kept.specs.Rounding.Sums.{Gap, gap_few, sum_word, round_sum}
use Rattle.kept.proofs.rounding.add.Goals as goal

pub returns : goal.returns
returns c =
    let x = c.args.x in
    let y = c.args.y in
    let r = c.gap-d.result in
    let p = c.requires.x in
    let q = c.requires.y in
    let gap : Gap x.exponent y.exponent r = rw (reach_back (lit< tt) p.reach, reach_back (lit< tt) q.reach) at c.gap-d.ensures in
    let fits : x.significand * 2 ^ r + y.significand < 2 ^ 64 = sum_word (kept_below p.kept) (kept_below q.kept) (gap_few gap) in
    let whole : x.significand * 2 ^ r % 2 ^ 64 ≡ x.significand * 2 ^ r = mod-eq_of_lt (omega (arith, fits)) in
    let exponent : to_z w32 (of_z w32 c.lowered.result) ≡ x.exponent -ℤ pos r =
    result_back c.lowered.result c.lowered.type_inv ∙ (rw (reach_back (lit< tt) p.reach) at c.lowered.ensures) in
    let some : 0 < x.significand * 2 ^ r + y.significand =
    omega (arith, mul-pos {m = x.significand} (omega (arith, c.requires.normal.least)) (pow_pos r)) in
    (rw (whole, exponent) at c.round_digits.ensures).above some _ (between_exact same_refl)
    ∙ round_sum c.args.side x y c.requires.normal q.kept gap
