-- `gap` meets its contract.
use Rattle.std.proofs.Common.{◌≡◌, sym, ℤ, pos, ◌+ℤ◌, ◌-ℤ◌, ◌≤ℤ◌, lit<, w32, to_z, of_z, to_z-of_z}
use Rattle.std.proofs.Math.IntN.{nat_abs, +ℤ_comm, -ℤ-+ℤ_cancel}
use Rattle.std.specs.Int.Signed.{pos-nat_abs}
use Rattle.kept.specs.Rounding.{Reach}
use Rattle.kept.specs.Rounding.Exponents.{reach_minus, reach_fits, ordered_difference}
use Rattle.kept.specs.Rounding.Sums.{gap_near, gap_far}
use Rattle.kept.proofs.rounding.gap.Goals as goal

-- What the code works out, without its bits.
difference : {e f : ℤ} → Reach 1000000000 e → Reach 1000000000 f
    → to_z w32 (of_z w32 (to_z w32 (of_z w32 e) -ℤ to_z w32 (of_z w32 f))) ≡ e -ℤ f
difference {e} {f} reach other =
    rw (to_z-of_z (reach_fits {e = e} (lit< tt) reach), to_z-of_z (reach_fits {e = f} (lit< tt) other))
    (to_z-of_z (reach_fits (lit< tt) (reach_minus reach other)))

apart : (e f : ℤ) → f ≤ℤ e → e ≡ f +ℤ pos (nat_abs (e -ℤ f))
apart e f order = rw (pos-nat_abs (e -ℤ f) (ordered_difference e f order), +ℤ_comm f (e -ℤ f)) (sym (-ℤ-+ℤ_cancel e f))

pub returns-then-d-lt32 : goal.returns-then-d-lt32
returns-then-d-lt32 c =
    let same = difference c.requires.reach c.requires.other in
    rw same (gap_near (apart c.args.e c.args.f c.requires.order) (rw same at c.if-d-lt32.true))

pub returns-else-d-lt32 : goal.returns-else-d-lt32
returns-else-d-lt32 c =
    gap_far (apart c.args.e c.args.f c.requires.order) (rw (difference c.requires.reach c.requires.other) at c.if-d-lt32.false)
