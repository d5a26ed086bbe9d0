-- `round_digits` meets its contract.
use Rattle.std.proofs.Common.{ℕ, ◌<◌, ◌≤◌, ◌^◌, ◌≡◌, ℤ, pos, ◌+ℤ◌, ◌-ℤ◌, w32, to_z, of_z, le_of_lt, lit<, lit≤, arith}
use Rattle.std.specs.Int.Signed.{mag}
use Rattle.kept.specs.Rounding.{Reach}
use Rattle.kept.specs.Rounding.Exponents.{reach_plus, reach_minus, reach_whole, reach_weaken, reach_back, result_back}
use Rattle.kept.specs.Rounding.Leading.{increment_at_most_one}
use Rattle.kept.specs.Rounding.Words.{shifted, digits_rounded}
use Rattle.kept.proofs.rounding.round_digits.Goals as goal

-- The exponent of the upper 32 digits, before the shift.
upper : {e : ℤ} → Reach 2000000100 e → Reach 2000000132 (e +ℤ pos 32)
upper reach = reach_plus reach (reach_whole {n = 32} {m = 32} (lit≤ tt))

-- The exponent after the shift, without its bits.
exponent : {e r : ℤ} (k : ℕ) → Reach 2000000100 e → mag r < 2 ^ 31
    → r ≡ to_z w32 (of_z w32 (to_z w32 (of_z w32 e) +ℤ pos 32)) -ℤ pos k → to_z w32 (of_z w32 r) ≡ e +ℤ pos 32 -ℤ pos k
exponent {e} {r} k reach fits is =
    rw (result_back r fits) (rw (reach_back {e = e} (lit< tt) reach, reach_back (lit< tt) (upper reach)) at is)

pub overflow_add-w : goal.overflow_add-w
overflow_add-w c =
    let little : c.one_more.result ≤ 1 = rw c.one_more.ensures (increment_at_most_one _ _) in
    record { fits = omega (arith, c.shifted_up-w.type_inv, little) }

pub lowered-requires-clause-shift : goal.lowered-requires-clause-shift
lowered-requires-clause-shift c = rw c.headroom.ensures (le_of_lt (shifted c.ranges.v.fits).few)

pub carried-requires-clause-digits : goal.carried-requires-clause-digits
carried-requires-clause-digits c =
    let little : c.one_more.result ≤ 1 = rw c.one_more.ensures (increment_at_most_one _ _) in
    omega (arith, c.shifted_up-w.type_inv, little)

pub carried-requires-clause-reach : goal.carried-requires-clause-reach
carried-requires-clause-reach c =
    rw (exponent c.headroom.result c.requires.reach c.lowered.type_inv c.lowered.ensures, c.headroom.ensures)
    (reach_weaken {n = 2000000196} (lit≤ tt) (reach_minus (upper c.requires.reach) (reach_whole (le_of_lt (shifted c.ranges.v.fits).few))))

pub returns : goal.returns
returns c =
    digits_rounded c.args.side (shifted c.ranges.v.fits) c.requires.leading
    (rw (c.one_more.ensures, c.shifted_up-w.ensures, exponent c.headroom.result c.requires.reach c.lowered.type_inv c.lowered.ensures, c.headroom.ensures)
    at c.carried.ensures)
