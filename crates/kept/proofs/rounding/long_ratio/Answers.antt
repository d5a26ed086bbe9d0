-- `long_ratio` meets its contract.
use Rattle.std.proofs.Common.{◌≡◌, ◌*◌, ◌/◌, ◌%◌, ◌^◌, ◌≤◌, ◌<◌, ℕ, ℤ, pos, negsuc, ◌-ℤ◌, to_z, of_z, refl, ◌∙◌, arith, lit≤, le_of_lt, zero-mul, mod-lt, mod-eq_of_lt, mul-le-mul_left}
use Rattle.std.proofs.Math.Nat.{zero-mod, div-mul-le_self}
use Rattle.std.specs.Int.{w32}
use Rattle.std.specs.Int.Signed.{mag}
use Rattle.model.specs.Fraction.Laws.{same_sym, same_trans, divided_same}
use Rattle.kept.specs.Rounding.{Reach}
use Rattle.kept.specs.Rounding.Exponents.{reach_minus, reach_whole, reach_weaken, result_back}
use Rattle.kept.specs.Rounding.Powers.{scaled_shift}
use Rattle.kept.specs.Rounding.Words.{shift_of, shifted, quotient_least, left_positive, round_long_quotient}
use Rattle.kept.specs.Rounding.Arithmetic.{integer_scaled}
use Rattle.kept.specs.Rounding.Laws.{round_cong}
use Rattle.kept.proofs.rounding.long_ratio.Goals as goal

-- No shift loses a digit.
module _ {n w m : ℕ} (word : n < 2 ^ 64) (is : w ≡ n * 2 ^ shift_of n) (least : 4 ≤ m) (small : m < 2 ^ 34) where
  below : w < 2 ^ 64
  below = rw is (shifted word).below

  quotient-whole : w / m * 4 % 2 ^ 64 ≡ w / m * 4
  quotient-whole = let b = below in mod-eq_of_lt (omega (arith, mul-le-mul_left (w / m) least, div-mul-le_self w m))

  left-whole : w % m * 4 % 2 ^ 64 ≡ w % m * 4
  left-whole = let above : 0 < m = omega arith in mod-eq_of_lt (omega (arith, mod-lt w above))

two-below : Reach 2 (negsuc 1)
two-below = record { within = lit≤ tt }

-- The exponent of the number that was shifted up.
exponent : {f : ℤ} {h k : ℕ} → mag f < 2 ^ 31 → f ≡ negsuc 1 -ℤ pos h → h ≡ k → to_z w32 (of_z w32 f) ≡ negsuc 1 -ℤ pos k
exponent {f} small is shift = result_back f small ∙ (rw shift at is)

pub lowered-requires-clause-shift : goal.lowered-requires-clause-shift
lowered-requires-clause-shift c = rw c.headroom.ensures (le_of_lt (shifted c.ranges.n.fits).few)

pub round_once-requires-clause-reach : goal.round_once-requires-clause-reach
round_once-requires-clause-reach c =
    let reach = reach_minus two-below (reach_whole (le_of_lt (shifted c.ranges.n.fits).few)) in
    rw (exponent c.lowered.type_inv c.lowered.ensures c.headroom.ensures) (reach_weaken {n = 66} (lit≤ tt) reach)

pub round_once-requires-clause-leading : goal.round_once-requires-clause-leading
round_once-requires-clause-leading c =
    let n = c.args.n in
    let m = c.args.m in
    let word = c.ranges.n.fits in
    let is = c.shifted_up-w.ensures in
    rw (quotient-whole word is c.requires.least c.requires.few, left-whole word is c.requires.least c.requires.few, is)
    (λ more.
    let some = left_positive n _ m (λ none. simp (none, zero-mul, zero-mod)) more in
    let many : 2 ^ 29 ≤ n * 2 ^ shift_of n / m =
    quotient_least (2 ^ 29) (shifted word) (omega (arith, c.requires.least)) (omega (arith, c.requires.few)) some in
    omega (arith, many))

pub returns : goal.returns
returns c = λ above.
    let n = c.args.n in
    let word = c.ranges.n.fits in
    let is = c.shifted_up-w.ensures in
    round_long_quotient c.args.side n 4 _ above (negsuc 1) _
    (rw (
      quotient-whole word is c.requires.least c.requires.few,
      left-whole word is c.requires.least c.requires.few,
      is,
      exponent c.lowered.type_inv c.lowered.ensures c.headroom.ensures,
    ) at c.round_once.ensures)
    ∙ round_cong c.args.side (divided_same _ above (same_trans (same_sym (scaled_shift n (negsuc 1) 2 refl)) (integer_scaled n)))
