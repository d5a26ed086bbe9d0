-- The answer to a loss, from its bounds on the low and the high side.
-- Assumes nothing.
use Rattle.std.specs.Prelude.{ℕ, ◌^◌, ◌≡◌, cond, eqb, negsuc, Float}
use Rattle.model.specs.Fraction.{Fraction, Same, AtMost, Less, integer}
use Rattle.kept.specs.declared.Kept.{Kept}
use Rattle.kept.specs.declared.Side.{Side}
use Rattle.kept.specs.declared.Side.TheVariants.{Low, High}
use Rattle.kept.specs.Rounding.{value, nought}
use Rattle.kept.specs.Binary64.{least_shown, below_shown, to_binary64, IsBinary64, exact_value}
use Rattle.steps.specs.Enclosure.{Enclosed}

-- One of three, each with its f64 numbers. Untouched and faint are the scope paper's terms: a loss whose high side is zero, and one that is too small to be
-- shown by two bounds.
pub data LossAnswer : Type 0 where
  untouched : LossAnswer
  faint : Float → LossAnswer
  shown : (low high : Float) → LossAnswer

-- 2^−800, as a kept number.
unfoldable pub kept_least_shown : Kept
kept_least_shown = record { significand = 2 ^ 31; exponent = negsuc 830 }

-- The greater of x and 2^−800.
unfoldable pub raised_to_shown : Kept → Kept
raised_to_shown x = cond (below_shown x) kept_least_shown x

-- Untouched if the high side is zero; if not, faint if the low side is below 2^−800, with the greater of the high side and 2^−800; shown otherwise, with both
-- sides.
unfoldable pub loss_answer : (low high : Kept) → LossAnswer
loss_answer low high =
    cond (eqb high.significand 0) untouched
    (cond (below_shown low) (faint (to_binary64 (raised_to_shown high))) (shown (to_binary64 low) (to_binary64 high)))

-- The number that an answer carries on a side, exactly. A shown loss has its two; a faint one has 0 on the low side and its one number on the high side; an untouched
-- one has 0 on both.
unfoldable pub carried : Side → LossAnswer → Fraction
carried side untouched = integer 0
carried Low (faint number) = integer 0
carried High (faint number) = exact_value number
carried Low (shown low high) = exact_value low
carried High (shown low high) = exact_value high

-- ---- what each answer says of the exact loss v and of its two bounds, which are to be at most one part in g apart

pub record SaysUntouched (low high : Kept) (v : Fraction) : Type 0 where
  pub high_zero : high ≡ nought
  pub low_zero : low ≡ nought
  pub exact_zero : Same v (integer 0)

pub record SaysFaint (low high : Kept) (v : Fraction) (number : Float) : Type 0 where
  pub low_below : Less (value low) least_shown
  pub high_not_zero : high ≡ nought → ⊥
  -- The number is the greater of the high bound and 2^−800, exactly: `raised-greater`.
  pub is : IsBinary64 (raised_to_shown high) number
  pub from_exact : AtMost v (value (raised_to_shown high))
  pub from_least : AtMost least_shown (value (raised_to_shown high))

pub record SaysShown (g : ℕ) (low high : Kept) (v : Fraction) (lower upper : Float) : Type 0 where
  pub low_not_below : AtMost least_shown (value low)
  pub high_not_zero : high ≡ nought → ⊥
  -- The two numbers are the bounds, exactly.
  pub lower_is : IsBinary64 low lower
  pub upper_is : IsBinary64 high upper
  pub enclosed : Enclosed g low high v

abbrev pub Says : (g : ℕ) (low high : Kept) (v : Fraction) → LossAnswer → Type 0
Says g low high v untouched = SaysUntouched low high v
Says g low high v (faint number) = SaysFaint low high v number
Says g low high v (shown lower upper) = SaysShown g low high v lower upper
