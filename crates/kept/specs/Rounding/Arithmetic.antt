-- What the methods hand to one rounding: the exact product or constant as digits and an exponent.
-- Assumes nothing.
use Rattle.std.specs.Prelude.{ℕ, ◌*◌, ◌^◌, ◌<◌, ℤ, pos}
use Rattle.std.proofs.Common.{le_of_lt, lt_of_le_of_lt, mul-le-mul_left, arith}
use Rattle.model.specs.Fraction.{Fraction, Same, divided, integer, over, whole}
use Rattle.model.specs.Fraction.Laws.{same_sym, at_most_of_same, at_most_less_trans}
use Rattle.kept.specs.Rounding.{scaled}
use Rattle.kept.specs.Rounding.Powers.{scaled_less}
use Rattle.kept.specs.Rounding.Leading.{Between}

-- Nothing is left below the digits.
pub between_exact : {v : ℕ} {e : ℤ} {z : Fraction} → Same (scaled v e) z → Between v 0 e z
between_exact {v} {e} same = record {
  from = at_most_of_same same;
  to = at_most_less_trans (at_most_of_same (same_sym same)) (scaled_less e (omega arith));
  no_rest = λ _. at_most_of_same (same_sym same);
  with_rest = λ none. absurd (omega arith);
}

-- ---- the product of two words

pub product_word : {s t : ℕ} → s < 2 ^ 32 → t < 2 ^ 32 → s * t < 2 ^ 64
product_word {s} {t} small little = lt_of_le_of_lt (mul-le-mul_left s (le_of_lt little)) (omega arith)

-- ---- constants

pub integer_scaled : (n : ℕ) → Same (scaled n (pos 0)) (integer n)
unfolding scaled integer
integer_scaled n = record { cross = omega arith }

pub basis_points_scaled : (p : ℕ) (above : 0 < 10000) → Same (divided (scaled p (pos 0)) 10000 above) (over p 1)
unfolding scaled divided over whole
basis_points_scaled p above = record { cross = omega arith }
