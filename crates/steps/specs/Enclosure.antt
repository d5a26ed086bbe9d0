-- What is claimed of two bounds of one value.
-- Assumes nothing.
use Rattle.std.specs.Prelude.{ℕ, ◌≡◌}
use Rattle.model.specs.Fraction.{Fraction, AtMost, integer, plus, times}
use Rattle.kept.specs.declared.Kept.{Kept}
use Rattle.kept.specs.Rounding.{value, nought}

-- The exact value v lies between the kept numbers low and high, and these are at most one part in g of it apart.
pub record Enclosed (g : ℕ) (low high : Kept) (v : Fraction) : Type 0 where
  pub from_below : AtMost (value low) v
  pub from_above : AtMost v (value high)
  -- g × (high − low) ≤ v
  pub distance : AtMost (times (integer g) (value high)) (plus v (times (integer g) (value low)))
  -- An exact zero has zero on both sides.
  pub of_zero : v.num ≡ 0 → (low ≡ nought) × (high ≡ nought)
