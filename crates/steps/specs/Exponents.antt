-- The range of the exponents of the numbers that the steps make.
-- Assumes nothing.
use Rattle.std.specs.Prelude.{pos, negsuc, ◌≤ℤ◌}
use Rattle.kept.specs.declared.Kept.{Kept}
use Rattle.kept.specs.Rounding.{IsKept}

-- A kept number with an exponent from −80,000 to 100.
pub record Ranged (x : Kept) : Type 0 where
  pub kept : IsKept x
  pub least : negsuc 79999 ≤ℤ x.exponent
  pub most : x.exponent ≤ℤ pos 100
