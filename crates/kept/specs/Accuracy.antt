-- How far a kept number is from the exact value that it bounds.
-- Assumes nothing.
use Rattle.std.specs.Prelude.{ℕ, ◌+◌, ◌*◌, ◌-◌, ◌^◌, ◌≤◌, ◌<◌}
use Rattle.model.specs.Fraction.{Fraction}
use Rattle.kept.specs.declared.Kept.{Kept}
use Rattle.kept.specs.declared.Side.{Side}
use Rattle.kept.specs.declared.Side.TheVariants.{Low, High}
use Rattle.kept.specs.Rounding.{IsKept, OnSide, value}
pub mod Laws
pub mod Exponents

-- Relative errors are counted in parts of 2^31.
unfoldable pub precision : ℕ
precision = 2 ^ 31

-- x is at most y / (1 − n / 2^31).
pub record AtMostParts (n : ℕ) (x y : Fraction) : Type 0 where
  pub cross : x.num * y.den * (precision - n) ≤ y.num * x.den * precision

-- The greater of the two is within n parts of the lesser.
abbrev pub Near : Side → ℕ → Fraction → Fraction → Type 0
Near Low n x v = AtMostParts n v x
Near High n x v = AtMostParts n x v

-- A kept number x of one side against the exact value v: on its side, and within n parts.
pub record Bound (side : Side) (n : ℕ) (x : Kept) (v : Fraction) : Type 0 where
  pub kept : IsKept x
  pub order : OnSide side (value x) v
  pub near : Near side n (value x) v

-- A budget of n parts is enough for one part in g: two bounds within n parts of one value are at most one part in g of it apart.
-- With b = 2^31 and c = b − n, g × (b/c − c/b) ≤ 1.
pub record BudgetFor (g n : ℕ) : Type 0 where
  pub positive : 0 < g
  pub small : g * (precision * precision) ≤ precision * (precision - n) + g * ((precision - n) * (precision - n))
