-- A fraction in whole numbers.
-- Assumes nothing.
use Rattle.std.specs.Prelude.{ℕ, ◌+◌, ◌-◌, ◌/◌, ◌≤◌}
use Rattle.model.specs.Fraction.{Fraction, integer}
use Rattle.kept.specs.declared.Side.{Side}
use Rattle.kept.specs.declared.Side.TheVariants.{Low, High}
use Rattle.kept.specs.Rounding.{OnSide}
pub mod Laws

-- A fraction in whole numbers: the greatest that is not above it on the low side, the least that is not below it on the high side.
unfoldable pub whole_of : Side → Fraction → ℕ
whole_of Low x = x.num / x.den
whole_of High x = (x.num + (x.den - 1)) / x.den

-- On the low side q is not above r, on the high side not below it.
abbrev pub WholeOnSide : Side → ℕ → ℕ → Type 0
WholeOnSide Low q r = q ≤ r
WholeOnSide High q r = r ≤ q

-- r is the greatest whole number not above x on the low side, and the least not below it on the high side.
pub record IsWholeOf (side : Side) (x : Fraction) (r : ℕ) : Type 0 where
  pub on_side : OnSide side (integer r) x
  pub best : (q : ℕ) → OnSide side (integer q) x → WholeOnSide side q r
