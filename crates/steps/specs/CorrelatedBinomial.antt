-- The steps for a pool of n assets by the correlated binomial model.
-- Assumes nothing.
use Rattle.std.specs.Prelude.{ℕ}
use Rattle.kept.specs.declared.Kept.{Kept}
use Rattle.kept.specs.declared.Side.{Side}
use Rattle.steps.specs.CorrelatedBinomial.Rows.{kept_row}
use Rattle.steps.specs.Chances.{kept_chances}
pub mod Rows
pub mod Budgets
pub mod Exponents

-- The chances of 0 to n defaults in any order, by steps 1 to 4.
unfoldable pub kept_defaults : (side : Side) (n p ρ : ℕ) → ℕ → Kept
kept_defaults side n p ρ = kept_chances side n (kept_row side p ρ n)
