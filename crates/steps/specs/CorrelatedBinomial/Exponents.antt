-- The numbers that the steps make for a pool by the correlated binomial model, of which each has an exponent in its range.
-- Assumes nothing.
use Rattle.std.specs.Prelude.{ℕ, suc, ◌≤◌}
use Rattle.model.specs.Fraction.{complement}
use Rattle.model.specs.Passes.{passed}
use Rattle.kept.specs.declared.Kept.{Kept}
use Rattle.kept.specs.declared.Side.{Side}
use Rattle.kept.specs.Rounding.{rounded_product}
use Rattle.steps.specs.Numbers.{StepNumber}
use Rattle.steps.specs.CorrelatedBinomial.Rows.{constant, kept_conditional, kept_joint, kept_power, kept_weight, kept_pass_step, kept_row}

-- Every number that steps 1 to 3 make for rows 0 to n.
pub data RowNumber (side : Side) (n p ρ : ℕ) : Kept → Type 0 where
  is_p : RowNumber side n p ρ (constant side p)
  is_a : RowNumber side n p ρ (constant side (complement p))
  is_ρ : RowNumber side n p ρ (constant side ρ)
  is_q : RowNumber side n p ρ (constant side (complement ρ))
  is_conditional_product : (k : ℕ) → k ≤ n → RowNumber side n p ρ (rounded_product side (kept_conditional side p ρ k) (constant side (complement ρ)))
  is_conditional : (k : ℕ) → k ≤ n → RowNumber side n p ρ (kept_conditional side p ρ k)
  is_joint : (k : ℕ) → k ≤ n → RowNumber side n p ρ (kept_joint side p ρ k)
  is_power : (j : ℕ) → j ≤ n → RowNumber side n p ρ (kept_power side ρ j)
  is_weight : (j : ℕ) → j ≤ n → RowNumber side n p ρ (kept_weight side p ρ j)
  -- In the row that starts as row k, after s passes: an entry, and its product with ρ.
  is_passed : (k s j : ℕ) → k ≤ n → j ≤ k → RowNumber side n p ρ (passed (kept_pass_step side (constant side ρ)) (suc k) s (kept_row side p ρ k) j)
  is_pass_product : (k s j : ℕ) → k ≤ n → j ≤ k
      → RowNumber side n p ρ (rounded_product side (constant side ρ) (passed (kept_pass_step side (constant side ρ)) (suc k) s (kept_row side p ρ k) j))
  is_entry : (k j : ℕ) → k ≤ n → j ≤ k → RowNumber side n p ρ (kept_row side p ρ k j)

-- Every number that the steps make for a pool, and for each tranche on it.
pub data PoolNumber (side : Side) (n p ρ : ℕ) : Kept → Type 0 where
  of_rows : {x : Kept} → RowNumber side n p ρ x → PoolNumber side n p ρ x
  of_steps : {x : Kept} → StepNumber side n (kept_row side p ρ n) x → PoolNumber side n p ρ x
