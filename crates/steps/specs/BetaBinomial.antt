-- The steps for a pool of n assets by the beta-binomial model, for one side: P(0,n) to P(n,n) as products of quotients, then steps 4 to 6 as for any row.
-- Assumes nothing.
use Rattle.std.specs.Prelude.{ℕ, zero, suc, ◌*◌, ◌≤◌, ◌<◌}
use Rattle.model.specs.BetaBinomial.{quotient_numerator, quotient_denominator}
use Rattle.kept.specs.declared.Kept.{Kept}
use Rattle.kept.specs.declared.Side.{Side}
use Rattle.kept.specs.Rounding.{unity, rounded_product, of_ratio}
use Rattle.steps.specs.Chances.{kept_chances}
use Rattle.steps.specs.Numbers.{StepNumber}

-- f 0 × f 1 × … × f (m − 1), starting from one and multiplied in this order. Each product is rounded once.
unfoldable pub kept_product : (side : Side) → (ℕ → Kept) → ℕ → Kept
kept_product side f zero = unity
kept_product side f (suc m) = rounded_product side (kept_product side f m) (f m)

-- Quotient t of entry j, rounded once from its exact fraction.
unfoldable pub kept_quotient : (side : Side) (p ρ j t : ℕ) → Kept
kept_quotient side p ρ j t = of_ratio side (quotient_numerator p ρ j t) (quotient_denominator ρ t)

module _ (side : Side) (n p ρ : ℕ) where
  -- Entry j, which bounds P(j,n): the quotients for t = 0 up to n − 1 are multiplied on from one.
  unfoldable pub kept_entry : ℕ → Kept
  kept_entry j = kept_product side (kept_quotient side p ρ j) n

  -- The chances of 0 to n defaults in any order, by step 4.
  unfoldable pub kept_beta_defaults : ℕ → Kept
  kept_beta_defaults = kept_chances side n kept_entry

  -- Every number that the steps make for a pool, and for each tranche on it.
  pub data BetaNumber : Kept → Type 0 where
    is_quotient : (j t : ℕ) → j ≤ n → t < n → BetaNumber (kept_quotient side p ρ j t)
    is_product : (j k : ℕ) → j ≤ n → k ≤ n → BetaNumber (kept_product side (kept_quotient side p ρ j) k)
    of_steps : {x : Kept} → StepNumber side n kept_entry x → BetaNumber x

-- How many parts in 2^31 an entry can be away from P(j,n): for each of n quotients its own rounding and that of the product. A means of proof: no promise cites it.
unfoldable pub quotients_budget : ℕ → ℕ
quotients_budget n = 2 * n
