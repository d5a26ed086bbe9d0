-- The budgets of the correlated binomial model's rows. A means of proof: no promise cites them.
-- Assumes nothing.
use Rattle.std.specs.Prelude.{ℕ, suc, ◌+◌, ◌*◌, ◌≤◌}
use Rattle.model.specs.Number.{triangle}
use Rattle.kept.specs.Accuracy.{precision, BudgetFor}
use Rattle.steps.specs.Budgets.{chance_budget, layer_budget}

-- An entry of row k: 3 × T(k).
unfoldable pub row_budget : ℕ → ℕ
row_budget k = 3 * triangle k

-- The chances of a pool.
unfoldable pub defaults_budget : ℕ → ℕ
defaults_budget n = chance_budget n (row_budget n)

-- The loss of a layer, the largest budget among those of entries, chances, tails and losses.
unfoldable pub pool_budget : ℕ → ℕ
pool_budget n = layer_budget n (defaults_budget n)

-- In every pool of k ≤ n assets, row k of a store for n among them, two bounds are at most one part in g k apart.
pub record BudgetsFor (g : ℕ → ℕ) (n : ℕ) : Type 0 where
  pub budget : {k : ℕ} → k ≤ n → BudgetFor (g k) (pool_budget k)

-- What is asked of the number of assets: every number is within half of the 2^31 parts of its exact value, no denominator of an exact value is above
-- 2^79,968, and neither the passes nor the counts of orders bring a value above 2^100.
pub record FewAssets (n : ℕ) : Type 0 where
  pub parts : (row_budget (suc n) + 2) * 2 ≤ precision
  pub places : 14 * (triangle (suc n) + 2) ≤ 79968
  pub assets : n ≤ 100
