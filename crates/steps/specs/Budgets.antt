-- Budgets: how many parts in 2^31 the numbers that steps 4 to 6 make, for any row, can be away from their exact values. A means of proof: no promise cites them.
-- Assumes nothing.
use Rattle.std.specs.Prelude.{ℕ, suc, ◌+◌, ◌*◌, ◌^◌, ◌≤◌}
use Rattle.model.specs.Number.{choose}
use Rattle.model.specs.Fraction.{Fraction, Same, integer, times}
use Rattle.model.specs.Chances.{Chances, Complete, chance}
use Rattle.kept.specs.declared.Kept.{Kept}
use Rattle.kept.specs.declared.Side.{Side}
use Rattle.kept.specs.Accuracy.{precision, Bound}
use Rattle.steps.specs.Counts.{count_budget}

-- A chance, from entries that are b away: the count of orders, and the product.
unfoldable pub chance_budget : (n b : ℕ) → ℕ
chance_budget n b = b + count_budget n + 1

-- A tail, from chances of 0 to n defaults that are b away: at most n + 1 sums.
unfoldable pub tail_budget : (n b : ℕ) → ℕ
tail_budget n b = b + suc n

-- A tranche loss, from such chances: a product for each, n + 1 sums, a quotient.
unfoldable pub loss_budget : (n b : ℕ) → ℕ
loss_budget n b = b + 1 + suc n + 1

-- A layer, from such chances: the tails, at most n + 1 sums of them, a quotient. It is the largest of these budgets.
unfoldable pub layer_budget : (n b : ℕ) → ℕ
layer_budget n b = tail_budget n b + suc n + 1

-- Chances c of either side, each within b parts of that of the row r.
pub record Bounded (b : ℕ) (r : Chances) (c : Side → ℕ → Kept) : Type 0 where
  pub bound : (side : Side) (j : ℕ) → j ≤ r.assets → Bound side b (c side j) (chance r j)

-- What the promises of a row rest on: entries of both sides within b parts of values v; these values times the counts of orders are the chances of a complete row.
-- Every number is then within half of the 2^31 parts of its exact value. With at most 100 assets no count of orders is above 2^100, and loss units are below 2^32.
pub record WithinBudget (b : ℕ) (r : Chances) (v : ℕ → Fraction) (entry : Side → ℕ → Kept) : Type 0 where
  pub complete : Complete r
  pub entries : (side : Side) (j : ℕ) → j ≤ r.assets → Bound side b (entry side j) (v j)
  pub counted : (j : ℕ) → j ≤ r.assets → Same (times (integer (choose r.assets j)) (v j)) (chance r j)
  pub parts : layer_budget r.assets (chance_budget r.assets b) * 2 ≤ precision
  pub assets : r.assets ≤ 100

-- What the range of the exponents also rests on: values of at most one, and no denominator above 2^m, so that none of a number that is made is above 2^79,968.
pub record WithinPlaces (m : ℕ) (r : Chances) (v : ℕ → Fraction) : Type 0 where
  pub at_most_one : (j : ℕ) → j ≤ r.assets → (v j).num ≤ (v j).den
  pub denominators : (j : ℕ) → j ≤ r.assets → (v j).den ≤ 2 ^ m
  pub denominator : r.denominator ≤ 2 ^ m
  pub places : m + 32 ≤ 79968
