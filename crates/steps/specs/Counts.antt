-- The counts of orders: in how many orders j of n assets can default, in kept numbers of one side.
-- Assumes nothing.
use Rattle.std.specs.Prelude.{ℕ, ◌≤◌, ◌<◌}
use Rattle.model.specs.Number.{choose, pascal_row}
use Rattle.kept.specs.declared.Kept.{Kept}
use Rattle.kept.specs.declared.Side.{Side}
use Rattle.kept.specs.Rounding.{unity, rounded_sum, of_integer}
use Rattle.steps.specs.Inputs.{up_to}

-- The most assets whose counts are worked out exactly: each is below 2^64.
unfoldable pub exact_assets : ℕ
exact_assets = 64

-- C(k,j) by sums of kept numbers: ones at both ends of row k, and inside C(k−1,j−1) + C(k−1,j).
unfoldable pub summed_count : (side : Side) (k j : ℕ) → Kept
summed_count side = pascal_row unity (rounded_sum side)

-- C(n,j): worked out exactly and rounded for few assets, by sums for more.
unfoldable pub kept_count : (side : Side) (n j : ℕ) → Kept
kept_count side n j = up_to exact_assets n (of_integer side (choose n j)) (summed_count side n j)

-- How many parts in 2^31 a count can be away from C(n,j): one for the rounding of a whole number, at most one for each row of sums.
unfoldable pub count_budget : ℕ → ℕ
count_budget n = up_to exact_assets n 1 n

-- Every number that is made for the counts of n assets: the counts, and where they are made by sums those of every row before.
pub data CountNumber (side : Side) (n : ℕ) : Kept → Type 0 where
  is_count : (j : ℕ) → j ≤ n → CountNumber side n (kept_count side n j)
  is_summed : exact_assets < n → (k j : ℕ) → k ≤ n → j ≤ k → CountNumber side n (summed_count side k j)
