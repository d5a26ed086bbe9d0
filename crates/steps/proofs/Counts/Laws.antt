-- How far a count is from its exact value, and that the exponents stay in their range.
-- Assumes nothing.
use Rattle.std.specs.Prelude.{ℕ, suc, ◌≤◌, ◌≡◌, refl}
use Rattle.std.proofs.Common.{le_refl, le_trans, arith, lit≤}
use Rattle.model.specs.Number.{choose}
use Rattle.model.specs.Number.Laws.{choose_all, choose_at_most, pascal_holds}
use Rattle.model.specs.Fraction.{integer, plus, certainty}
use Rattle.kept.specs.declared.Kept.{Kept}
use Rattle.kept.specs.declared.Side.{Side}
use Rattle.kept.specs.Rounding.{unity}
use Rattle.kept.specs.Rounding.Laws.{unity_kept, unity_value}
use Rattle.kept.specs.Accuracy.{precision, Bound}
use Rattle.kept.specs.Accuracy.Laws.{bound_exact, bound_integer, bound_same, bound_sum, bound_weaken}
use Rattle.steps.specs.Exponents.{Ranged}
use Rattle.steps.proofs.Exponents.Laws.{bound_ranged, integer_ranged}
use Rattle.steps.proofs.Inputs.Laws.{up_to_lem, up_to_both}
use Rattle.steps.specs.Counts.{exact_assets, summed_count, kept_count, count_budget, CountNumber, is_count, is_summed}

-- ---- by sums

-- Both ends of a row are one.
end_bound : (side : Side) (k : ℕ) {count : ℕ} → count ≡ 1 → Bound side k unity (integer count)
unfolding integer certainty
end_bound side k is = rw is (bound_weaken (omega arith) (bound_exact unity_kept unity_value))

-- A row of sums adds one part at most.
pub summed_bound : (side : Side) (k j : ℕ) → j ≤ k → Bound side k (summed_count side k j) (integer (choose k j))
unfolding summed_count choose integer plus
summed_bound side =
    pascal_holds _ _ (λ k j x. Bound side k x (integer (choose k j))) (λ k. end_bound side k refl) (λ k. end_bound side k (choose_all k))
    (λ k j x y l left right. bound_same (record { cross = omega arith }) (bound_weaken (omega arith) (bound_sum left right)))

pub summed_ranged : (side : Side) (k j : ℕ) → k ≤ 100 → j ≤ k → Ranged (summed_count side k j)
unfolding integer precision
summed_ranged side k j few l = bound_ranged (summed_bound side k j l) 0 k (lit≤ tt) (omega (arith, choose_at_most k j)) (omega arith)

-- ---- by either rule

pub count_bound : (side : Side) (n j : ℕ) → j ≤ n → Bound side (count_budget n) (kept_count side n j) (integer (choose n j))
unfolding kept_count count_budget
count_bound side n j l =
    up_to_both (λ b x. Bound side b x (integer (choose n j))) exact_assets n (λ _. bound_integer side (choose n j)) (λ _. summed_bound side n j l)

-- A larger pool has the larger budget.
pub count_budget_mono : {k n : ℕ} → k ≤ n → count_budget k ≤ count_budget n
unfolding count_budget
count_budget_mono {k} {n} l =
    up_to_lem (λ b. b ≤ count_budget n) exact_assets k
    (λ few. up_to_lem (λ b. 1 ≤ b) exact_assets n (λ _. le_refl 1) (λ more. omega arith))
    (λ more. up_to_lem (λ b. k ≤ b) exact_assets n (λ few. absurd (omega arith)) (λ _. l))

pub count_budget_most : (n : ℕ) → count_budget n ≤ suc n
unfolding count_budget
count_budget_most n = up_to_lem (λ b. b ≤ suc n) exact_assets n (λ _. omega arith) (λ _. omega arith)

pub counts_ranged : {side : Side} {n : ℕ} → n ≤ 100 → {x : Kept} → CountNumber side n x → Ranged x
unfolding kept_count
counts_ranged {side} {n} few (is_count j l) =
    up_to_lem Ranged exact_assets n (λ _. integer_ranged side (choose n j) n (choose_at_most n j) few) (λ _. summed_ranged side n j few l)
counts_ranged {side} few (is_summed more k j l m) = summed_ranged side k j (le_trans l few) m
