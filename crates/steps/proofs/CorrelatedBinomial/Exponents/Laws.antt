-- That the exponents of the rows stay in their range.
-- Assumes nothing.
use Prim.Native.Nat.{ℕ, suc, ◌+◌, ◌-◌, ◌*◌, ◌^◌, ◌≤◌, min}
use Rattle.std.proofs.Common.{arith, pow-suc}
use Rattle.std.proofs.Math.Nat.{mul-le-mul, pow-zero, pow-succ', pow-le-pow_left}
use Rattle.model.specs.Number.{triangle}
use Rattle.model.specs.Number.Laws.{triangle_mono}
use Rattle.model.specs.Fraction.{whole, complement, over}
use Rattle.model.specs.Fraction.Laws.{complement_at_most, whole_digits}
use Rattle.model.specs.Passes.{passed}
use Rattle.model.proofs.Passes.Laws.{passed_folded}
use Rattle.model.proofs.CorrelatedBinomial.Rows.{row_at_most, conditional_at_most, weight_at_most, joint_at_most, folded_at_most}
use Rattle.kept.specs.declared.Kept.{Kept}
use Rattle.kept.specs.declared.Side.{Side}
use Rattle.kept.specs.Rounding.{rounded_product}
use Rattle.steps.specs.CorrelatedBinomial.Budgets.{row_budget, FewAssets}
use Rattle.steps.specs.CorrelatedBinomial.Rows.{constant, kept_pass_step, kept_row}
use Rattle.steps.proofs.CorrelatedBinomial.Rows.Laws.{BoundOver, constant_bound, constant_times_bound, times_constant_bound, conditional_bound, joint_bound, power_bound, weight_bound, folded_bound, row_bound}
use Rattle.steps.specs.Exponents.{Ranged}
use Rattle.steps.proofs.Exponents.Laws.{bound_ranged, unscaled}
use Rattle.steps.specs.CorrelatedBinomial.Exponents.{RowNumber, is_p, is_a, is_ρ, is_q, is_conditional_product, is_conditional, is_joint, is_power, is_weight, is_passed, is_pass_product, is_entry}

module _ (side : Side) {n p ρ : ℕ} (within : FewAssets n) (p≤1 : p ≤ whole) (ρ≤1 : ρ ≤ whole) where
  -- A value of at most 2^c over a power of 10,000, and one of at most one.
  over_ranged : {b N t : ℕ} {x : Kept} (c : ℕ) → BoundOver side b x N t → N ≤ whole ^ t * 2 ^ c
      → (b ≤ row_budget (suc n)) × (t ≤ triangle (suc n) + 1) × (c ≤ n) → Ranged x
  unfolding over
  over_ranged {t} c near most small = bound_ranged near.bound (14 * t) c (whole_digits t) most (omega arith)

  part_ranged : {b N t : ℕ} {x : Kept} → BoundOver side b x N t → N ≤ whole ^ t → (b ≤ row_budget (suc n)) × (t ≤ triangle (suc n) + 1) → Ranged x
  part_ranged near most small = over_ranged 0 near (unscaled most) (omega arith)

  -- One of p, a, ρ and q.
  constant_ranged : {x : ℕ} → x ≤ whole → Ranged (constant side x)
  unfolding row_budget triangle
  constant_ranged {x} l = part_ranged (constant_bound side x) (rw (pow-suc whole 0, pow-zero whole) (omega arith)) (omega arith)

  -- An entry after s passes, and its product with ρ.
  passed_ranged : (k s j : ℕ) → k ≤ n → j ≤ k
      → Ranged (passed (kept_pass_step side (constant side ρ)) (suc k) s (kept_row side p ρ k) j)
      × Ranged (rounded_product side (constant side ρ) (passed (kept_pass_step side (constant side ρ)) (suc k) s (kept_row side p ρ k) j))
  unfolding row_budget triangle
  passed_ranged k s j l m =
      let d : ℕ = min s (suc k - suc j) in
      let smaller = triangle_mono l in
      let entry = folded_bound side p ρ k d j (omega arith) in
      let most = folded_at_most p ρ p≤1 ρ≤1 k d j (omega arith) in
      rw (passed_folded (kept_pass_step side (constant side ρ)) (kept_row side p ρ k) (suc k) s j) (
        over_ranged d entry most (omega arith),
        over_ranged d (constant_times_bound side ρ entry) (rw (pow-succ' whole (triangle k + d)) (omega (arith, mul-le-mul ρ≤1 most))) (omega arith),
      )

  pub rows_ranged : {x : Kept} → RowNumber side n p ρ x → Ranged x
  unfolding row_budget triangle
  rows_ranged is_p = constant_ranged p≤1
  rows_ranged is_a = constant_ranged (complement_at_most p)
  rows_ranged is_ρ = constant_ranged ρ≤1
  rows_ranged is_q = constant_ranged (complement_at_most ρ)
  rows_ranged (is_conditional_product k l) =
      part_ranged (times_constant_bound side (complement ρ) (conditional_bound side p ρ k))
      (rw (pow-suc whole (suc k)) (mul-le-mul (conditional_at_most p ρ p≤1 ρ≤1 k) (complement_at_most ρ))) (omega arith)
  rows_ranged (is_conditional k l) = part_ranged (conditional_bound side p ρ k) (conditional_at_most p ρ p≤1 ρ≤1 k) (omega arith)
  rows_ranged (is_joint k l) = part_ranged (joint_bound side p ρ k) (joint_at_most p ρ p≤1 ρ≤1 (suc k)) (omega (arith, triangle_mono l))
  rows_ranged (is_power j l) = part_ranged (power_bound side p ρ j) (pow-le-pow_left (complement_at_most ρ) j) (omega arith)
  rows_ranged (is_weight j l) = part_ranged (weight_bound side p ρ j) (weight_at_most p ρ p≤1 ρ≤1 j) (omega arith)
  rows_ranged (is_passed k s j l m) = (passed_ranged k s j l m).0
  rows_ranged (is_pass_product k s j l m) = (passed_ranged k s j l m).1
  rows_ranged (is_entry k j l m) = part_ranged (row_bound side p ρ k j m) (row_at_most p ρ p≤1 ρ≤1 k j m) (omega (arith, triangle_mono l))
