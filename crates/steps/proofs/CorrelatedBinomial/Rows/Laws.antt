-- How far each number of steps 1 to 3 is from its exact value, in parts of 2^31.
-- Assumes nothing.
use Prim.Native.Nat.{ℕ, zero, suc, ◌+◌, ◌-◌, ◌*◌, ◌^◌, ◌≤◌}
use Rattle.std.specs.Prelude.{◌≡◌, refl}
use native.Mathlib.Omega.{arith}
use Rattle.std.proofs.Math.Nat.{pow-succ', pow-zero}
use Rattle.std.proofs.Math.Decide.{dec_le}
use Rattle.std.proofs.Common.{lt-ltb, le-ltb}
use Rattle.model.specs.Number.{triangle}
use Rattle.model.specs.Fraction.{whole, complement, over, certainty}
use Rattle.model.specs.Fraction.Laws.{over_same, over_times, over_plus}
use Rattle.model.specs.Passes.{folded}
use Rattle.model.proofs.Passes.Laws.{passed_all}
use Rattle.model.proofs.CorrelatedBinomial.Rows.{row_next, row_last}
use Rattle.model.proofs.CorrelatedBinomial.Theorems.{probability_row}
use Rattle.model.specs.CorrelatedBinomial.{conditional, joint, probability, pass_step, row_entry}
use Rattle.kept.specs.declared.Kept.{Kept}
use Rattle.kept.specs.declared.Side.{Side}
use Rattle.kept.specs.Rounding.{unity, rounded_product, rounded_sum}
use Rattle.kept.specs.Rounding.Laws.{unity_kept, unity_value}
use Rattle.kept.specs.Accuracy.{Bound}
use Rattle.kept.specs.Accuracy.Laws.{bound_exact, bound_weaken, bound_same, bound_basis_points, bound_product, bound_sum}
use Rattle.steps.specs.CorrelatedBinomial.Rows.{constant, kept_conditional, kept_joint, kept_power, kept_weight, kept_pass_step, kept_row}
use Rattle.steps.specs.CorrelatedBinomial.Budgets.{row_budget}

-- ---- numbers over powers of 10,000

-- x is within b parts of N / 10,000^t.
pub record BoundOver (side : Side) (b : ℕ) (x : Kept) (N t : ℕ) : Type 0 where
  pub bound : Bound side b x (over N t)

module _ {side : Side} {x : Kept} where
  -- A larger budget, and the same value written otherwise.
  over_bound : {b c N M t u : ℕ} → BoundOver side b x N t → (b ≤ c) × (N ≡ M) × (t ≡ u) → BoundOver side c x M u
  over_bound l same = record { bound = bound_weaken same.0 (rw (← same.1, ← same.2) l.bound) }

  over_raised : {b c N M t u : ℕ} → BoundOver side b x N t → (b ≤ c) × (N * whole ^ u ≡ M * whole ^ t) → BoundOver side c x M u
  over_raised {N} {M} {t} {u} l raised = record { bound = bound_weaken raised.0 (bound_same (over_same N M t u raised.1) l.bound) }

module _ {side : Side} {x y : Kept} where
  over_product_bound : {a b c N M K t u v : ℕ} → BoundOver side a x N t → BoundOver side b y M u
      → (a + b + 1 ≤ c) × (N * M ≡ K) × (t + u ≡ v) → BoundOver side c (rounded_product side x y) K v
  over_product_bound {N} {M} {t} {u} l m =
      over_bound {N = N * M} {t = t + u} (record { bound = bound_same (over_times N M t u) (bound_product l.bound m.bound) })

  over_sum_bound : {b c N M K t : ℕ} → BoundOver side b x N t → BoundOver side b y M t → (b + 1 ≤ c) × (N + M ≡ K)
      → BoundOver side c (rounded_sum side x y) K t
  over_sum_bound {N} {M} {t} l m same =
      over_bound {N = N + M} {t = t} (record { bound = bound_same (over_plus N M t) (bound_sum l.bound m.bound) }) (same.0, same.1, refl)

module _ (side : Side) where
  unity_bound : {N : ℕ} → N ≡ 1 → BoundOver side 0 unity N 0
  unfolding over certainty
  unity_bound one = record { bound = bound_same (record { cross = rw (one, pow-zero whole) }) (bound_exact unity_kept unity_value) }

  pub constant_bound : (x : ℕ) → BoundOver side 1 (constant side x) x 1
  unfolding constant
  constant_bound x = record { bound = bound_basis_points side x }

  -- The product of a constant and a number, either way round.
  pub constant_times_bound : {b N t : ℕ} {y : Kept} (x : ℕ) → BoundOver side b y N t
      → BoundOver side (b + 2) (rounded_product side (constant side x) y) (x * N) (suc t)
  constant_times_bound x l = over_product_bound (constant_bound x) l (omega arith)

  pub times_constant_bound : {b N t : ℕ} {y : Kept} (x : ℕ) → BoundOver side b y N t
      → BoundOver side (b + 2) (rounded_product side y (constant side x)) (N * x) (suc t)
  times_constant_bound x l = over_product_bound l (constant_bound x) (omega arith)

module _ (side : Side) (p ρ : ℕ) where
  pub conditional_bound : (k : ℕ) → BoundOver side (3 * k + 1) (kept_conditional side p ρ k) (conditional p ρ k) (suc k)
  unfolding kept_conditional conditional
  conditional_bound zero = constant_bound side p
  conditional_bound (suc k) =
      over_sum_bound {M = ρ * whole ^ suc k} (times_constant_bound side (complement ρ) (conditional_bound k))
      (over_raised (constant_bound side ρ) (rw (pow-succ' whole (suc k), pow-succ' whole 0, pow-zero whole) (omega arith))) (omega arith)

  pub joint_bound : (k : ℕ) → BoundOver side (row_budget (suc k)) (kept_joint side p ρ k) (joint p ρ (suc k)) (triangle (suc k))
  unfolding kept_joint joint triangle row_budget
  joint_bound zero = over_bound (conditional_bound 0) (omega arith)
  joint_bound (suc k) = over_product_bound (joint_bound k) (conditional_bound (suc k)) (omega arith)

  pub power_bound : (j : ℕ) → BoundOver side (2 * j) (kept_power side ρ j) (complement ρ ^ j) j
  unfolding kept_power
  power_bound zero = unity_bound side (pow-zero (complement ρ))
  power_bound (suc j) = over_bound (times_constant_bound side (complement ρ) (power_bound j)) (omega (arith, pow-succ' (complement ρ) j))

  pub weight_bound : (j : ℕ) → BoundOver side (2 * j + 2) (kept_weight side p ρ j) (complement p * complement ρ ^ j) (suc j)
  unfolding kept_weight
  weight_bound j = constant_times_bound side (complement p) (power_bound j)

  pass_step_bound : {b N M t : ℕ} {x y : Kept} → BoundOver side b x N t → BoundOver side b y M t
      → BoundOver side (b + 3) (kept_pass_step side (constant side ρ) x y) (pass_step ρ N M) (suc t)
  unfolding kept_pass_step pass_step
  pass_step_bound {N} {t} l m =
      over_sum_bound {N = whole * N} (over_raised l (rw (pow-succ' whole t) (omega arith))) (constant_times_bound side ρ m) (omega arith)

  -- Entry j after s passes that reach it, of a row whose entries up to j + s are known.
  folded_bound_of : {b t : ℕ} (f : ℕ → Kept) (g : ℕ → ℕ) (k : ℕ) → ((i : ℕ) → i ≤ k → BoundOver side b (f i) (g i) t) → (s j : ℕ) → j + s ≤ k
      → BoundOver side (b + 3 * s) (folded (kept_pass_step side (constant side ρ)) s f j) (folded (pass_step ρ) s g j) (t + s)
  unfolding folded
  folded_bound_of f g k h zero j l = over_bound (h j (omega arith)) (omega arith)
  folded_bound_of f g k h (suc s) j l =
      over_bound (pass_step_bound (folded_bound_of f g k h s j (omega arith)) (folded_bound_of f g k h s (suc j) (omega arith))) (omega arith)

  pub row_bound : (k j : ℕ) → j ≤ k → BoundOver side (row_budget k) (kept_row side p ρ k j) (row_entry p ρ k j) (triangle k)
  unfolding kept_row triangle row_budget joint
  row_bound zero j l = let only : j ≡ 0 = omega arith in unity_bound side (rw only (row_last p ρ 0))
  row_bound (suc k) j l = elim (dec_le j k) [
    | yes m ↦
        let d : ℕ = k - j in
        let split : j + d ≡ k = omega arith in
        rw (lt-ltb j (suc k) (omega arith), passed_all (kept_pass_step side (constant side ρ)) (kept_row side p ρ k) k j d split)
        (over_product_bound (folded_bound_of (kept_row side p ρ k) (row_entry p ρ k) k (row_bound k) d j (omega arith)) (weight_bound j)
        (omega (arith, row_next p ρ k j d split)))
    | no m ↦
        let last : j ≡ suc k = omega arith in
        rw (le-ltb j (suc k) (omega arith), last, row_last p ρ (suc k)) (joint_bound k)
  ]

  pub folded_bound : (k s j : ℕ) → j + s ≤ k
      → BoundOver side (row_budget k + 3 * s) (folded (kept_pass_step side (constant side ρ)) s (kept_row side p ρ k) j)
      (folded (pass_step ρ) s (row_entry p ρ k) j) (triangle k + s)
  folded_bound k = folded_bound_of (kept_row side p ρ k) (row_entry p ρ k) k (row_bound k)

  -- Entry j of row k against P(j,k).
  pub entry_bound : p ≤ whole → ρ ≤ whole → {j k : ℕ} → j ≤ k → Bound side (row_budget k) (kept_row side p ρ k j) (probability p ρ j k)
  entry_bound p≤1 ρ≤1 {j} {k} l = rw (probability_row p ρ p≤1 ρ≤1 l) (row_bound k j l).bound
