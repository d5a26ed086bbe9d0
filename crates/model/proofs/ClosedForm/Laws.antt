-- The closed form of P(j,k) takes the correlation after 0 to k − 2 defaults, and no other.
-- Assumes nothing.
use Prim.Native.Nat.{ℕ, zero, suc, ◌+◌, ◌*◌, ◌-◌, ◌≤◌, ◌<◌}
use Rattle.std.specs.Prelude.{◌≡◌}
use Rattle.std.proofs.Math.Path.{refl, ap₂}
use Rattle.std.proofs.Math.Nat.{le_step}
use Rattle.std.proofs.Common.{lt-suc_self, arith}
use Rattle.model.specs.Number.{product_between}
use Rattle.model.specs.Number.Laws.{product_cong, alternating_cong}
use Rattle.model.specs.Fraction.Laws.{fraction_fields}
use Rattle.model.specs.ClosedForm.{Correlation, conditional_den, joint_den, conditional_by, joint_by, closed_form_by, probability_by}

-- The correlations after fewer than k defaults are the same.
abbrev pub Agree : (k : ℕ) (c d : Correlation) → Type 0
Agree k c d = (i : ℕ) → i < k → (c.num i ≡ d.num i) × (c.den i ≡ d.den i)

module _ (c d : Correlation) (p : ℕ) where
  conditional_dens_agree : (k : ℕ) → Agree k c d → conditional_den c k ≡ conditional_den d k
  unfolding conditional_den
  conditional_dens_agree k agree = rw (product_cong k (λ i l. (agree i l).1)) refl

  conditionals_agree : (k : ℕ) → Agree k c d → conditional_by c p k ≡ conditional_by d p k
  unfolding conditional_by
  conditionals_agree zero agree = refl
  conditionals_agree (suc k) agree =
      let before : Agree k c d = λ i l. agree i (le_step l) in
      let here = agree k (lt-suc_self k) in
      rw (conditionals_agree k before, conditional_dens_agree k before, here.0, here.1) refl

  -- Of the correlations after 0 to k − 2 defaults, the closed form of P(j,k) takes nothing else.
  pub probabilities_agree : {j k : ℕ} → j ≤ k → Agree (k - 1) c d → probability_by c p j k ≡ probability_by d p j k
  unfolding probability_by closed_form_by joint_by joint_den product_between
  probabilities_agree {j} {k} l agree =
      let dens : (i : ℕ) → i < k → conditional_den c i ≡ conditional_den d i = λ i m. conditional_dens_agree i (λ t less. agree t (omega arith)) in
      let conditionals : (i : ℕ) → i < k → conditional_by c p i ≡ conditional_by d p i = λ i m. conditionals_agree i (λ t less. agree t (omega arith)) in
      let form : closed_form_by c p j k ≡ closed_form_by d p j k =
      alternating_cong (k - j) (λ i m.
      ap₂ ◌*◌ (product_cong (j + i) (λ t less. conditionals t (omega arith))) (product_cong (k - (j + i)) (λ t less. dens (j + i + t) (omega arith)))) in
      fraction_fields (rw form refl) (product_cong k dens)
