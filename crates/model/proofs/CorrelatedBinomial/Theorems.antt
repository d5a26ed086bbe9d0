-- The theorems of the correlated binomial model, for every default probability p and correlation ρ from 0 to 10,000 and with no bound on the number of
-- assets: the closed form is that of any correlation at a constant one, the three forms of P(j,k) agree, P splits and is never negative, the chances add to one, the
-- mean is n × p, and the layer of all defaults loses p.
-- Assumes nothing.
use Prim.Native.Nat.{ℕ, zero, suc, ◌+◌, ◌*◌, ◌-◌, ◌^◌, ◌≤◌, ◌<◌}
use Rattle.std.specs.Prelude.{◌≡◌, pos}
use Rattle.std.proofs.Math.Path.{refl, ap, ap₂}
use Rattle.std.proofs.Common.{sym, ◌∙◌, arith, le_of_suc-le-suc, add-sub_of_le, le_refl, pow-add}
use Rattle.std.proofs.Math.Nat.{pow-succ', mul-le-mul_right}
use Rattle.model.specs.Number.{product, product_between, choose, triangle, binomial_sum, raise}
use Rattle.model.specs.Number.Laws.{sum_cong, product_cong, product_const, binomial_cong, alternating_cong}
use Rattle.model.specs.Splitting.{rows_alternating}
use Rattle.model.specs.Fraction.{Fraction, Same, AtMost, plus, whole, complement, certainty, over}
use Rattle.model.specs.Fraction.Laws.{fraction_fields, same_trans}
use Rattle.model.specs.Chances.{Complete, mean, tails_total, layer_loss, share}
use Rattle.model.proofs.Chances.Laws.{tails_total_lem, layer_of_mean}
use Rattle.model.specs.ClosedForm.{constantly, conditional_den, joint_den, conditional_by, joint_by, closed_form_by, probability_by}
use Rattle.model.specs.CorrelatedBinomial.{conditional, joint, closed_form, probability, defaults, without_subtraction, row_entry, scaled_joint}
use Rattle.model.proofs.CorrelatedBinomial.Rows.{row_last, row_next, row_splits, folded_binomial, row_total, row_mean, row_at_most, rows_split, powers_product, powers_between}

-- The closed form is the one for a correlation that may depend on the number of defaults, at ρ for every number of them: p_(k+1), m_k and P(j,k).
module _ (p ρ : ℕ) where
  constant_den : (k : ℕ) → conditional_den (constantly ρ) k ≡ whole ^ suc k
  unfolding conditional_den constantly
  constant_den k = rw (product_const k whole, pow-succ' whole k)

  conditional_constant : (k : ℕ) → conditional_by (constantly ρ) p k ≡ conditional p ρ k
  unfolding conditional_by conditional constantly complement
  conditional_constant zero = refl
  conditional_constant (suc k) = rw (conditional_constant k, constant_den k) refl

  joint_constant : (k : ℕ) → joint_by (constantly ρ) p k ≡ joint p ρ k
  unfolding joint_by joint product
  joint_constant zero = refl
  joint_constant (suc k) = rw (joint_constant k, conditional_constant k) refl

  pub probability_constant : (j k : ℕ) → probability_by (constantly ρ) p j k ≡ probability p ρ j k
  unfolding probability_by closed_form_by joint_den product_between probability closed_form scaled_joint over
  probability_constant j k =
      fraction_fields
      (ap raise (alternating_cong (k - j) (λ i l.
      ap₂ ◌*◌ (joint_constant (j + i)) (product_cong (k - (j + i)) (λ t m. constant_den (j + i + t)) ∙ powers_between (j + i) k))))
      (product_cong k (λ t l. constant_den t) ∙ powers_product k)

module _ (p ρ : ℕ) (p≤1 : p ≤ whole) (ρ≤1 : ρ ≤ whole) where
  -- The closed form of P(j,k) is entry j of row k, made by the passes.
  pub closed_form_lem : {j k : ℕ} → j ≤ k → closed_form p ρ j k ≡ pos (row_entry p ρ k j)
  unfolding closed_form scaled_joint
  closed_form_lem j≤k = simp (row_last p ρ, powers_between) at (rows_alternating (λ i. whole ^ suc i) (row_entry p ρ) (rows_split p ρ p≤1 ρ≤1) j≤k)

  -- P(j,k) is entry j of row k, made by the passes.
  pub probability_row : {j k : ℕ} → j ≤ k → probability p ρ j k ≡ over (row_entry p ρ k j) (triangle k)
  unfolding probability raise
  probability_row {j} {k} l = ap (λ z. over (raise z) (triangle k)) (closed_form_lem l)

  numerator_row : {j k : ℕ} → j ≤ k → (probability p ρ j k).num ≡ row_entry p ρ k j
  unfolding over
  numerator_row l = ap (λ (x : Fraction). x.num) (probability_row l)

  -- P(k,k) = m_k
  pub probability_last : (k : ℕ) → probability p ρ k k ≡ over (joint p ρ k) (triangle k)
  probability_last k = probability_row (le_refl k) ∙ ap (λ z. over z (triangle k)) (row_last p ρ k)

  -- No P(j,k) is negative: the closed form is the numerator of the fraction.
  pub closed_form_numerator : {j k : ℕ} → j ≤ k → closed_form p ρ j k ≡ pos (probability p ρ j k).num
  closed_form_numerator l = closed_form_lem l ∙ ap pos (sym (numerator_row l))

  -- P(j,k+1) by the form without subtraction, for j below k + 1.
  pub without_subtraction_lem : {j k : ℕ} → j ≤ k → probability p ρ j (suc k) ≡ over (without_subtraction p ρ j k) (triangle (suc k))
  unfolding without_subtraction
  without_subtraction_lem {j} {k} l =
      probability_row {j = j} {k = suc k} (omega arith)
      ∙ ap (λ z. over z (triangle (suc k)))
      (row_next p ρ k j (k - j) (add-sub_of_le l)
      ∙ ap (λ z. complement p * complement ρ ^ j * z)
      (folded_binomial ρ (row_entry p ρ k) (k - j) j
      ∙ binomial_cong (k - j) (λ i m. ap (λ z. whole ^ (k - j - i) * ρ ^ i * z) (sym (numerator_row {j = j + i} {k = k} (omega arith))))))

  -- P(j,k+1) + P(j+1,k+1) = P(j,k)
  pub probability_splits : {j k : ℕ} → j ≤ k → Same (plus (probability p ρ j (suc k)) (probability p ρ (suc j) (suc k))) (probability p ρ j k)
  unfolding plus over triangle
  probability_splits {j} {k} l =
      let t : ℕ = whole ^ triangle k in
      rw (probability_row {j = j} {k = suc k} (omega arith), probability_row {j = suc j} {k = suc k} (omega arith), probability_row l)
      (record { cross = rw (pow-add whole (triangle k) (suc k)) (omega (arith, ap (λ z. t * whole ^ suc k * t * z) (row_splits p ρ p≤1 ρ≤1 l))) })

  pub probability_at_most_one : {j k : ℕ} → j ≤ k → AtMost (probability p ρ j k) certainty
  unfolding over certainty
  probability_at_most_one {j} {k} l = rw (probability_row l) (omega (arith, row_at_most p ρ p≤1 ρ≤1 k j l))

  -- A nonzero P(j,k) is at least 1/D^T(k).
  pub probability_least : (j k : ℕ) → 0 < (probability p ρ j k).num → AtMost (over 1 (triangle k)) (probability p ρ j k)
  unfolding probability over
  probability_least j k l = record { cross = mul-le-mul_right (whole ^ triangle k) l }

  -- The chances of 0 to n defaults add to one.
  pub defaults_complete : (n : ℕ) → Complete (defaults n p ρ)
  unfolding defaults binomial_sum
  defaults_complete n = binomial_cong n (λ j l. numerator_row l) ∙ row_total p ρ p≤1 ρ≤1 n

  -- The mean number of defaults is n × p.
  pub defaults_mean : (n : ℕ) → Same (mean (defaults n p ρ)) (over (n * p) 1)
  unfolding mean defaults share over whole
  defaults_mean n = record {
    cross =
        ap (λ z. z * whole) (sum_cong (suc n) (λ j l. ap (λ z. j * (choose n j * z)) (numerator_row (le_of_suc-le-suc l))))
        ∙ row_mean p ρ p≤1 ρ≤1 n;
  }

  -- The tails at 1 to n add to n × p.
  pub defaults_tails_total : (n : ℕ) → Same (tails_total (defaults n p ρ)) (over (n * p) 1)
  defaults_tails_total n = same_trans (tails_total_lem (defaults n p ρ)) (defaults_mean n)

  -- The layer from the first to the n-th default loses p.
  pub defaults_layer : (n : ℕ) → 0 < n → Same (layer_loss (defaults n p ρ) 1 n) (over p 1)
  unfolding defaults
  defaults_layer n some = layer_of_mean (defaults n p ρ) p some (defaults_mean n)
