-- The theorems of the beta-binomial model, for every default probability p from 0 to 10,000 and every correlation ρ below 10,000, with no bound on the number of
-- assets: the closed form of P(j,k) is the product of the quotients and never negative, the chances add to one, the mean is n × p. Without correlation, and for at most
-- two assets at every correlation, the model is the correlated binomial.
-- Assumes nothing.
use Prim.Native.Nat.{ℕ, zero, suc, ◌+◌, ◌*◌, ◌-◌, ◌≤◌, ◌<◌}
use Rattle.std.specs.Prelude.{◌≡◌, pos}
use Rattle.std.proofs.Math.Path.{refl, ap}
use Rattle.std.proofs.Common.{sym, ◌∙◌, add-zero, add-suc, le_of_lt, sub-le, lt-ltb, le-ltb, lit<}
use native.Mathlib.Omega.{arith}
use Rattle.std.proofs.Math.Nat.{suc-sub-suc, mul-le-mul_right, add-sub_of_le, eq_of_mul-eq-mul_right}
use Rattle.std.proofs.Math.Decide.{dec_le}
use Rattle.model.specs.Number.{sum, product, product_between, choose, binomial_sum, raise}
use Rattle.model.specs.Number.Laws.{product_next, product_cong, product_mono, product_positive, product_parts}
use Rattle.model.specs.Splitting.{SplitsBy, rows_alternating, rows_total, rows_mean, alternating_same}
use Rattle.model.specs.Fraction.{Same, whole, complement, over}
use Rattle.model.specs.Fraction.Laws.{same_trans, complement_law, complement_at_most, whole_once}
use Rattle.model.specs.Chances.{Complete, SameChances, mean, chance, share}
use Rattle.model.proofs.Chances.Laws.{complete_same, mean_same}
use Rattle.model.specs.ClosedForm.{Correlation, constantly, conditional_den, joint_den, conditional_by, joint_by, closed_form_by, probability_by, defaults_by}
use Rattle.model.proofs.ClosedForm.Laws.{probabilities_agree}
use Rattle.model.specs.CorrelatedBinomial.{probability}
use Rattle.model.proofs.CorrelatedBinomial.Theorems.{probability_constant}
use Rattle.model.specs.BetaBinomial.{beta_correlation, beta_probability, beta_defaults, quotient_numerator, quotient_denominator, quotient_denominator_positive, quotient_product, quotient_defaults}

-- ---- the products of the quotients

module _ (p ρ : ℕ) where
  -- Factor t of an entry past it, and of one up to it.
  pub default_factor : {j t : ℕ} → t < j → quotient_numerator p ρ j t ≡ p * complement ρ + t * ρ * whole
  unfolding quotient_numerator
  default_factor {j} {t} l = rw (lt-ltb t j l) refl

  pub survival_factor : {j t : ℕ} → j ≤ t → quotient_numerator p ρ j t ≡ complement p * complement ρ + (t - j) * ρ * whole
  unfolding quotient_numerator
  survival_factor {j} {t} l = rw (le-ltb t j l) refl

  -- The numerators of P(j,k).
  abbrev entry : ℕ → ℕ → ℕ
  entry k j = product k (quotient_numerator p ρ j)

  -- One more asset, and that one defaults.
  entry_default : (j d : ℕ) → entry (suc (j + d)) (suc j) ≡ entry (j + d) j * (p * complement ρ + j * ρ * whole)
  entry_default j zero =
      rw (add-zero j, product_next j (quotient_numerator p ρ (suc j)), default_factor {j = suc j} {t = j} (omega arith))
      (ap (λ z. z * (p * complement ρ + j * ρ * whole))
      (product_cong j (λ t l. default_factor {j = suc j} {t = t} (omega arith) ∙ sym (default_factor {j = j} {t = t} l))))
  entry_default j (suc d) =
      let same : quotient_numerator p ρ (suc j) (suc (j + d)) ≡ quotient_numerator p ρ j (j + d) =
      survival_factor {j = suc j} {t = suc (j + d)} (omega arith)
      ∙ rw (suc-sub-suc (j + d) j) (sym (survival_factor {j = j} {t = j + d} (omega arith))) in
      rw (add-suc j d, product_next (suc (j + d)) (quotient_numerator p ρ (suc j)), product_next (j + d) (quotient_numerator p ρ j), same, entry_default j d)
      (omega arith)

  module _ (p≤1 : p ≤ whole) where
    -- The two factors for one more asset, that of its default and that of its survival, add to what both are divided by.
    pub entries_split : ρ ≤ whole → SplitsBy (quotient_denominator ρ) entry
    unfolding quotient_denominator
    entries_split ρ≤1 k j l =
        let d : ℕ = k - j in
        let there : j + d ≡ k = add-sub_of_le l in
        let factor : quotient_numerator p ρ j k ≡ complement p * complement ρ + d * ρ * whole = survival_factor l in
        let default : entry (suc k) (suc j) ≡ entry k j * (p * complement ρ + j * ρ * whole) = rw there at (entry_default j d) in
        let factors : complement p * complement ρ + d * ρ * whole + (p * complement ρ + j * ρ * whole) ≡ whole * (complement ρ + k * ρ) =
        omega (arith, ap (λ z. z * complement ρ) (complement_law p≤1), ap (λ z. z * ρ * whole) there) in
        omega (
          arith,
          product_next k (quotient_numerator p ρ j) ∙ ap (λ z. entry k j * z) factor,
          default,
          ap (λ z. entry k j * z) factors,
        )

    -- No factor is above what it is divided by.
    pub quotient_at_most : (j t : ℕ) → quotient_numerator p ρ j t ≤ quotient_denominator ρ t
    unfolding quotient_denominator
    quotient_at_most j t = elim (dec_le j t) [
      | yes l ↦
          rw (survival_factor l)
          (omega (arith, mul-le-mul_right (complement ρ) (complement_at_most p), mul-le-mul_right (ρ * whole) (sub-le t j)))
      | no l ↦ rw (default_factor {j = j} {t = t} (omega arith)) (omega (arith, mul-le-mul_right (complement ρ) p≤1))
    ]

    pub products_at_most : (j k : ℕ) → product k (quotient_numerator p ρ j) ≤ product k (quotient_denominator ρ)
    products_at_most j k = product_mono k (λ t _. quotient_at_most j t)

-- ---- the closed form

module _ (p : ℕ) {ρ : ℕ} (p≤1 : p ≤ whole) (ρ<1 : ρ < whole) where
  abbrev splits : SplitsBy (quotient_denominator ρ) (entry p ρ)
  splits = entries_split p ρ p≤1 (le_of_lt ρ<1)

  abbrev beta : Correlation
  beta = beta_correlation ρ

  den_next : (k : ℕ) → conditional_den beta (suc k) ≡ conditional_den beta k * (whole + k * ρ)
  unfolding conditional_den beta_correlation
  den_next k = rw (product_next k beta.den) (omega arith)

  conditional_next : (k : ℕ) → conditional_by beta p (suc k) ≡ conditional_by beta p k * (whole + k * ρ - ρ) + ρ * conditional_den beta k
  unfolding conditional_by beta_correlation
  conditional_next k = refl

  -- p_(k+1) = (pq + kρ) / (q + kρ)
  conditional_quotient : (k : ℕ) → conditional_by beta p k * quotient_denominator ρ k ≡ (p * complement ρ + k * ρ * whole) * conditional_den beta k
  unfolding quotient_denominator
  conditional_quotient zero = unfold conditional_by conditional_den product in (omega arith)
  conditional_quotient (suc k) =
      let one = complement_law (le_of_lt ρ<1) in
      let less : whole + k * ρ - ρ ≡ complement ρ + k * ρ = omega arith in
      let next : complement ρ + suc k * ρ ≡ whole + k * ρ = omega arith in
      rw (conditional_next k, den_next k, less, next) (omega (arith, ap (λ z. z * (whole + k * ρ)) (conditional_quotient k)))

  -- m_k is the product for t from 0 to k − 1 of these.
  joint_quotients : (k : ℕ) → joint_by beta p k * product k (quotient_denominator ρ) ≡ entry p ρ k k * joint_den beta k
  unfolding joint_by joint_den
  joint_quotients zero = unfold product in refl
  joint_quotients (suc k) =
      let last : entry p ρ (suc k) (suc k) ≡ entry p ρ k k * (p * complement ρ + k * ρ * whole) = rw (add-zero k) at (entry_default p ρ k 0) in
      rw (product_next k (conditional_by beta p), product_next k (quotient_denominator ρ), product_next k (conditional_den beta), last)
      (omega (
        arith,
        ap (λ z. z * (conditional_by beta p k * quotient_denominator ρ k)) (joint_quotients k),
        ap (λ z. entry p ρ k k * joint_den beta k * z) (conditional_quotient k),
      ))

  -- The terms of both alternating sums.
  terms_same : {j k : ℕ} → j ≤ k → (i : ℕ) → i ≤ k - j
      → joint_by beta p (j + i) * product_between (j + i) k (conditional_den beta) * product k (quotient_denominator ρ)
      ≡ entry p ρ (j + i) (j + i) * product_between (j + i) k (quotient_denominator ρ) * joint_den beta k
  unfolding joint_den
  terms_same {j} {k} l i m =
      let rest : j + i + (k - (j + i)) ≡ k = omega arith in
      let dens : product (j + i) (conditional_den beta) * product_between (j + i) k (conditional_den beta) ≡ joint_den beta k =
      rw rest at (product_parts (conditional_den beta) (j + i) (k - (j + i))) in
      let quotients : product (j + i) (quotient_denominator ρ) * product_between (j + i) k (quotient_denominator ρ) ≡ product k (quotient_denominator ρ) =
      rw rest at (product_parts (quotient_denominator ρ) (j + i) (k - (j + i))) in
      let others : ℕ = product_between (j + i) k (conditional_den beta) * product_between (j + i) k (quotient_denominator ρ) in
      omega (
        arith,
        ap (λ z. z * others) (joint_quotients (j + i)),
        ap (λ z. joint_by beta p (j + i) * product_between (j + i) k (conditional_den beta) * z) quotients,
        ap (λ z. entry p ρ (j + i) (j + i) * product_between (j + i) k (quotient_denominator ρ) * z) dens,
      )

  forms_same : {j k : ℕ} → j ≤ k
      → (closed_form_by beta p j k ≡ pos (raise (closed_form_by beta p j k)))
      × (raise (closed_form_by beta p j k) * product k (quotient_denominator ρ) ≡ entry p ρ k j * joint_den beta k)
  unfolding closed_form_by
  forms_same {j} {k} l =
      alternating_same (k - j) (product k (quotient_denominator ρ)) (joint_den beta k) _ _ (terms_same l)
      (product_positive k (quotient_denominator_positive ρ<1)) (rows_alternating (quotient_denominator ρ) (entry p ρ) splits l)

  -- The closed form of P(j,k) is the product of the quotients.
  pub beta_product : {j k : ℕ} → j ≤ k → Same (beta_probability p ρ j k) (quotient_product ρ<1 p j k)
  unfolding beta_probability probability_by quotient_product
  beta_product l = record { cross = (forms_same l).1 }

  -- No P(j,k) is negative: the closed form is the numerator of the fraction.
  pub beta_numerator : {j k : ℕ} → j ≤ k → closed_form_by (beta_correlation ρ) p j k ≡ pos (beta_probability p ρ j k).num
  unfolding beta_probability probability_by
  beta_numerator l = (forms_same l).0

  -- ---- the chances

  pub defaults_same : (n : ℕ) → SameChances (beta_defaults n p ρ) (quotient_defaults ρ<1 n p)
  unfolding beta_defaults defaults_by quotient_defaults chance share beta_probability probability_by quotient_product
  defaults_same n = record {
    assets = refl;
    chances = λ j l. record { cross = omega (arith, ap (λ z. choose n j * z) (beta_product l).cross) };
  }

  pub products_complete : (n : ℕ) → Complete (quotient_defaults ρ<1 n p)
  unfolding quotient_defaults product binomial_sum
  products_complete n = rows_total (quotient_denominator ρ) (entry p ρ) splits refl n

  -- The chances of 0 to n defaults add to one.
  pub beta_complete : (n : ℕ) → Complete (beta_defaults n p ρ)
  beta_complete n = complete_same (defaults_same n) (products_complete n)

  products_mean : (n : ℕ) → Same (mean (quotient_defaults ρ<1 n p)) (over (n * p) 1)
  unfolding mean share quotient_defaults over
  products_mean n =
      let total : ℕ = sum (suc n) (λ j. j * (choose n j * entry p ρ n j)) in
      let first : quotient_denominator ρ 0 ≡ whole * complement ρ = unfold quotient_denominator in (omega arith) in
      let last : entry p ρ 1 1 ≡ p * complement ρ = product_next 0 (quotient_numerator p ρ 1) ∙ unfold product in (rw (default_factor p ρ {j = 1} {t = 0} (lit< tt)) (omega arith)) in
      let some : 0 < complement ρ = omega (arith, complement_law (le_of_lt ρ<1)) in
      record {
        cross =
            rw whole_once
            (eq_of_mul-eq-mul_right (complement ρ) some _ _
            (omega (arith, rows_mean (quotient_denominator ρ) (entry p ρ) splits n, ap (λ z. total * z) first, ap (λ z. n * product n (quotient_denominator ρ) * z) last)));
      }

  -- The mean number of defaults is n × p.
  pub beta_mean : (n : ℕ) → Same (mean (beta_defaults n p ρ)) (over (n * p) 1)
  beta_mean n = same_trans (mean_same (defaults_same n)) (products_mean n)

-- ---- where the model is the correlated binomial

module _ (p : ℕ) where
  -- Without correlation.
  pub beta_uncorrelated : {j k : ℕ} → j ≤ k → beta_probability p 0 j k ≡ probability p 0 j k
  unfolding beta_probability beta_correlation constantly
  beta_uncorrelated {j} {k} l =
      probabilities_agree (beta_correlation 0) (constantly 0) p l (λ i _. (refl, omega arith)) ∙ probability_constant p 0 j k

  -- For at most two assets: the correlation after no default is ρ.
  pub beta_of_two : (ρ : ℕ) {j k : ℕ} → j ≤ k → k ≤ 2 → beta_probability p ρ j k ≡ probability p ρ j k
  unfolding beta_probability beta_correlation constantly
  beta_of_two ρ {j} {k} l few =
      probabilities_agree (beta_correlation ρ) (constantly ρ) p l (λ i less. let none : i ≡ 0 = omega arith in (refl, rw none (omega arith)))
      ∙ probability_constant p ρ j k
