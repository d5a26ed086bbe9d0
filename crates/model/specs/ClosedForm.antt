-- The closed form of P(j,k) for a correlation that may depend on the number of defaults. With one correlation after any number of defaults it is that of the
-- correlated binomial model (`probability-constant`), so that a model which has another correlation differs from that one in nothing else.
-- Assumes nothing.
use Rattle.std.specs.Prelude.{ℕ, zero, suc, ◌+◌, ◌*◌, ◌-◌, ◌<◌, ℤ}
use Rattle.std.proofs.Math.Nat.{mul-pos}
use Rattle.std.proofs.Common.{lit<}
use Rattle.model.specs.Number.{product, product_between, alternating_sum, raise}
use Rattle.model.specs.Number.Laws.{product_positive}
use Rattle.model.specs.Fraction.{Fraction, whole}
use Rattle.model.specs.Chances.{Chances, in_any_order}

-- ρ_i, the correlation of two assets given that i others have defaulted: num i over den i.
pub record Correlation : Type 0 where
  pub num : ℕ → ℕ
  pub den : ℕ → ℕ
  pub positive : (i : ℕ) → 0 < den i

-- ρ basis points, whatever the number of defaults.
unfoldable pub constantly : ℕ → Correlation
unfolding whole
constantly ρ = record { num = λ i. ρ; den = λ i. whole; positive = λ i. lit< tt }

module _ (c : Correlation) where
  -- The denominators of p_(k+1) and of m_k.
  unfoldable pub conditional_den : ℕ → ℕ
  conditional_den k = whole * product k c.den

  unfoldable pub joint_den : ℕ → ℕ
  joint_den k = product k conditional_den

  pub joint_den_positive : (k : ℕ) → 0 < joint_den k
  unfolding joint_den conditional_den whole
  joint_den_positive k = product_positive k (λ i. mul-pos (lit< tt) (product_positive i c.positive))

  module _ (p : ℕ) where
    -- p_(k+1), the default probability of an asset given that k named others have defaulted: p_1 is p basis points, and p_(k+2) = p_(k+1) × (1 − ρ_k) + ρ_k.
    unfoldable pub conditional_by : ℕ → ℕ
    conditional_by zero = p
    conditional_by (suc k) = conditional_by k * (c.den k - c.num k) + c.num k * conditional_den k

    -- m_k = p_1 × … × p_k, the chance that k named assets all default.
    unfoldable pub joint_by : ℕ → ℕ
    joint_by k = product k conditional_by

    -- The sum over i from 0 to k − j of (−1)^i × C(k−j,i) × m_(j+i), over the denominator of m_k.
    unfoldable pub closed_form_by : (j k : ℕ) → ℤ
    closed_form_by j k = alternating_sum (k - j) (λ i. joint_by (j + i) * product_between (j + i) k conditional_den)

    -- P(j,k), the chance that among k assets j named ones default and the other k − j survive. `raise` changes nothing where the closed form is not negative,
    -- which is shown for each model.
    unfoldable pub probability_by : (j k : ℕ) → Fraction
    probability_by j k = record { num = raise (closed_form_by j k); den = joint_den k; positive = joint_den_positive k }

    -- The chances of 0 to n defaults in any order: C(n,j) × P(j,n).
    unfoldable pub defaults_by : (n : ℕ) → Chances
    defaults_by n = in_any_order n (λ j. (probability_by j n).num) (joint_den n) (joint_den_positive n)
