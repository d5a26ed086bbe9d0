-- The correlated binomial model: the exact values to which every computed number is held. p is the default probability and ρ the default
-- correlation, in basis points; D is 10,000.
-- Assumes nothing.
use Rattle.std.specs.Prelude.{ℕ, zero, suc, ◌+◌, ◌*◌, ◌-◌, ◌^◌, cond, ltb, ℤ}
use Rattle.model.specs.Number.{binomial_sum, alternating_sum, triangle, raise}
use Rattle.model.specs.Fraction.{Fraction, whole, complement, over, whole_power_positive}
use Rattle.model.specs.Passes.{passed}
use Rattle.model.specs.Chances.{Chances, in_any_order}

-- p_(k+1), the default probability of an asset given that k named others have defaulted, over D^(k+1):
-- p_1 = p, and p_(k+1) = p_k × (1 − ρ) + ρ.
unfoldable pub conditional : (p ρ k : ℕ) → ℕ
conditional p ρ zero = p
conditional p ρ (suc k) = conditional p ρ k * complement ρ + ρ * whole ^ suc k

-- m_k = p_1 × … × p_k, the chance that k named assets all default, over D^T(k).
unfoldable pub joint : (p ρ k : ℕ) → ℕ
joint p ρ zero = 1
joint p ρ (suc k) = joint p ρ k * conditional p ρ k

-- m_i over D^T(k), for i up to k.
unfoldable pub scaled_joint : (p ρ k i : ℕ) → ℕ
scaled_joint p ρ k i = joint p ρ i * whole ^ (triangle k - triangle i)

-- The closed form of P(j,k), over D^T(k): the sum over i from 0 to k − j of (−1)^i × C(k−j,i) × m_(j+i).
unfoldable pub closed_form : (p ρ j k : ℕ) → ℤ
closed_form p ρ j k = alternating_sum (k - j) (λ i. scaled_joint p ρ k (j + i))

-- P(j,k), the chance that among k assets j named ones default and the other k − j survive. The closed form is never negative
-- (`closed-form-numerator`), so that `raise` changes nothing.
unfoldable pub probability : (p ρ j k : ℕ) → Fraction
probability p ρ j k = over (raise (closed_form p ρ j k)) (triangle k)

-- The chances of 0 to n defaults in any order: C(n,j) × P(j,n).
unfoldable pub defaults : (n p ρ : ℕ) → Chances
defaults n p ρ = in_any_order n (λ j. (probability p ρ j n).num) (whole ^ triangle n) (whole_power_positive (triangle n))

-- The form of P(j,k+1) without subtraction, over D^T(k+1), for j up to k, with a = 1 − p and q = 1 − ρ:
-- a × q^j times the sum over i from 0 to k − j of C(k−j,i) × ρ^i × P(j+i,k). The power of D brings ρ^i over D^(k−j).
unfoldable pub without_subtraction : (p ρ j k : ℕ) → ℕ
without_subtraction p ρ j k =
    complement p * complement ρ ^ j
    * binomial_sum (k - j) (λ i. whole ^ (k - j - i) * ρ ^ i * (probability p ρ (j + i) k).num)

-- One entry of a pass: old entry j plus ρ times old entry j + 1. D brings both over one denominator.
unfoldable pub pass_step : (ρ : ℕ) → ℕ → ℕ → ℕ
pass_step ρ x y = whole * x + ρ * y

-- Entry j of row k, over D^T(k), by the passes: row 0 has one entry, and that is one; row k+1 starts with the k + 1 entries of row k, and after its k passes
-- entry j, for j up to k, is multiplied by a × q^j, and entry k + 1 is m_(k+1).
unfoldable pub row_entry : (p ρ k j : ℕ) → ℕ
row_entry p ρ zero j = 1
row_entry p ρ (suc k) j =
    cond (ltb j (suc k))
    (complement p * complement ρ ^ j * passed (pass_step ρ) (suc k) k (row_entry p ρ k) j)
    (joint p ρ (suc k))
