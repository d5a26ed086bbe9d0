-- The beta-binomial model: the closed form with a correlation that falls as assets default, and P(j,k) as a product of quotients, by which it is computed.
-- p is the default probability and ρ the default correlation, in basis points; D is 10,000.
-- Assumes nothing.
use Rattle.std.specs.Prelude.{ℕ, ◌+◌, ◌*◌, ◌-◌, ◌<◌, cond, ltb}
use Rattle.std.proofs.Math.Nat.{mul-pos}
use Rattle.std.proofs.Common.{arith, lit<}
use Rattle.model.specs.Number.{product}
use Rattle.model.specs.Number.Laws.{product_positive}
use Rattle.model.specs.Fraction.{Fraction, whole, complement}
use Rattle.model.specs.Chances.{Chances, in_any_order}
use Rattle.model.specs.ClosedForm.{Correlation, probability_by, defaults_by}

-- The correlation after i defaults: ρ / (1 + iρ).
unfoldable pub beta_correlation : (ρ : ℕ) → Correlation
unfolding whole
beta_correlation ρ = record { num = λ i. ρ; den = λ i. whole + i * ρ; positive = λ i. omega arith }

-- P(j,k), and the chances of 0 to n defaults in any order, by the closed form.
unfoldable pub beta_probability : (p ρ j k : ℕ) → Fraction
beta_probability p ρ j k = probability_by (beta_correlation ρ) p j k

unfoldable pub beta_defaults : (n p ρ : ℕ) → Chances
beta_defaults n p ρ = defaults_by (beta_correlation ρ) p n

-- Quotient t of P(j,k), with a = 1 − p and q = 1 − ρ: pq + tρ for t below j, and aq + (t − j)ρ from j on, divided by q + tρ. Both numbers are over D².
unfoldable pub quotient_numerator : (p ρ j t : ℕ) → ℕ
quotient_numerator p ρ j t = cond (ltb t j) (p * complement ρ + t * ρ * whole) (complement p * complement ρ + (t - j) * ρ * whole)

unfoldable pub quotient_denominator : (ρ t : ℕ) → ℕ
quotient_denominator ρ t = whole * (complement ρ + t * ρ)

module _ {ρ : ℕ} (ρ<1 : ρ < whole) where
  pub quotient_denominator_positive : (t : ℕ) → 0 < quotient_denominator ρ t
  unfolding quotient_denominator whole complement
  quotient_denominator_positive t = mul-pos (lit< tt) (omega arith)

  -- The product of the quotients for t from 0 to k − 1: `beta-product` shows that it is P(j,k).
  unfoldable pub quotient_product : (p j k : ℕ) → Fraction
  quotient_product p j k = record {
    num = product k (quotient_numerator p ρ j);
    den = product k (quotient_denominator ρ);
    positive = product_positive k quotient_denominator_positive;
  }

  -- The chances of 0 to n defaults in any order, by the products.
  unfoldable pub quotient_defaults : (n p : ℕ) → Chances
  quotient_defaults n p =
      in_any_order n (λ j. product n (quotient_numerator p ρ j)) (product n (quotient_denominator ρ)) (product_positive n quotient_denominator_positive)
