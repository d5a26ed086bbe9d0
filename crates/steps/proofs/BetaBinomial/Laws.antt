-- How far the quotients and their products are from their exact values, and that their exponents stay in their range.
-- Assumes nothing.
use Prim.Native.Nat.{ℕ, zero, suc, ◌+◌, ◌*◌, ◌^◌, ◌≤◌, ◌<◌}
use Rattle.std.specs.Prelude.{◌≡◌}
use Rattle.std.proofs.Math.Path.{refl}
use Rattle.std.proofs.Common.{arith, le_of_lt, mul-le-mul, pow-add}
use Rattle.std.proofs.Math.Dec.{lit≤}
use Rattle.model.specs.Number.{product}
use Rattle.model.specs.Number.Laws.{product_next}
use Rattle.model.specs.Fraction.{Fraction, Same, integer, times, divided, certainty, whole}
use Rattle.model.specs.Fraction.Laws.{complement_at_most}
use Rattle.model.specs.BetaBinomial.{quotient_numerator, quotient_denominator, quotient_denominator_positive, quotient_product}
use Rattle.model.proofs.BetaBinomial.Theorems.{quotient_at_most, products_at_most}
use Rattle.kept.specs.declared.Side.{Side}
use Rattle.kept.specs.Rounding.Laws.{unity_kept, unity_value}
use Rattle.kept.specs.Accuracy.{precision, Bound}
use Rattle.kept.specs.Accuracy.Laws.{bound_exact, bound_weaken, bound_same, bound_ratio, bound_product}
use Rattle.steps.specs.BetaBinomial.{kept_product, kept_quotient, quotients_budget}
use Rattle.steps.specs.Exponents.{Ranged}
use Rattle.steps.proofs.Exponents.Laws.{bound_ranged, unscaled}

-- ---- the distance

module _ (side : Side) (p : ℕ) {ρ : ℕ} (ρ<1 : ρ < whole) (j : ℕ) where
  abbrev quotient : ℕ → Fraction
  quotient t = divided (integer (quotient_numerator p ρ j t)) (quotient_denominator ρ t) (quotient_denominator_positive ρ<1 t)

  quotient_bound : (t : ℕ) → Bound side 1 (kept_quotient side p ρ j t) (quotient t)
  unfolding kept_quotient
  quotient_bound t = bound_ratio side (quotient_numerator p ρ j t) (quotient_denominator ρ t) (quotient_denominator_positive ρ<1 t)

  pub quotients_bound : (k : ℕ) → Bound side (quotients_budget k) (kept_product side (kept_quotient side p ρ j) k) (quotient_product ρ<1 p j k)
  unfolding kept_product quotients_budget quotient_product
  quotients_bound zero =
      let one : Same certainty (quotient_product ρ<1 p j 0) = unfold product certainty in (record { cross = refl }) in
      bound_same one (bound_exact unity_kept unity_value)
  quotients_bound (suc k) =
      let next : Same (times (quotient_product ρ<1 p j k) (quotient k)) (quotient_product ρ<1 p j (suc k)) =
      record {
        cross = unfold times divided integer in (rw (product_next k (quotient_numerator p ρ j), product_next k (quotient_denominator ρ)) (omega arith));
      } in
      bound_weaken (omega arith) (bound_same next (bound_product (quotients_bound k) (quotient_bound k)))

-- ---- the exponents

-- Up to 100 assets a denominator has 34 digits.
pub quotient_digits : {ρ : ℕ} → ρ ≤ whole → {t : ℕ} → t < 100 → quotient_denominator ρ t < 2 ^ 34
unfolding quotient_denominator whole
quotient_digits {ρ} ρ≤1 {t} few = omega (arith, complement_at_most ρ, mul-le-mul few ρ≤1)

pub products_digits : {ρ : ℕ} → ρ ≤ whole → (k : ℕ) → k ≤ 100 → product k (quotient_denominator ρ) ≤ 2 ^ (34 * k)
products_digits ρ≤1 zero few = unfold product in (lit≤ tt)
products_digits {ρ} ρ≤1 (suc k) few =
    let more : 34 * suc k ≡ 34 * k + 34 = omega arith in
    rw (product_next k (quotient_denominator ρ), more, pow-add 2 (34 * k) 34)
    (mul-le-mul (products_digits ρ≤1 k (omega arith)) (le_of_lt (quotient_digits ρ≤1 {t = k} (omega arith))))

module _ (side : Side) {n p ρ : ℕ} (few : n ≤ 100) (p≤1 : p ≤ whole) (ρ<1 : ρ < whole) (j : ℕ) where
  pub quotient_ranged : {t : ℕ} → t < n → Ranged (kept_quotient side p ρ j t)
  unfolding divided integer precision
  quotient_ranged {t} l =
      bound_ranged (quotient_bound side p ρ<1 j t) 34 0 (omega (arith, quotient_digits (le_of_lt ρ<1) {t = t} (omega arith)))
      (omega (arith, quotient_at_most p ρ p≤1 j t)) (lit≤ tt, lit≤ tt, lit≤ tt)

  pub quotients_ranged : {k : ℕ} → k ≤ n → Ranged (kept_product side (kept_quotient side p ρ j) k)
  unfolding quotient_product quotients_budget precision
  quotients_ranged {k} l =
      bound_ranged (quotients_bound side p ρ<1 j k) (34 * k) 0 (products_digits (le_of_lt ρ<1) k (omega arith))
      (unscaled (products_at_most p ρ p≤1 j k)) (omega arith)
