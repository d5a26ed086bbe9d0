-- Touching tranches lose together what the pool loses, for a row of chances in general.
-- Assumes nothing.
use Prim.Native.Nat.{ℕ, zero, suc, ◌*◌, ◌-◌, ◌^◌, ◌≤◌, ◌<◌, min}
use Rattle.std.specs.Prelude.{◌≡◌, refl}
use Rattle.std.proofs.Math.Path.{ap}
use Rattle.std.proofs.Common.{◌∙◌, mul_comm, mul-pos, mul-le-mul, le_of_suc-le-suc}
use native.Mathlib.Omega.{arith}
use Rattle.std.proofs.Math.Nat.{mul-sub, mul-le-mul_right}
use Rattle.model.specs.Number.{sum}
use Rattle.model.specs.Number.Laws.{sum_times, sum_exchange, factors_positive}
use Rattle.model.specs.Fraction.{Fraction, Same, AtMost, integer, times, divided, whole, complement, over}
use Rattle.model.specs.Fraction.Laws.{same_trans, at_most_refl, times_mono, fraction_sum_mono, fraction_sum_over, complement_at_most}
use Rattle.model.specs.Chances.{Chances, share, mean, loss_units, loss_numerator, expected_loss}
use Rattle.model.proofs.Chances.Laws.{loss_units_whole}
use Rattle.model.specs.Touching.{Touching, total_loss, pool_loss}

-- Greater losses add to more.
pub total_mono : (m : ℕ) (A B : ℕ → ℕ) {x y : (i : ℕ) → i < m → Fraction} → ((i : ℕ) (l : i < m) → AtMost (x i l) (y i l)) → AtMost (total_loss m A B x) (total_loss m A B y)
unfolding total_loss
total_mono m A B h = fraction_sum_mono m (λ i l. times_mono at_most_refl (h i l))

module _ {m : ℕ} {R A B : ℕ → ℕ} (touching : Touching m R A B) where
  module _ (n : ℕ) (wide : (i : ℕ) → i < m → 0 < (B i - A i) * n) where
    -- A tranche that has a width ends above where it starts.
    rises : (i : ℕ) → i < m → A i < B i
    rises i l = omega (arith, (factors_positive (B i - A i) n (wide i l)).0)

    -- The units of the i-th tranche, at the recovery that all have.
    units_at : (X i : ℕ) → i < m → loss_units n (R i) (A i) (B i) X ≡ min (X * complement (R 0) - A i * n) (B i * n - A i * n)
    units_at X i l =
        let alike : R i ≡ R 0 = omega (arith, touching.one_recovery i l) in
        rw (alike, loss_units_whole n (R 0) (A i) (B i) X)
        (ap (λ z. min (X * complement (R 0) - A i * n) z) (mul_comm (B i - A i) n ∙ mul-sub n (B i) (A i) ∙ rw (mul_comm n (B i), mul_comm n (A i)) refl))

    -- What X defaults lose in tranches 0 to k is what they lose in all, cut at the last of these.
    units_up_to : (X k : ℕ) → k < m → sum (suc k) (λ i. loss_units n (R i) (A i) (B i) X) ≡ min (X * complement (R 0)) (B k * n)
    unfolding sum
    units_up_to X zero l =
        let starts : A 0 ≡ 0 = omega (arith, touching.first) in
        omega (arith, units_at X 0 l, ap (λ z. z * n) starts)
    units_up_to X (suc k) l =
        let meets : A (suc k) ≡ B k = omega (arith, touching.next k l) in
        omega (arith, units_up_to X k (omega arith), units_at X (suc k) l, ap (λ z. z * n) meets, mul-le-mul_right n (rises (suc k) l))

    -- In all tranches it is all that they lose.
    units_total : (X : ℕ) → X ≤ n → sum m (λ i. loss_units n (R i) (A i) (B i) X) ≡ X * complement (R 0)
    units_total X l =
        let last : suc (m - 1) ≡ m = omega (arith, touching.some) in
        let all = rw (last, touching.last) at (units_up_to X (m - 1) (omega (arith, touching.some))) in
        omega (arith, all, mul-le-mul l (complement_at_most (R 0)))

  module _ (r : Chances) (wide : (i : ℕ) → i < m → 0 < (B i - A i) * r.assets) where
    -- The numerators of the losses add to 10,000 − R times that of the mean.
    numerators_total : sum m (λ i. loss_numerator r (R i) (A i) (B i) (suc r.assets)) ≡ complement (R 0) * sum (suc r.assets) (λ j. j * r.numerator j)
    unfolding loss_numerator
    numerators_total =
        let n = r.assets in
        sum_exchange m (suc n) (λ i X. r.numerator X * loss_units n (R i) (A i) (B i) X)
        ∙ sum_times (suc n) (complement (R 0)) _ (λ j. j * r.numerator j)
        (λ X l.
        sum_times m (r.numerator X) _ (λ i. loss_units n (R i) (A i) (B i) X) (λ i k. refl)
        ∙ rw (units_total n wide X (le_of_suc-le-suc l)) (omega arith))

    -- Where the mean number of defaults is n × p, the losses add to what the pool loses.
    pub touching_losses : (p : ℕ) → Same (mean r) (over (r.assets * p) 1)
        → Same (total_loss m A B (λ i l. expected_loss r (R i) (A i) (B i) (wide i l))) (pool_loss p (R 0))
    unfolding mean share total_loss expected_loss pool_loss times integer divided over
    touching_losses p mean_is =
        let n = r.assets in
        let some_assets : 0 < n = (factors_positive (B 0 - A 0) n (wide 0 touching.some)).1 in
        same_trans
        (fraction_sum_over m (r.denominator * n) (mul-pos r.positive some_assets) (λ i. loss_numerator r (R i) (A i) (B i) (suc n))
        (λ i l. record { cross = omega arith }))
        (record { cross = omega (arith, ap (λ z. z * whole ^ 1) numerators_total, ap (λ z. complement (R 0) * z) mean_is.cross) })
