-- The shift list from the laws of the printed tail alone, for two rows of chances in general.
-- Assumes nothing.
use Prim.Native.Nat.{ℕ, zero, suc, ◌+◌, ◌*◌, ◌-◌, ◌≤◌, ◌<◌}
use Rattle.std.specs.Prelude.{◌≡◌, ℤ, pos, nat_abs, ◌-ℤ◌}
use Rattle.std.proofs.Common.{ap, subst}
use Rattle.std.proofs.Math.Decide.{dec_le}
use native.Mathlib.Omega.{arith}
use Rattle.model.specs.Number.{sum, integer_sum}
use Rattle.model.specs.Number.Laws.{difference_size, differences_total}
use Rattle.model.specs.Fraction.{Fraction, Same, AtMost, Less, integer, plus, times}
use Rattle.model.specs.Fraction.Laws.{at_most_of_same, at_most_refl, less_at_most_trans, plus_mono, plus_less, plus_cancel, times_same, same_refl, same_sym}
use Rattle.model.specs.Chances.{Chances, share, tail_numerator, tail, tails_total}
use Rattle.steps.specs.Column.{units_of_certainty, exact_units, PrintsTails, Within}

-- ---- numbers that are off by a little

-- x is at most a above v, and y less than b below w.
off_by : {x w : Fraction} (y v a b : Fraction) → AtMost x (plus v a) → Less w (plus y b) → Less (plus x w) (plus (plus y v) (plus a b))
unfolding plus
off_by y v a b above below =
    let moved : Same (plus (plus v a) (plus y b)) (plus (plus y v) (plus a b)) = omega arith in
    less_at_most_trans (plus_less above below) (at_most_of_same moved)

-- Natural numbers less than `off` apart, as an integer.
apart_size : {off : Fraction} (a b : ℕ) → Within off (integer a) (integer b) → Less (integer (nat_abs (pos a -ℤ pos b))) off
unfolding integer plus
apart_size {off} a b within = rw (difference_size a b) (elim (dec_le b a) [
  | yes l ↦
      let above : b + ((a - b) + (b - a)) ≡ a = omega arith in
      record { cross = omega (arith, within.not_above.cross, ap (λ z. z * off.den) above) }
  | no l ↦
      let above : a + ((a - b) + (b - a)) ≡ b = omega arith in
      record { cross = omega (arith, within.not_below.cross, ap (λ z. z * off.den) above) }
])

-- ---- the sum of printed tails

module _ {above below : Fraction} {r : Chances} {t : ℕ → ℕ} (p : PrintsTails above below r t) where
  -- The exact tails at 1 to m, added.
  abbrev exact : ℕ → Fraction
  exact m = exact_units (share r (sum m (λ i. tail_numerator r (suc i))))

  abbrev printed : ℕ → Fraction
  printed m = integer (sum m (λ i. t (suc i)))

  sum_at_most : (m : ℕ) → AtMost (printed m) (plus (exact m) (times (integer m) above))
  unfolding sum plus times integer exact_units tail share
  sum_at_most zero = omega arith
  sum_at_most (suc m) = omega (arith, (sum_at_most m).cross, (p.at_most (suc m)).cross)

  -- Each tail gives one to the order of the cross products.
  sum_more : (m : ℕ)
      → let f = sum m (λ i. tail_numerator r (suc i)) in
      units_of_certainty * f * below.den + m ≤ (sum m (λ i. t (suc i)) * below.den + m * below.num) * r.denominator
  unfolding sum plus times integer exact_units tail share
  sum_more zero = omega arith
  sum_more (suc m) = omega (arith, sum_more m, (p.more_than (suc m)).cross)

  sum_more_than : {m : ℕ} → 0 < m → Less (exact m) (plus (printed m) (times (integer m) below))
  unfolding plus times integer exact_units share
  sum_more_than {m} some = omega (arith, sum_more m)

-- ---- two rows

-- The sums of printed tails of two rows whose exact tails add to the same.
sums_below : {above below : Fraction} {r s : Chances} {t u : ℕ → ℕ} (p : PrintsTails above below r t) (q : PrintsTails above below s u)
    → {m : ℕ} → 0 < m → Same (exact p m) (exact q m) → Less (printed p m) (plus (printed q m) (times (integer m) (plus above below)))
sums_below {above} {below} p q {m} some same =
    less_at_most_trans (plus_cancel _ _ same (off_by _ _ _ _ (sum_at_most p m) (sum_more_than q some))) (plus_mono at_most_refl (at_most_of_same shared))
  where
    shared : Same (plus (times (integer m) above) (times (integer m) below)) (times (integer m) (plus above below))
    shared = unfold plus times integer in omega arith

module _ {above below : Fraction} {r s : Chances} {t u : ℕ → ℕ} (p : PrintsTails above below r t) (q : PrintsTails above below s u) where
  -- Two printed tails differ by less than that more or less than the exact ones do.
  pub tails_near : (k : ℕ)
      → Within (plus above below) (plus (integer (t k)) (exact_units (tail s k))) (plus (integer (u k)) (exact_units (tail r k)))
  tails_near k = record { not_above = off_by _ _ _ _ (p.at_most k) (q.more_than k); not_below = off_by _ _ _ _ (q.at_most k) (p.more_than k) }

  -- No printed tail is above 100,000, so that no difference of two is.
  pub tails_between : (k : ℕ) → nat_abs (pos (t k) -ℤ pos (u k)) ≤ units_of_certainty
  tails_between k =
      rw (difference_size (t k) (u k))
      (omega (arith, p.at_most_certain k, q.at_most_certain k))

  -- The differences at 1 to n add to less than n times that.
  pub tails_total_near : s.assets ≡ r.assets → Same (tails_total r) (tails_total s) → 0 < r.assets
      → (h : ℕ → ℤ) → ((i : ℕ) → i < r.assets → h i ≡ pos (t (suc i)) -ℤ pos (u (suc i)))
      → Less (integer (nat_abs (integer_sum r.assets h))) (times (integer r.assets) (plus above below))
  unfolding tails_total exact_units
  tails_total_near as_many same some h differences =
      let equal : Same (exact p r.assets) (exact q r.assets) = times_same same_refl (subst (λ m. Same (tails_total r) (share s (sum m (λ i. tail_numerator s (suc i))))) as_many same) in
      rw (differences_total r.assets h (λ i. t (suc i)) (λ i. u (suc i)) differences)
      (apart_size _ _ (record { not_above = sums_below p q some equal; not_below = sums_below q p some (same_sym equal) }))
