-- Laws of fractions and basis points.
-- Assumes nothing.
use Rattle.std.specs.Prelude.{ℕ, zero, suc, ◌+◌, ◌-◌, ◌*◌, ◌^◌, ◌≤◌, ◌<◌, ◌≡◌, true, leb}
use Rattle.std.proofs.Common.{sym, ap, subst, ◌∙◌, add-sub_of_le, sub-le, one-mul, pow-suc, mul-pos, mul-le-mul, mul-le-mul_right, mul-lt-mul_of_pos_right, lt_of_not-le, le_of_mul-le-mul_right, lt-suc_self, arith, leb-true, le-leb, lit≤, pow-add}
use Rattle.std.proofs.Math.Nat.{pow-zero, pow-succ', eq_of_mul-eq-mul_right, le_step}
use Rattle.std.proofs.Math.Decide.{dec_le}
use Rattle.std.proofs.Math.Bridge.{le_prop}
use Rattle.std.proofs.lemmas.Bool.{lt-leb}
use Rattle.model.specs.Number.{sum}
use Rattle.model.specs.Fraction.{Fraction, Same, AtMost, at_most, Less, integer, plus, minus, times, divided, fraction_sum, whole, complement, over}

-- ---- equality and order

-- Of the same numerator and denominator.
pub fraction_fields : {x y : Fraction} → x.num ≡ y.num → x.den ≡ y.den → x ≡ y
fraction_fields {x} {y} same alike =
    let made : ℕ → (d : ℕ) → 0 < d → Fraction = λ n d above. record { num = n; den = d; positive = above } in
    let by : (above : 0 < y.den) → x ≡ made y.num y.den above = rw (← same, ← alike) (λ above. ap (made x.num x.den) (le_prop x.positive above)) in
    by y.positive

pub same_refl : {x : Fraction} → Same x x
same_refl = omega arith

pub same_sym : {x y : Fraction} → Same x y → Same y x
same_sym e = omega arith

pub same_trans : {x y z : Fraction} → Same x y → Same y z → Same x z
same_trans {x} {y} {z} e f = record {
  cross =
      eq_of_mul-eq-mul_right y.den y.positive _ _
      (omega (arith, ap (λ n. n * z.den) e.cross, ap (λ n. n * x.den) f.cross));
}

pub at_most_of_same : {x y : Fraction} → Same x y → AtMost x y
at_most_of_same e = omega arith

pub at_most_refl : {x : Fraction} → AtMost x x
at_most_refl = at_most_of_same same_refl

pub at_most_of_less : {x y : Fraction} → Less x y → AtMost x y
at_most_of_less l = omega arith

pub at_most_antisymm : {x y : Fraction} → AtMost x y → AtMost y x → Same x y
at_most_antisymm l m = omega arith

pub not_both : {x y : Fraction} → AtMost x y → Less y x → ⊥
not_both l m = omega arith

less_of_not : {x y : Fraction} → (AtMost y x → ⊥) → Less x y
less_of_not not = record { cross = lt_of_not-le (λ l. not (record { cross = l })) }

pub at_most_trans : {x y z : Fraction} → AtMost x y → AtMost y z → AtMost x z
at_most_trans {x} {y} {z} l m = record {
  cross =
      le_of_mul-le-mul_right {k = y.den}
      (omega (arith, mul-le-mul_right z.den l.cross, mul-le-mul_right x.den m.cross)) y.positive;
}

pub less_at_most_trans : {x y z : Fraction} → Less x y → AtMost y z → Less x z
less_at_most_trans l m = less_of_not (λ back. not_both (at_most_trans m back) l)

pub at_most_less_trans : {x y z : Fraction} → AtMost x y → Less y z → Less x z
at_most_less_trans l m = less_of_not (λ back. not_both (at_most_trans back l) m)

-- ---- the order as a test

pub at_most_true : {x y : Fraction} → at_most x y ≡ true → AtMost x y
unfolding at_most
at_most_true {x} {y} test = record { cross = leb-true (x.num * y.den) (y.num * x.den) test }

pub true_at_most : {x y : Fraction} → AtMost x y → at_most x y ≡ true
unfolding at_most
true_at_most {x} {y} l = le-leb (x.num * y.den) (y.num * x.den) l.cross

-- It is the test of two whole numbers that have the same order.
pub at_most_by : (a b : ℕ) {x y : Fraction} → (a ≤ b → AtMost x y) → (AtMost x y → a ≤ b) → leb a b ≡ at_most x y
unfolding at_most
at_most_by a b {x} {y} to back = elim (dec_le a b) [
  | yes l ↦ le-leb a b l ∙ sym (le-leb (x.num * y.den) (y.num * x.den) (to l).cross)
  | no l ↦ lt-leb a b (lt_of_not-le l) ∙ sym (lt-leb (x.num * y.den) (y.num * x.den) (lt_of_not-le (λ m. l (back (record { cross = m })))))
]

-- ---- sums, differences, products, quotients

pub plus_mono : {x y v w : Fraction} → AtMost x y → AtMost v w → AtMost (plus x v) (plus y w)
unfolding plus
plus_mono {x} {y} {v} {w} l m =
    omega (arith, mul-le-mul_right (v.den * w.den) l.cross, mul-le-mul_right (x.den * y.den) m.cross)

pub plus_more : (x y : Fraction) → AtMost x (plus x y)
unfolding plus
plus_more x y = omega arith

pub plus_less : {x y v w : Fraction} → AtMost x y → Less v w → Less (plus x v) (plus y w)
unfolding plus
plus_less {x} {y} {v} {w} l m =
    omega (arith, mul-le-mul_right (v.den * w.den) l.cross, mul-lt-mul_of_pos_right m.cross (mul-pos x.positive y.positive))

-- What is on both sides of an order may be left out.
pub plus_cancel : {x v w : Fraction} (y c : Fraction) → Same v w → Less (plus x w) (plus (plus y v) c) → Less x (plus y c)
unfolding plus
plus_cancel {x} {v} {w} y c same l =
    let moved : Same (plus (plus y v) c) (plus (plus y c) v) = omega arith in
    less_of_not (λ back. not_both (at_most_trans (at_most_of_same moved) (plus_mono back (at_most_of_same same))) l)

-- x is not above y and what x has more than y.
pub minus_covers : (x y : Fraction) → AtMost x (plus y (minus x y))
unfolding plus minus
minus_covers x y =
    let within : x.num * y.den ≤ y.num * x.den + (x.num * y.den - y.num * x.den) = omega arith in
    omega (arith, mul-le-mul_right (x.den * y.den) within)

-- x + y ≤ z gives x ≤ z − y, and x ≤ z + y gives x − y ≤ z.
pub minus_from : {x z : Fraction} (y : Fraction) → AtMost (plus x y) z → AtMost x (minus z y)
unfolding plus minus
minus_from {x} {z} y l =
    let within : z.num * y.den ≤ z.num * y.den - y.num * z.den + y.num * z.den = omega arith in
    record { cross = omega (arith, l.cross, mul-le-mul_right x.den within) }

pub minus_to : {x z : Fraction} (y : Fraction) → AtMost x (plus z y) → AtMost (minus x y) z
unfolding plus minus
minus_to {x} {z} y l =
    let more : ℕ = x.num * y.den - y.num * x.den in
    elim (dec_le (y.num * x.den) (x.num * y.den)) [
      | yes m ↦
          let is : more + y.num * x.den ≡ x.num * y.den = omega arith in
          record { cross = omega (arith, l.cross, ap (λ n. n * z.den) is) }
      | no m ↦
          let none : more ≡ 0 = omega arith in
          record { cross = rw none (omega arith) }
    ]

pub times_mono : {x y v w : Fraction} → AtMost x y → AtMost v w → AtMost (times x v) (times y w)
unfolding times
times_mono l m = omega (arith, mul-le-mul l.cross m.cross)

pub divided_mono : {x y : Fraction} (m : ℕ) (above : 0 < m) → AtMost x y → AtMost (divided x m above) (divided y m above)
unfolding divided
divided_mono m above l = omega (arith, mul-le-mul_right m l.cross)

pub plus_comm : (x y : Fraction) → Same (plus x y) (plus y x)
unfolding plus
plus_comm x y = omega arith

-- What keeps the order of two fractions keeps equality.
mono_same : (f : Fraction → Fraction → Fraction) → ((x y v w : Fraction) → AtMost x y → AtMost v w → AtMost (f x v) (f y w))
    → {x y v w : Fraction} → Same x y → Same v w → Same (f x v) (f y w)
mono_same f mono {x} {y} {v} {w} e h = at_most_antisymm
    (mono x y v w (at_most_of_same e) (at_most_of_same h))
    (mono y x w v (at_most_of_same (same_sym e)) (at_most_of_same (same_sym h)))

pub plus_same : {x y v w : Fraction} → Same x y → Same v w → Same (plus x v) (plus y w)
plus_same = mono_same plus (λ x y v w. plus_mono)

pub times_same : {x y v w : Fraction} → Same x y → Same v w → Same (times x v) (times y w)
times_same = mono_same times (λ x y v w. times_mono)

pub divided_same : {x y : Fraction} (m : ℕ) (above : 0 < m) → Same x y → Same (divided x m above) (divided y m above)
divided_same m above e = mono_same (λ x y. divided x m above) (λ x y v w l k. divided_mono m above l) e e

-- ---- sums of many

pub fraction_sum_mono : (m : ℕ) {f g : (i : ℕ) → i < m → Fraction} → ((i : ℕ) (l : i < m) → AtMost (f i l) (g i l)) → AtMost (fraction_sum m f) (fraction_sum m g)
unfolding fraction_sum
fraction_sum_mono zero h = at_most_refl
fraction_sum_mono (suc m) h = plus_mono (fraction_sum_mono m (λ i l. h i (le_step l))) (h m (lt-suc_self m))

pub fraction_sum_same : {m k : ℕ} → m ≡ k → {f : (i : ℕ) → i < m → Fraction} {g : (i : ℕ) → i < k → Fraction}
    → ((i : ℕ) (l : i < m) (h : i < k) → Same (f i l) (g i h)) → Same (fraction_sum m f) (fraction_sum k g)
fraction_sum_same {m} {k} as_many {f} {g} same =
    subst (λ k. (g : (i : ℕ) → i < k → Fraction) → ((i : ℕ) (l : i < m) (h : i < k) → Same (f i l) (g i h)) → Same (fraction_sum m f) (fraction_sum k g)) as_many
    (λ g same. at_most_antisymm (fraction_sum_mono m (λ i l. at_most_of_same (same i l l))) (fraction_sum_mono m (λ i l. at_most_of_same (same_sym (same i l l))))) g same

-- Of terms that have one denominator.
pub fraction_sum_over : (m d : ℕ) (above : 0 < d) {f : (i : ℕ) → i < m → Fraction} (g : ℕ → ℕ)
    → ((i : ℕ) (l : i < m) → Same (f i l) (divided (integer (g i)) d above)) → Same (fraction_sum m f) (divided (integer (sum m g)) d above)
unfolding fraction_sum sum integer divided plus
fraction_sum_over zero d above g h = omega arith
fraction_sum_over (suc m) d above g h =
    same_trans (plus_same (fraction_sum_over m d above g (λ i l. h i (le_step l))) (h m (lt-suc_self m))) (record { cross = omega arith })

-- ---- basis points

pub complement_law : {x : ℕ} → x ≤ whole → x + complement x ≡ whole
unfolding complement
complement_law l = add-sub_of_le l

pub complement_at_most : (x : ℕ) → complement x ≤ whole
unfolding complement
complement_at_most x = sub-le whole x

pub whole_once : whole ^ 1 ≡ whole
whole_once = rw (pow-suc whole 0, pow-zero whole) (one-mul whole)

-- 10,000 is below 2^14.
pub whole_digits : (t : ℕ) → whole ^ t ≤ 2 ^ (14 * t)
unfolding whole
whole_digits zero = lit≤ tt
whole_digits (suc t) =
    let more : 14 * suc t ≡ 14 + 14 * t = omega arith in
    rw (pow-succ' whole t, more, pow-add 2 14 (14 * t)) (mul-le-mul (lit≤ tt) (whole_digits t))

-- n / 10,000^t by another number of powers.
pub over_same : (x y t u : ℕ) → x * whole ^ u ≡ y * whole ^ t → Same (over x t) (over y u)
unfolding over
over_same x y t u e = record { cross = e }

pub over_times : (x y t u : ℕ) → Same (times (over x t) (over y u)) (over (x * y) (t + u))
unfolding over times
over_times x y t u = record { cross = ap (λ d. x * y * d) (pow-add whole t u) }

pub over_plus : (x y t : ℕ) → Same (plus (over x t) (over y t)) (over (x + y) t)
unfolding over plus
over_plus x y t = omega arith
