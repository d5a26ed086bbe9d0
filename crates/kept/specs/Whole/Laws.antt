-- What a fraction in whole numbers is, and that of a kept number of at most two.
-- Assumes nothing.
use Rattle.std.specs.Prelude.{ℕ, zero, suc, ◌+◌, ◌-◌, ◌*◌, ◌/◌, ◌^◌, ◌≤◌, ◌<◌, ◌≡◌, refl, ltb, ℤ, pos, negsuc, neg_ℤ, ◌-ℤ◌}
use Rattle.std.proofs.Common.{sym, ap, ◌∙◌, inl, inr, add-zero, zero-add, div-add-mod', div-lt_iff_lt-mul, div-mul-le_self, le-div_iff_mul-le, lt_of_lt_of_le, mod-lt, mul-le-mul_left, arith, pow_mono, pow_pos}
use Rattle.std.proofs.Math.Nat.{sub-zero, zero-div, add-div_right, div-eq_of_lt, lt-div-mul-add}
use Rattle.std.proofs.Math.Dec.{leb-suc-suc}
use Rattle.std.specs.Float.Ieee.{up, down}
use Rattle.std.proofs.Math.IntN.{+ℤ_idl, neg_ℤ-neg_ℤ}
use Rattle.std.specs.Int.Signed.{lt_z}
use Rattle.model.specs.Fraction.{Fraction, AtMost, Less, integer, times}
use Rattle.model.specs.Fraction.Laws.{at_most_trans}
use Rattle.kept.specs.declared.Kept.{Kept}
use Rattle.kept.specs.declared.Side.{Side}
use Rattle.kept.specs.declared.Side.TheVariants.{Low, High}
use Rattle.kept.specs.Rounding.{scaled, value, nought, Normal, IsKept, increment}
use Rattle.kept.specs.Whole.{whole_of, IsWholeOf}

-- ---- a fraction in whole numbers

-- The greatest whole number not above x, or the least not below it.
pub whole_is : (side : Side) (x : Fraction) → IsWholeOf side x (whole_of side x)
unfolding whole_of integer
whole_is Low x = record {
  on_side = record { cross = omega (arith, div-mul-le_self x.num x.den) };
  best = λ q on. (le-div_iff_mul-le x.positive).1 (omega (arith, on.cross));
}
whole_is High x =
    let n = x.num + (x.den - 1) in
    record {
      on_side = record { cross = omega (arith, x.positive, div-add-mod' n x.den, mod-lt n x.positive) };
      best = λ q on.
          let below : n / x.den < suc q = (div-lt_iff_lt-mul x.positive).1 (omega (arith, x.positive, on.cross)) in
          omega arith;
    }

-- A greater fraction has no smaller one.
pub whole_mono : (side : Side) {x y : Fraction} → AtMost x y → whole_of side x ≤ whole_of side y
whole_mono Low {x} {y} le = (whole_is Low y).best _ (at_most_trans (whole_is Low x).on_side le)
whole_mono High {x} {y} le = (whole_is High x).best _ (at_most_trans le (whole_is High y).on_side)

pub whole_at_most : (side : Side) {x : Fraction} {n : ℕ} → AtMost x (integer n) → whole_of side x ≤ n
whole_at_most Low {x} le = unfold integer in omega (arith, (at_most_trans (whole_is Low x).on_side le).cross)
whole_at_most High {x} {n} le = (whole_is High x).best n le

-- One more than the low side's is above x.
pub whole_next : (x : Fraction) → Less x (integer (suc (whole_of Low x)))
unfolding whole_of integer
whole_next x = record { cross = omega (arith, lt-div-mul-add {a = x.num} x.positive) }

-- n / d in whole numbers by one division that is rounded down.
one_division : (side : Side) {n d : ℕ} (x : Fraction) → x.num ≡ n → x.den ≡ d → (n - increment side n) / d + increment side n ≡ whole_of side x
unfolding whole_of increment
one_division Low x above below = rw (above, below, sub-zero, add-zero)
one_division High {n = zero} x above below = rw (above, below, zero-div) (sym (div-eq_of_lt (omega (arith, x.positive))))
one_division High {n = suc n} {d} x above below =
    let whole : suc n + (d - 1) ≡ n + d = omega (arith, x.positive) in
    let less : suc n - 1 ≡ n = omega arith in
    rw (above, below, whole, less) (sym (add-div_right n (rw below at x.positive)))

-- ---- an exponent that is a number of binary places, negated

up_places : (k : ℕ) → up (neg_ℤ (pos k)) ≡ 1
up_places zero = refl
up_places (suc k) = refl

down_places : (k : ℕ) → down (neg_ℤ (pos k)) ≡ 2 ^ k
down_places zero = refl
down_places (suc k) = refl

-- It is below −63 for 64 binary places or more.
pub places_test : (k : ℕ) → lt_z (neg_ℤ (pos k)) (negsuc 62) ≡ ltb 63 k
places_test zero = refl
places_test (suc k) = sym (leb-suc-suc 63 k)

pub places_back : (k : ℕ) → pos 0 -ℤ neg_ℤ (pos k) ≡ pos k
places_back k = +ℤ_idl (neg_ℤ (neg_ℤ (pos k))) ∙ neg_ℤ-neg_ℤ (pos k)

-- ---- a kept number of at most two

-- It has so many binary places.
pub record Fractional (x : Kept) : Type 0 where
  pub places : ℕ
  pub is : x.exponent ≡ neg_ℤ (pos places)

pub kept_fractional : {x : Kept} → IsKept x → AtMost (value x) (integer 2) → Fractional x
unfolding nought scaled integer
kept_fractional {x} kept le = elim kept.form [
  | inl is ↦ record { places = 0; is = ap (λ y. y.exponent) is }
  | inr normal ↦ normal_places normal x.exponent refl
]
  where
    normal_places : Normal x.significand → (e : ℤ) → x.exponent ≡ e → Fractional x
    normal_places normal (pos k) is = absurd (omega (arith, rw is at le.cross, mul-le-mul_left x.significand (pow_pos k)))
    normal_places normal (negsuc k) is = record { places = suc k; is = is }

module _ {x : Kept} (f : Fractional x) (m : ℕ) (side : Side) where
  abbrev v : ℕ
  v = x.significand * m

  -- m × x is v / 2^places.
  pub whole_shifted : (v - increment side v) / 2 ^ f.places + increment side v ≡ whole_of side (times (integer m) (value x))
  unfolding times integer scaled
  whole_shifted =
      one_division side (times (integer m) (value x))
      (rw (f.is, up_places f.places) (omega arith))
      (rw (f.is, down_places f.places) (omega arith))

  -- It is below one where there are 64 binary places or more.
  pub whole_faint : v < 2 ^ 64 → 63 < f.places → increment side v ≡ whole_of side (times (integer m) (value x))
  whole_faint word far =
      let none : (v - increment side v) / 2 ^ f.places ≡ 0 = div-eq_of_lt (lt_of_lt_of_le (omega arith) (pow_mono {i = 64} far)) in
      rw (none, zero-add) at whole_shifted
