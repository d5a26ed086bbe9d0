-- Laws of s × 2^e for a signed exponent.
-- Assumes nothing.
use Rattle.std.specs.Prelude.{ℕ, zero, suc, ◌+◌, ◌*◌, ◌^◌, ◌≤◌, ◌<◌, ◌≡◌, refl, ◌⊎◌, ℤ, pos, negsuc, ◌+ℤ◌, ◌-ℤ◌}
use Rattle.std.proofs.Common.{sym, ap, ◌∙◌, inl, inr, lt_of_not-le, lt_of_lt_of_le, not-le_of_lt, mul-pos, arith, pow-add, pow_mono, lt-ltb, le-ltb, le-leb}
use Rattle.std.proofs.Math.Decide.{dec_le}
use Rattle.std.proofs.Math.Nat.{mul-le-mul_right, mul-lt-mul_of_pos_right}
use Rattle.std.proofs.Math.IntN.{sub_ℕ, +ℤ_comm, +ℤ_idl, -ℤ-+ℤ_cancel}
use Rattle.std.specs.Float.Ieee.{up, down, minus}
use Rattle.std.specs.Float.Ieee.Digits.{minus_val}
use Rattle.std.specs.Float.Ieee.Fits.{up_pos, down_pos}
use Rattle.std.proofs.lemmas.Bool.{lt-leb}
use Rattle.model.specs.Fraction.{Same, AtMost, Less, times, plus}
use Rattle.model.specs.Fraction.Laws.{same_sym, at_most_of_same, at_most_trans, less_at_most_trans, at_most_less_trans}
use Rattle.kept.specs.Rounding.{scaled}

difference : (a b : ℕ) → sub_ℕ a b ≡ minus a b
difference a b = elim (dec_le b a) [
  | yes le ↦ rw (le-ltb a b le, le-leb b a le)
  | no le ↦ let less = lt_of_not-le le in rw (lt-ltb a b less, lt-leb b a less)
]

-- A power of two that a number reaches is lower than one that it does not.
pub power_below : (i j : ℕ) {v : ℕ} → 2 ^ i ≤ v → v < 2 ^ j → i < j
power_below i j reached below = lt_of_not-le (λ le. not-le_of_lt (lt_of_lt_of_le below (pow_mono le)) reached)

-- 2^(e + k) = 2^k × 2^e
power : (e : ℤ) (k : ℕ) → up (e +ℤ pos k) * down e ≡ 2 ^ k * up e * down (e +ℤ pos k)
power (pos m) k = omega (arith, pow-add 2 m k)
power (negsuc m) k = rw (difference k (suc m)) (omega (arith, minus_val 1 k (suc m)))

pub scaled_shift : (s : ℕ) (e : ℤ) {f : ℤ} (k : ℕ) → f ≡ e +ℤ pos k → Same (scaled s f) (scaled (s * 2 ^ k) e)
unfolding scaled
scaled_shift s e k is = rw is (record { cross = omega (arith, ap (λ n. s * n) (power e k)) })

powers : (e f : ℤ) → up e * up f * down (e +ℤ f) ≡ up (e +ℤ f) * down e * down f
powers e (pos k) = omega (arith, power e k)
powers e (negsuc k) = omega (arith, rw (-ℤ-+ℤ_cancel e (pos (suc k))) at (power (e +ℤ negsuc k) (suc k)))

pub scaled_times : (s t : ℕ) (e f : ℤ) → Same (times (scaled s e) (scaled t f)) (scaled (s * t) (e +ℤ f))
unfolding scaled times
scaled_times s t e f = record { cross = omega (arith, ap (λ n. s * t * n) (powers e f)) }

pub scaled_plus : (s t : ℕ) (e : ℤ) → Same (plus (scaled s e) (scaled t e)) (scaled (s + t) e)
unfolding scaled plus
scaled_plus s t e = record { cross = omega arith }

module _ (e : ℤ) {s t : ℕ} where
  pub scaled_at_most : s ≤ t → AtMost (scaled s e) (scaled t e)
  unfolding scaled
  scaled_at_most le = record { cross = omega (arith, mul-le-mul_right (up e * down e) le) }

  pub scaled_less : s < t → Less (scaled s e) (scaled t e)
  unfolding scaled
  scaled_less le = record { cross = omega (arith, mul-lt-mul_of_pos_right le (mul-pos (up_pos e) (down_pos e))) }

-- s × 2^(g + a) against t × 2^(g + b)
module _ (g : ℤ) (s a t b : ℕ) where
  pub shifted_at_most : s * 2 ^ a ≤ t * 2 ^ b → AtMost (scaled s (g +ℤ pos a)) (scaled t (g +ℤ pos b))
  shifted_at_most le =
      at_most_trans (at_most_of_same (scaled_shift s g a refl))
      (at_most_trans (scaled_at_most g le) (at_most_of_same (same_sym (scaled_shift t g b refl))))

  pub shifted_less : s * 2 ^ a < t * 2 ^ b → Less (scaled s (g +ℤ pos a)) (scaled t (g +ℤ pos b))
  shifted_less less =
      at_most_less_trans (at_most_of_same (scaled_shift s g a refl))
      (less_at_most_trans (scaled_less g less) (at_most_of_same (same_sym (scaled_shift t g b refl))))

-- Of two exponents one is the other or some steps above it.
pub exponents : (e f : ℤ) → (f ≡ e) ⊎ (((k : ℕ) × (f ≡ e +ℤ pos (suc k))) ⊎ ((k : ℕ) × (e ≡ f +ℤ pos (suc k))))
exponents e f = by_difference (f -ℤ e) (sym (-ℤ-+ℤ_cancel f e))
  where
    by_difference : (d : ℤ) → f ≡ d +ℤ e → (f ≡ e) ⊎ (((k : ℕ) × (f ≡ e +ℤ pos (suc k))) ⊎ ((k : ℕ) × (e ≡ f +ℤ pos (suc k))))
    by_difference (pos zero) is = inl (is ∙ +ℤ_idl e)
    by_difference (pos (suc k)) is = inr (inl (k, is ∙ +ℤ_comm (pos (suc k)) e))
    by_difference (negsuc k) is =
        inr (inr (k, sym (ap (λ x. x +ℤ pos (suc k)) (is ∙ +ℤ_comm (negsuc k) e) ∙ -ℤ-+ℤ_cancel e (pos (suc k)))))
