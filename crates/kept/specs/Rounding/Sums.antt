-- What the sum hands to one rounding.
-- Assumes nothing.
use Rattle.std.specs.Prelude.{ℕ, ◌+◌, ◌*◌, ◌^◌, ◌≤◌, ◌<◌, ◌≡◌, refl, ℤ, pos, ◌+ℤ◌, ◌-ℤ◌}
use Rattle.std.proofs.Common.{sym, ap, ◌∙◌, lt_of_not-le, mul-le-mul_left, lit≤, pow_mono, pow_pos}
use Rattle.std.proofs.Math.Nat.{lt_of_lt_of_le}
use Rattle.std.proofs.Math.Decide.{dec_le}
use native.Mathlib.Omega.{arith}
use Rattle.std.proofs.Math.Arith.{digits_div, digits_mod}
use Rattle.std.proofs.Math.IntN.{+ℤ-neg_ℤ_cancel, -ℤ-+ℤ_cancel}
use Rattle.model.specs.Fraction.{Same, plus, divided}
use Rattle.model.specs.Fraction.Laws.{same_refl, same_sym, same_trans, plus_same}
use Rattle.kept.specs.declared.Kept.{Kept}
use Rattle.kept.specs.declared.Side.{Side}
use Rattle.kept.specs.Rounding.{scaled, value, Normal, IsKept, round, rounded_sum}
use Rattle.kept.specs.Rounding.Powers.{scaled_shift, scaled_plus}
use Rattle.kept.specs.Rounding.Leading.{Between, between_same, between_quotient}
use Rattle.kept.specs.Rounding.Laws.{kept_below, round_cong, round_kept, round_leading}

-- ---- the sum of s × 2^e and t × 2^f, e being d above f

module _ (s t : ℕ) (e f : ℤ) (d : ℕ) (apart : e ≡ f +ℤ pos d) where
  sum_exact : Same (scaled (s * 2 ^ d + t) f) (plus (scaled s e) (scaled t f))
  sum_exact = same_trans (same_sym (scaled_plus (s * 2 ^ d) t f)) (plus_same (same_sym (scaled_shift s f d apart)) same_refl)

  -- Where d is 32 or more, all of the second lies below the last digit of the first: the sum is a quotient by 2^d, t being what is left.
  between_far : 32 ≤ d → t < 2 ^ 32 → Between s t e (plus (scaled s e) (scaled t f))
  unfolding scaled divided
  between_far far small =
      let w = s * 2 ^ d + t in
      let little : t < 2 ^ d = lt_of_lt_of_le small (pow_mono far) in
      let back : Same (divided (scaled w e) (2 ^ d) (pow_pos d)) (scaled w f) = omega (arith, (scaled_shift w f d apart).cross) in
      rw (digits_div s little, digits_mod s little) at (between_same (same_trans back sum_exact) (between_quotient w (2 ^ d) (pow_pos d) e))

-- ---- the digits that are rounded

-- r is the distance of e above f, or 32 where that is more.
pub record Gap (e f : ℤ) (r : ℕ) : Type 0 where
  pub distance : ℕ
  pub apart : e ≡ f +ℤ pos distance
  pub near : distance < 32 → r ≡ distance
  pub far : 32 ≤ distance → r ≡ 32

pub gap_near : {e f : ℤ} {d : ℕ} → e ≡ f +ℤ pos d → d < 32 → Gap e f d
gap_near {d} apart less = record { distance = d; apart = apart; near = λ _. refl; far = λ far. absurd (omega arith) }

pub gap_far : {e f : ℤ} {d : ℕ} → e ≡ f +ℤ pos d → 32 ≤ d → Gap e f 32
gap_far {d} apart past = record { distance = d; apart = apart; near = λ near. absurd (omega arith); far = λ _. refl }

pub gap_few : {e f : ℤ} {r : ℕ} → Gap e f r → r ≤ 32
gap_few gap = elim (dec_le 32 gap.distance) [ yes far ↦ omega (arith, gap.far far) | no near ↦ omega (arith, gap.near (lt_of_not-le near)) ]

-- The digits of a sum fit a word.
pub sum_word : {s t r : ℕ} → s < 2 ^ 32 → t < 2 ^ 32 → r ≤ 32 → s * 2 ^ r + t < 2 ^ 64
sum_word {s} {r = r} small little few = omega (arith, mul-le-mul_left s (pow_mono {i = r} {j = 32} few))

-- A second number that lies further below than r digits is rounded as if it lay r digits below.
pub round_sum : (side : Side) (x y : Kept) → Normal x.significand → IsKept y → {r : ℕ} → Gap x.exponent y.exponent r
    → round side (scaled (x.significand * 2 ^ r + y.significand) (x.exponent -ℤ pos r)) ≡ round side (plus (value x) (value y))
round_sum side x y normal kept {r} gap =
    let s = x.significand in
    let t = y.significand in
    let e = x.exponent in
    let f = y.exponent in
    let d = gap.distance in
    let g = e -ℤ pos r in
    let above : e ≡ g +ℤ pos r = sym (-ℤ-+ℤ_cancel e (pos r)) in
    round_cong side (sum_exact s t e g r above) ∙ elim (dec_le 32 d) [
      | yes far ↦
          let small = kept_below kept in
          let cut : 32 ≤ r = rw (gap.far far) (lit≤ tt) in
          sym (round_leading side t normal (between_far s t e g r above cut small))
          ∙ round_leading side t normal (between_far s t e f d gap.apart far small)
      | no near ↦
          let back : g ≡ f = rw (gap.near (lt_of_not-le near)) (ap (λ h. h -ℤ pos d) gap.apart ∙ +ℤ-neg_ℤ_cancel f (pos d)) in
          rw back
    ]

-- ---- zero

-- Zero and a kept number add to that number.
module _ (side : Side) (x y : Kept) where
  pub sum_nought_left : x.significand ≡ 0 → IsKept y → y ≡ rounded_sum side x y
  unfolding rounded_sum scaled plus
  sum_nought_left none kept = rw none (round_kept side kept (record { cross = omega arith }))

  pub sum_nought_right : y.significand ≡ 0 → IsKept x → x ≡ rounded_sum side x y
  unfolding rounded_sum scaled plus
  sum_nought_right none kept = rw none (round_kept side kept (record { cross = omega arith }))
