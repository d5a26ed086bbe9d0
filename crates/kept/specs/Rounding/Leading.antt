-- The leading digits of a fraction, and its rounding from them.
-- Assumes nothing.
use Rattle.std.specs.Prelude.{ℕ, zero, suc, ◌+◌, ◌-◌, ◌*◌, ◌/◌, ◌%◌, ◌^◌, ◌≤◌, ◌<◌, ◌≡◌, refl, ◌⊎◌, ℤ, pos, ◌+ℤ◌}
use Rattle.std.proofs.Common.{sym, ap, ◌∙◌, inl, inr, add-zero, zero-mul, div-add-mod', mod-lt, zero-lt-suc, lt_of_not-le, mul-pos, mul-le-mul_left, mul-lt-mul_of_pos_right, add-one, arith, lit<, lit≤, pow_pos, eq-eqb, ne_eqb}
use Rattle.std.proofs.Math.Nat.{sub-zero, div-eq_of_lt, pow-succ'}
use Rattle.std.proofs.Math.Decide.{ℕ_discrete, dec_le}
use Rattle.std.proofs.Math.Arith.{lt_of_le-ne}
use Rattle.std.proofs.Math.IntN.{+ℤ_idr}
use Rattle.std.specs.Float.Ieee.{up, down}
use Rattle.std.specs.Float.Ieee.Fits.{up_pos, down_pos}
use Rattle.model.specs.Fraction.{Fraction, Same, AtMost, Less, divided}
use Rattle.model.specs.Fraction.Laws.{same_refl, same_sym, at_most_of_same, at_most_of_less, not_both}
use Rattle.model.specs.Fraction.Laws.{at_most_trans, less_at_most_trans, at_most_less_trans}
use Rattle.kept.specs.declared.Kept.{Kept}
use Rattle.kept.specs.declared.Side.{Side}
use Rattle.kept.specs.declared.Side.TheVariants.{Low, High}
use Rattle.kept.specs.Rounding.{scaled, value, nought, Normal, IsKept, OnSide, increment, carry, Rounded}
use Rattle.kept.specs.Rounding.Powers.{scaled_shift, scaled_at_most, exponents}

-- z is s × 2^e or more, and less than (s + 1) × 2^e; r is zero exactly where z is s × 2^e.
pub record Between (s r : ℕ) (e : ℤ) (z : Fraction) : Type 0 where
  pub from : AtMost (scaled s e) z
  pub to : Less z (scaled (suc s) e)
  pub no_rest : r ≡ 0 → AtMost z (scaled s e)
  pub with_rest : 0 < r → Less (scaled s e) z

-- The whole part of w / m and what is left.
pub between_quotient : (w m : ℕ) (above : 0 < m) (g : ℤ) → Between (w / m) (w % m) g (divided (scaled w g) m above)
unfolding scaled divided
between_quotient w m above g =
    let c = up g * down g in
    let positive : 0 < c = mul-pos (up_pos g) (down_pos g) in
    let whole = ap (λ k. k * c) (div-add-mod' w m) in
    record {
      from = omega arith;
      to = omega (arith, mul-lt-mul_of_pos_right (mod-lt w above) positive);
      no_rest = λ none. omega (arith, ap (λ k. k * c) none);
      with_rest = λ some. omega (arith, mul-pos some positive);
    }

pub between_same : {s r : ℕ} {e : ℤ} {y z : Fraction} → Same y z → Between s r e y → Between s r e z
between_same same between =
    let there = at_most_of_same same in
    let back = at_most_of_same (same_sym same) in
    record {
      from = at_most_trans between.from there;
      to = at_most_less_trans back between.to;
      no_rest = λ none. at_most_trans back (between.no_rest none);
      with_rest = λ some. less_at_most_trans (between.with_rest some) there;
    }

-- ---- zero

pub nought_same : (z : Fraction) → z.num ≡ 0 → Same (value nought) z
unfolding nought scaled
nought_same z none = record { cross = omega (arith, ap (λ n. n * 1) none) }

-- Zero at any exponent.
pub nought_at : (s : ℕ) (e : ℤ) → s ≡ 0 → Same (value nought) (scaled s e)
unfolding scaled
nought_at s e none = nought_same (scaled s e) (rw none (zero-mul (up e)))

pub nought_least : (z : Fraction) → AtMost (value nought) z
unfolding nought scaled
nought_least z = record { cross = omega arith }

-- ---- no kept number lies strictly between two neighbours

module _ {s : ℕ} (normal : Normal s) (e : ℤ) where
  normal_neighbours : {t : ℕ} → Normal t → (f : ℤ) → AtMost (scaled t f) (scaled s e) ⊎ AtMost (scaled (suc s) e) (scaled t f)
  normal_neighbours {t} other f = elim (exponents e f) [
    | inl is ↦ rw is (elim (dec_le t s) [ yes le ↦ inl (scaled_at_most e le) | no le ↦ inr (scaled_at_most e (lt_of_not-le le)) ])
    | inr (inl (k, is)) ↦
        let double : suc s ≤ t * 2 ^ suc k = rw pow-succ' (omega (arith, mul-le-mul_left t (pow_pos k))) in
        inr (at_most_trans (scaled_at_most e double) (at_most_of_same (same_sym (scaled_shift t e (suc k) is))))
    | inr (inr (k, is)) ↦
        let double : t ≤ s * 2 ^ suc k = rw pow-succ' (omega (arith, mul-le-mul_left s (pow_pos k))) in
        inl (at_most_trans (scaled_at_most f double) (at_most_of_same (same_sym (scaled_shift s f (suc k) is))))
  ]

  neighbours : (y : Kept) → IsKept y → AtMost (value y) (scaled s e) ⊎ AtMost (scaled (suc s) e) (value y)
  neighbours y kept = elim kept.form [ inl is ↦ rw is (inl (nought_least (scaled s e))) | inr other ↦ normal_neighbours other y.exponent ]

-- ---- the carry

-- By what the carry tests: zero, 2^32, or another number.
by_carry : (P : Kept → Type 0) (s : ℕ) (e : ℤ)
    → (s ≡ 0 → P nought)
    → (s ≡ 2 ^ 32 → P (record { significand = 2 ^ 31; exponent = e +ℤ pos 1 }))
    → ((s ≡ 0 → ⊥) → (s ≡ 2 ^ 32 → ⊥) → P (record { significand = s; exponent = e }))
    → P (carry s e)
unfolding carry
by_carry P s e none top other = elim (ℕ_discrete s 0) [
  | yes is ↦ rw (eq-eqb s 0 is) (none is)
  | no not_zero ↦ rw (ne_eqb s 0 not_zero) (elim (ℕ_discrete s (2 ^ 32)) [
    | yes is ↦ rw (eq-eqb s (2 ^ 32) is) (top is)
    | no not_top ↦ rw (ne_eqb s (2 ^ 32) not_top) (other not_zero not_top)
  ])
]

pub carry_value : (s : ℕ) (e : ℤ) → Same (value (carry s e)) (scaled s e)
carry_value s e =
    by_carry (λ x. Same (value x) (scaled s e)) s e
    (nought_at s e)
    (λ is. rw is (scaled_shift (2 ^ 31) e 1 refl))
    (λ _ _. same_refl)

carry_kept : (s : ℕ) (e : ℤ) → 2 ^ 31 ≤ s → s ≤ 2 ^ 32 → IsKept (carry s e)
carry_kept s e least most =
    by_carry IsKept s e
    (λ is. record { form = inl refl })
    (λ is. record { form = inr (record { least = lit≤ tt; below = lit< tt }) })
    (λ _ not. record { form = inr (record { least = least; below = lt_of_le-ne most not }) })

-- The carry without a test for 2^32: s / 2^32 is one there, and zero below it. The shift is one of a word.
abbrev pub less_top : ℕ → ℕ
less_top s = s - s / 2 ^ 32 * 2 ^ 31 % 2 ^ 64

less_top_below : {s : ℕ} → s < 2 ^ 32 → less_top s ≡ s
less_top_below {s} below = rw (div-eq_of_lt below) (sub-zero s)

carry_significand : (s : ℕ) (e : ℤ) → s ≤ 2 ^ 32 → (carry s e).significand ≡ less_top s
unfolding nought
carry_significand s e most =
    by_carry (λ x. x.significand ≡ less_top s) s e (λ is. rw is refl) (λ is. rw is refl) (λ _ not. sym (less_top_below (lt_of_le-ne most not)))

pub carry_below : (s : ℕ) → s ≤ 2 ^ 32 → less_top s < 2 ^ 32
carry_below s most = elim (ℕ_discrete s (2 ^ 32)) [
  | yes is ↦ rw is (lit< tt)
  | no not_top ↦ let below = lt_of_le-ne most not_top in rw (less_top_below below) below
]

carry_exponent : (s : ℕ) (e : ℤ) → s ≤ 2 ^ 32 → 0 < s → (carry s e).exponent ≡ e +ℤ pos (s / 2 ^ 32)
unfolding nought
carry_exponent s e most above =
    by_carry (λ x. x.exponent ≡ e +ℤ pos (s / 2 ^ 32)) s e
    (λ is. absurd (omega arith))
    (λ is. rw is refl)
    (λ _ not_top. sym (rw (div-eq_of_lt (lt_of_le-ne most not_top)) (+ℤ_idr e)))

-- What the carry makes of s × 2^e in code: of zero the exponent is left open.
pub record Carried (s : ℕ) (e : ℤ) (r : Kept) : Type 0 where
  pub above : 0 < s → r ≡ carry s e
  pub none : s ≡ 0 → r.significand ≡ 0

pub carry_made : {s : ℕ} {e : ℤ} {r : Kept} → s ≤ 2 ^ 32 → r.significand ≡ less_top s → r.exponent ≡ e +ℤ pos (s / 2 ^ 32) → Carried s e r
carry_made {s} {e} most significand exponent = record {
  above = λ above. kept_fields (significand ∙ sym (carry_significand s e most)) (exponent ∙ sym (carry_exponent s e most above));
  none = λ none. significand ∙ rw none refl;
}
  where
    kept_fields : {x y : Kept} → x.significand ≡ y.significand → x.exponent ≡ y.exponent → x ≡ y
    kept_fields same alike = rw (same, alike) refl

-- ---- the rounding

pub side_same : (side : Side) {x y v w : Fraction} → Same x y → Same v w → OnSide side x v → OnSide side y w
side_same Low p q on = at_most_trans (at_most_of_same (same_sym p)) (at_most_trans on (at_most_of_same q))
side_same High p q on = at_most_trans (at_most_of_same (same_sym q)) (at_most_trans on (at_most_of_same p))

-- t × 2^e is the greatest number on the low side of z, or the least on its high side.
rounded_carry : (side : Side) {t : ℕ} (e : ℤ) {z : Fraction} → 2 ^ 31 ≤ t → t ≤ 2 ^ 32 → OnSide side (scaled t e) z
    → ((y : Kept) → IsKept y → OnSide side (value y) z → OnSide side (value y) (scaled t e))
    → Rounded side z (carry t e)
rounded_carry side {t} e {z} least most on best =
    let same = same_sym (carry_value t e) in
    record {
      kept = carry_kept t e least most;
      on_side = side_same side same (same_refl {x = z}) on;
      best = λ y kept le. side_same side (same_refl {x = value y}) same (best y kept le);
    }

-- The leading digits, one more on the high side where anything is left below them.
pub rounded_leading : (side : Side) (r : ℕ) {s : ℕ} {e : ℤ} {z : Fraction}
    → Normal s → Between s r e z → Rounded side z (carry (s + increment side r) e)
unfolding increment
rounded_leading Low r {s} {e} normal between =
    rw (add-zero s)
    (rounded_carry Low e normal.least (omega arith) between.from (λ y kept le. elim (neighbours normal e y kept) [
      | inl below ↦ below
      | inr past ↦ absurd (not_both (at_most_trans past le) between.to)
    ]))
rounded_leading High zero {s} {e} normal between =
    rw (add-zero s) (rounded_carry High e normal.least (omega arith) (between.no_rest refl) (λ y kept le. at_most_trans between.from le))
rounded_leading High (suc r) {s} {e} normal between =
    rw (add-one s)
    (rounded_carry High e (omega arith) normal.below (at_most_of_less between.to) (λ y kept le. elim (neighbours normal e y kept) [
      | inl below ↦ absurd (not_both (at_most_trans le below) (between.with_rest (zero-lt-suc r)))
      | inr past ↦ past
    ]))

pub increment_at_most_one : (side : Side) (r : ℕ) → increment side r ≤ 1
unfolding increment
increment_at_most_one Low r = lit≤ tt
increment_at_most_one High zero = lit≤ tt
increment_at_most_one High (suc r) = lit≤ tt

pub increment_at_most : (side : Side) (r : ℕ) → increment side r ≤ r
unfolding increment
increment_at_most Low r = omega arith
increment_at_most High zero = omega arith
increment_at_most High (suc r) = omega arith
