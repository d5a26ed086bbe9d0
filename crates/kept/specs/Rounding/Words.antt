-- Rounding a number of which 64 digits are known: they are shifted up until the highest is set, and the upper 32 stay.
-- Assumes nothing.
use Rattle.std.specs.Prelude.{ℕ, suc, ◌+◌, ◌-◌, ◌*◌, ◌/◌, ◌%◌, ◌^◌, ◌≤◌, ◌<◌, ◌≡◌, cond, eqb, ℤ, pos, neg_ℤ, ◌+ℤ◌, ◌-ℤ◌}
use Rattle.std.proofs.Common.{sym, ap, ◌∙◌, inl, eq-zero-or-pos, mul-le-mul_right, mul-lt-mul_of_pos_right, lt_of_mul-lt-mul_right, le-div_iff_mul-le, div-lt_iff_lt-mul, div-add-mod', mod-lt, mod-eq_of_lt, zero-add, zero-mul, lt_irrefl, le_trans, arith, eq-eqb, ne_eqb, lit<, pow-add, pow_pos}
use Rattle.std.proofs.Math.Logic.{inr}
use Rattle.std.proofs.Math.Nat.{two-pow-succ, zero-mod, mul-add-div_right, mul-add-mod_self_right}
use Rattle.std.specs.Int.Count.{count_leading_zeros}
use Rattle.std.proofs.lemmas.Nat.{leading_top}
use Rattle.std.specs.Float.Ieee.Digits.{back}
use Rattle.std.proofs.Math.IntN.{+ℤ_assoc, +ℤ_comm, -ℤ-+ℤ_cancel}
use Rattle.model.specs.Fraction.{Fraction, divided}
use Rattle.model.specs.Fraction.Laws.{same_sym, at_most_of_same, at_most_antisymm, divided_same}
use Rattle.model.specs.Fraction.Laws.{at_most_trans, less_at_most_trans, at_most_less_trans}
use Rattle.kept.specs.declared.Kept.{Kept}
use Rattle.kept.specs.declared.Side.{Side}
use Rattle.kept.specs.Rounding.{scaled, nought, Normal, increment, round}
use Rattle.kept.specs.Rounding.Powers.{power_below, scaled_shift, shifted_at_most, shifted_less}
use Rattle.kept.specs.Rounding.Leading.{Between, Carried, between_same, between_quotient, nought_least, nought_at}
use Rattle.kept.specs.Rounding.Laws.{increment_none, nought_kept, round_leading, round_kept, round_rounded}

-- ---- a word shifted up by its leading zeros

-- How far the word v is shifted up until its highest digit is set; zero, which has none, is not shifted.
unfoldable pub shift_of : ℕ → ℕ
shift_of v = count_leading_zeros 64 v % 64

-- What the shift makes of v.
pub record Shifted (v : ℕ) : Type 0 where
  pub least : 0 < v → 2 ^ 63 ≤ v * 2 ^ shift_of v
  pub below : v * 2 ^ shift_of v < 2 ^ 64
  pub few : shift_of v < 64

shifted_positive : {v : ℕ} → 0 < v → v < 2 ^ 64 → Shifted v
unfolding shift_of
shifted_positive {v} above word =
    let zeros = count_leading_zeros 64 v in
    let (j, total, least, below) = leading_top 64 v above word in
    let few : zeros < 64 = omega arith in
    let up : j + zeros ≡ 63 = omega arith in
    let top : 2 ^ j * 2 ^ zeros ≡ 2 ^ 63 = sym (pow-add 2 j zeros) ∙ ap (λ k. 2 ^ k) up in
    let same : zeros % 64 ≡ zeros = mod-eq_of_lt few in
    record {
      least = λ _. rw same (omega (arith, mul-le-mul_right (2 ^ zeros) least));
      below = rw same (omega (arith, ap (λ k. k * 2 ^ zeros) (two-pow-succ j), mul-lt-mul_of_pos_right below (pow_pos zeros)));
      few = rw same few;
    }

pub shifted : {v : ℕ} → v < 2 ^ 64 → Shifted v
unfolding shift_of
shifted {v} word = elim (eq-zero-or-pos v) [
  | inl none ↦ rw none (record { least = λ above. absurd (omega arith); below = rw zero-mul (lit< tt); few = mod-lt (count_leading_zeros 64 0) (lit< tt) })
  | inr above ↦ shifted_positive above word
]

-- A word of 32 digits or more is shifted up by 32 or less.
shifted_half : {v : ℕ} → Shifted v → 2 ^ 31 ≤ v → shift_of v ≤ 32
shifted_half {v} word large =
    omega (arith, power_below (31 + shift_of v) 64 (rw (pow-add 2 31 (shift_of v)) (mul-le-mul_right (2 ^ shift_of v) large)) word.below)

-- ---- its upper 32 digits

module _ {v : ℕ} (word : Shifted v) where
  abbrev zeros : ℕ
  zeros = shift_of v

  abbrev w : ℕ
  w = v * 2 ^ zeros

  abbrev q : ℕ
  q = w / 2 ^ 32

  normal_upper : 0 < v → Normal q
  normal_upper above = record {
    least = (le-div_iff_mul-le (pow_pos 32)).1 (word.least above);
    below = (div-lt_iff_lt-mul (pow_pos 32)).1 word.below;
  }

  upper : q * 2 ^ 32 + w % 2 ^ 32 ≡ w
  upper = div-add-mod' w (2 ^ 32)

  lower : w % 2 ^ 32 < 2 ^ 32
  lower = mod-lt w (pow_pos 32)

  -- The next word is not past the next upper digits, where fewer digits are shifted in than are dropped.
  aligned : zeros ≤ 32 → suc v * 2 ^ zeros ≤ suc q * 2 ^ 32
  aligned few =
      let split : 2 ^ (32 - zeros) * 2 ^ zeros ≡ 2 ^ 32 = sym (pow-add 2 (32 - zeros) zeros) ∙ ap (λ k. 2 ^ k) (back 32 zeros few) in
      let next = ap (λ k. q * k) split in
      let less : v < suc q * 2 ^ (32 - zeros) = lt_of_mul-lt-mul_right (2 ^ zeros) (omega (arith, upper, lower)) in
      omega (arith, mul-le-mul_right (2 ^ zeros) less)

  between_upper : (g : ℤ) {rest : ℕ} {z : Fraction} → (0 < rest → zeros ≤ 32)
      → Between v rest (g +ℤ pos zeros) z → Between q (w % 2 ^ 32 + rest) (g +ℤ pos 32) z
  between_upper g {rest} few between =
      let least = shifted_at_most g q 32 v zeros (omega (arith, upper)) in
      record {
        from = at_most_trans least between.from;
        to = elim (eq-zero-or-pos rest) [
          | inl none ↦ at_most_less_trans (between.no_rest none) (shifted_less g v zeros (suc q) 32 (omega (arith, upper, lower)))
          | inr more ↦ less_at_most_trans between.to (shifted_at_most g (suc v) zeros (suc q) 32 (aligned (few more)))
        ];
        no_rest = λ none. at_most_trans (between.no_rest (omega arith)) (shifted_at_most g v zeros q 32 (omega (arith, upper)));
        with_rest = λ some. elim (eq-zero-or-pos rest) [
          | inl none ↦ less_at_most_trans (shifted_less g q 32 v zeros (omega (arith, upper))) between.from
          | inr more ↦ at_most_less_trans least (between.with_rest more)
        ];
      }

-- The number v × 2^e where rest is zero, and more than that where it is not, rounded once. Of zero the exponent is left open.
pub record RoundedDigits (side : Side) (v rest : ℕ) (e : ℤ) (r : Kept) : Type 0 where
  pub above : 0 < v → (z : Fraction) → Between v rest e z → r ≡ round side z
  pub none : v ≡ 0 → r.significand ≡ 0

-- Nothing is left where v is zero.
no_rest : {v rest : ℕ} → (0 < rest → 2 ^ 31 ≤ v) → v ≡ 0 → rest ≡ 0
no_rest {rest} large none = elim (eq-zero-or-pos rest) [ inl exact ↦ exact | inr more ↦ absurd (omega (arith, large more)) ]

-- The upper digits of v, carried.
pub digits_rounded : (side : Side) {v rest : ℕ} {e : ℤ} {r : Kept} → Shifted v → (0 < rest → 2 ^ 31 ≤ v)
    → Carried (v * 2 ^ shift_of v / 2 ^ 32 + increment side (v * 2 ^ shift_of v % 2 ^ 32 + rest)) (e +ℤ pos 32 -ℤ pos (shift_of v)) r
    → RoundedDigits side v rest e r
digits_rounded side {v} {rest} {e} word large carried = record {
  above = λ above z between.
      let down = neg_ℤ (pos (shift_of v)) in
      let g = e +ℤ down in
      let there : e +ℤ pos 32 +ℤ down ≡ g +ℤ pos 32 =
      +ℤ_assoc e (pos 32) down ∙ ap (λ f. e +ℤ f) (+ℤ_comm (pos 32) down) ∙ sym (+ℤ_assoc e down (pos 32)) in
      let upper = normal_upper word above in
      carried.above (omega (arith, upper.least))
      ∙ rw there
      (round_leading side _ upper
      (between_upper word g (λ more. shifted_half word (large more)) (rw (← -ℤ-+ℤ_cancel e (pos (shift_of v))) at between)));
  none = λ none. carried.none (rw (none, no_rest large none, zero-mul) (zero-add (increment side 0) ∙ increment_none side));
}

-- With the exponent 0 for zero.
pub rounded_once : {side : Side} {v rest : ℕ} {e : ℤ} {r : Kept} → (0 < rest → 2 ^ 31 ≤ v) → RoundedDigits side v rest e r
    → (z : Fraction) → Between v rest e z → cond (eqb r.significand 0) nought r ≡ round side z
rounded_once {side} {v} {e} {r} large rounded z between = elim (eq-zero-or-pos v) [
  | inl none ↦
      let zero = at_most_trans (between.no_rest (no_rest large none)) (at_most_of_same (same_sym (nought_at v e none))) in
      rw (eq-eqb r.significand 0 (rounded.none none)) (round_kept side nought_kept (at_most_antisymm (nought_least z) zero))
  | inr above ↦
      let is = rounded.above above z between in
      elim (rw (← is) at (round_rounded side z).kept).form [
        | inl nothing ↦ rw (nothing) (unfold nought in (sym nothing ∙ is))
        | inr normal ↦ rw (ne_eqb r.significand 0 (λ none. omega arith)) is
      ]
]

-- ---- a quotient

-- n × 2^e / m is the quotient of n shifted up.
pub round_quotient : (side : Side) (n m : ℕ) (above : 0 < m) (e : ℤ) (k : ℕ) {r : Kept}
    → ((z : Fraction) → Between (n * 2 ^ k / m) (n * 2 ^ k % m) (e -ℤ pos k) z → r ≡ round side z)
    → r ≡ round side (divided (scaled n e) m above)
round_quotient side n m above e k rounds =
    let g = e -ℤ pos k in
    let moved = divided_same m above (same_sym (scaled_shift n g k (sym (-ℤ-+ℤ_cancel e (pos k))))) in
    rounds (divided (scaled n e) m above) (between_same moved (between_quotient (n * 2 ^ k) m above g))

-- It is b or more where n is not zero, for a divisor that is small enough.
pub quotient_least : {n m : ℕ} (b : ℕ) → Shifted n → 0 < m → b * m ≤ 2 ^ 63 → 0 < n → b ≤ n * 2 ^ shift_of n / m
quotient_least b word above small some = (le-div_iff_mul-le above).1 (le_trans small (word.least some))

-- Where anything is left, n is not zero.
pub left_positive : (n x m : ℕ) → (n ≡ 0 → x ≡ 0) → 0 < x % m → 0 < n
left_positive n x m zero more = elim (eq-zero-or-pos n) [
  | inl none ↦ absurd (lt_irrefl 0 (rw (zero none, zero-mod) at more))
  | inr some ↦ some
]

-- ---- the same by long division

-- The digits that the remainder gives follow those of the quotient.
module _ (w c : ℕ) {m : ℕ} (above : 0 < m) where
  dividend : w / m * c * m + w % m * c ≡ w * c
  dividend = omega (arith, ap (λ k. k * c) (div-add-mod' w m))

  pub long_quotient : w / m * c + w % m * c / m ≡ w * c / m
  long_quotient = sym (mul-add-div_right above (w / m * c) (w % m * c)) ∙ ap (λ k. k / m) dividend

  long_rest : w % m * c % m ≡ w * c % m
  long_rest = sym (mul-add-mod_self_right (w / m * c) m (w % m * c)) ∙ ap (λ k. k % m) dividend

-- n × c × 2^e / m by long division of n shifted up.
pub round_long_quotient : (side : Side) (n c m : ℕ) (above : 0 < m) (e : ℤ) (k : ℕ) {r : Kept}
    → ((z : Fraction) → Between (n * 2 ^ k / m * c + n * 2 ^ k % m * c / m) (n * 2 ^ k % m * c % m) (e -ℤ pos k) z → r ≡ round side z)
    → r ≡ round side (divided (scaled (n * c) e) m above)
round_long_quotient side n c m above e k rounds =
    let w = n * 2 ^ k in
    let moved : n * 2 ^ k * c ≡ n * c * 2 ^ k = omega arith in
    round_quotient side (n * c) m above e k (rw (long_quotient w c above, long_rest w c above, moved) at rounds)
