-- The digits of a number: how many there are and that they write it. The text of a column by its printed tails.
-- Assumes nothing.
use Prim.Native.Nat.{ℕ, zero, suc, ◌+◌, ◌*◌, ◌-◌, ◌/◌, ◌%◌, ◌^◌, ◌<◌, ◌≤◌}
use Prim.Native.Char.{code}
use Rattle.std.specs.Prelude.{◌≡◌, List, [], ◌∷◌, ◌++◌, length}
use Rattle.std.proofs.Math.Path.{refl}
use Rattle.std.proofs.Common.{ap, sym, ◌∙◌, lt-ltb, le-ltb, pow-suc, arith, length-append}
use Rattle.std.proofs.Math.Decide.{dec_lt}
use Rattle.model.specs.Number.Laws.{between_first, between_none}
use Rattle.text.specs.Line.{Digit, Digits, none, more, value_from}
use Rattle.text.specs.Table.{digit, digits_by_steps, decimal, field_text, line, lines, row_of, tail_of, table_text, column_text}

enough : (steps steps' number : ℕ) → number < steps → number < steps' → digits_by_steps steps number ≡ digits_by_steps steps' number
unfolding digits_by_steps
enough zero steps' number few few' = absurd (omega arith)
enough (suc steps) zero number few few' = absurd (omega arith)
enough (suc steps) (suc steps') number few few' = elim (dec_lt number 10) [
  | yes small ↦ rw (lt-ltb number 10 small)
  | no large ↦ rw (enough steps steps' (number / 10) (omega arith) (omega arith))
]

pub decimal_digit : (number : ℕ) → number < 10 → decimal number ≡ digit (number % 10) ∷ []
unfolding decimal digits_by_steps
decimal_digit number small = rw (lt-ltb number 10 small)

pub decimal_more : (number : ℕ) → 10 ≤ number → decimal number ≡ decimal (number / 10) ++ digit (number % 10) ∷ []
unfolding decimal digits_by_steps
decimal_more number large = rw (le-ltb number 10 large, enough number (suc (number / 10)) (number / 10) (omega arith) (omega arith))

-- A number below 10^(d + 1) has at most d + 1 digits.
pub decimal_length : (d number : ℕ) → number < 10 ^ suc d → length (decimal number) ≤ suc d
decimal_length zero number small = rw (decimal_digit number small) (omega arith)
decimal_length (suc d) number small = elim (dec_lt number 10) [
  | yes little ↦ rw (decimal_digit number little) (omega arith)
  | no large ↦
      let tenth : number / 10 < 10 ^ suc d = omega (arith, pow-suc 10 (suc d)) in
      rw (decimal_more number (omega arith), length-append) (omega (arith, decimal_length d (number / 10) tenth))
]

pub nine_digits : (number : ℕ) → number < 10 ^ 9 → length (decimal number) ≤ 9
nine_digits = decimal_length 8

pub field_length : (d number end : ℕ) → number < 10 ^ suc d → length (field_text number end) ≤ suc (suc d)
unfolding field_text
field_length d number end small = rw length-append (omega (arith, decimal_length d number small))

pub short_field : (number end : ℕ) → number ≤ 99 → length (field_text number end) ≤ 3
short_field number end small = field_length 1 number end (omega arith)

pub line_length : (defaults row tail : ℕ) → defaults ≤ 99 → row ≤ 100000 → tail ≤ 100000 → length (line defaults row tail) ≤ 17
unfolding line
line_length defaults row tail few row_small tail_small =
    let first = short_field defaults (code " ") few in
    let second = field_length 5 row (code " ") (omega arith) in
    let third = field_length 5 tail (code "\n") (omega arith) in
    simp length-append (omega arith)

-- Digits that write a number.
pub record Written (digits : List ℕ) (number : ℕ) : Type 0 where
  pub all_digits : Digits digits
  pub writes : value_from 0 digits ≡ number

digits_last : {digits : List ℕ} {byte : ℕ} → Digits digits → Digit byte → Digits (digits ++ byte ∷ [])
digits_last none last = more last none
digits_last (more is all) last = more is (digits_last all last)

value_last : (value byte : ℕ) (digits : List ℕ) → value_from value (digits ++ byte ∷ []) ≡ value_from value digits * 10 + (byte - code "0")
unfolding value_from
value_last value byte [] = refl
value_last value byte (first ∷ digits) = value_last (value * 10 + (first - code "0")) byte digits

written_last : {digits : List ℕ} (number : ℕ) → Written digits (number / 10) → Written (digits ++ digit (number % 10) ∷ []) number
written_last {digits} number tenth = record {
  all_digits = digits_last tenth.all_digits (record { not_below = omega arith; not_above = omega arith });
  writes = value_last 0 (digit (number % 10)) digits ∙ omega (arith, tenth.writes);
}

pub decimal_writes : (number : ℕ) → Written (decimal number) number
unfolding decimal digits_by_steps value_from
decimal_writes number = by_steps (suc number) number (omega arith)
  where
    by_steps : (steps number : ℕ) → number < steps → Written (digits_by_steps steps number) number
    by_steps zero number few = absurd (omega arith)
    by_steps (suc steps) number few = elim (dec_lt number 10) [
      | yes small ↦ rw (lt-ltb number 10 small) (written_last number (record { all_digits = none; writes = omega arith }))
      | no large ↦ rw (le-ltb number 10 (omega arith)) (written_last number (by_steps steps (number / 10) (omega arith)))
    ]

module _ (n : ℕ) (units : List ℕ) (rows tails : ℕ → ℕ) (same : (k : ℕ) → k ≤ n → row_of units k ≡ rows k)
    (difference : (k : ℕ) → k ≤ n → row_of units k + tails (suc k) ≡ tails k) (past : tails (suc n) ≡ 0) where
  tail_sum : (left k : ℕ) → k + left ≡ suc n → tail_of n units k ≡ tails k
  tail_sum zero k end = let last : k ≡ suc n = omega arith in between_none n (row_of units) (omega arith) ∙ sym past ∙ ap tails (sym last)
  tail_sum (suc left) k end =
      omega (arith, between_first n (row_of units) {k = k} (omega arith), tail_sum left (suc k) (omega arith), difference k (omega arith))

  lines_same : (m : ℕ) → m ≤ suc n → lines m (row_of units) (tail_of n units) ≡ lines m rows tails
  unfolding lines
  lines_same zero most = refl
  lines_same (suc m) most = rw (lines_same m (omega arith), same m (omega arith), tail_sum (suc n - m) m (omega arith))

  -- The tails in the text of a column are those whose differences the rows are.
  pub column_text_lem : column_text n units ≡ table_text n rows tails
  unfolding column_text table_text
  column_text_lem = rw (lines_same (suc n) (omega arith))
