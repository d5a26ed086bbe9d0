-- A line in figures. Three numbers below 100,000, written in decimal, make one. The line and the table of the pool n = 3, p = 1000, ρ = 3000, byte for byte.
-- Assumes nothing.
use Rattle.std.specs.Prelude.{ℕ, ◌+◌, ◌*◌, ◌-◌, ◌<◌, ◌≤◌, ◌^◌, ◌≡◌, refl, List, [], ◌∷◌, ◌++◌, length}
use Prim.Native.Char.{code}
use Rattle.std.proofs.Common.{arith, lit<}
use Rattle.std.proofs.Math.ListN.{length-append}
use Rattle.model.specs.Number.{sum, sum_between}
use Rattle.text.specs.Ascii.{ascii}
use Rattle.text.specs.Line.{Digit, Digits, value_from, Decimal, Accepts}
use Rattle.text.specs.Table.{digits_by_steps, decimal, field_text, line, lines, header, table_text, column_text}
use Rattle.text.specs.Table.Laws.{decimal_length, decimal_writes}

-- A digit is a byte from 48 to 57, a number has one to five, the spaces are 32 and the newline is 10.
pub digit_figures : {byte : ℕ} → Digit byte → (48 ≤ byte) × (byte ≤ 57)
digit_figures d = (d.not_below, d.not_above)

pub digit_of_figure : {byte : ℕ} → 48 ≤ byte → byte ≤ 57 → Digit byte
digit_of_figure low high = record { not_below = low; not_above = high }

pub decimal_figures : {digits : List ℕ} {value : ℕ} → Decimal digits value → (1 ≤ length digits) × (length digits ≤ 5) × Digits digits
decimal_figures d = (d.at_least_one, d.at_most_five, d.all_digits)

pub line_figures : {input : List ℕ} {n p ρ : ℕ} (line : Accepts input n p ρ) → input ≡ line.n_digits ++ 32 ∷ (line.p_digits ++ 32 ∷ (line.ρ_digits ++ 10 ∷ []))
line_figures line = line.line

-- Any one to five digits, leading zeros among them, write a number, and any three such texts make a line.
pub decimal_of_digits : {digits : List ℕ} → 1 ≤ length digits → length digits ≤ 5 → Digits digits → Decimal digits (value_from 0 digits)
decimal_of_digits some few all = record { at_least_one = some; at_most_five = few; all_digits = all; writes = refl }

pub line_of_digits : {a b c : List ℕ} {n p ρ : ℕ} → Decimal a n → Decimal b p → Decimal c ρ → Accepts (a ++ 32 ∷ (b ++ 32 ∷ (c ++ 10 ∷ []))) n p ρ
line_of_digits {a} {b} {c} first second third = record {
  n_digits = a;
  p_digits = b;
  ρ_digits = c;
  line = refl;
  n_decimal = first;
  p_decimal = second;
  ρ_decimal = third;
}

-- What digits write, from one to the next.
pub value_figures : (value byte : ℕ) (digits : List ℕ) → (value_from value [] ≡ value) × (value_from value (byte ∷ digits) ≡ value_from (value * 10 + (byte - 48)) digits)
unfolding value_from
value_figures value byte digits = (refl, refl)

decimal_read : (number : ℕ) → number < 10 ^ 5 → Decimal (decimal number) number
decimal_read number small = record {
  at_least_one = unfold decimal digits_by_steps in rw length-append (omega arith);
  at_most_five = decimal_length 4 number small;
  all_digits = (decimal_writes number).all_digits;
  writes = (decimal_writes number).writes;
}

pub line_of_decimals : (n p ρ : ℕ) → n < 10 ^ 5 → p < 10 ^ 5 → ρ < 10 ^ 5
    → Accepts (decimal n ++ code " " ∷ (decimal p ++ code " " ∷ (decimal ρ ++ code "\n" ∷ []))) n p ρ
line_of_decimals n p ρ n_small p_small ρ_small = line_of_digits (decimal_read n n_small) (decimal_read p p_small) (decimal_read ρ ρ_small)

pub line_of_three : Accepts (ascii "3 1000 3000\n") 3 1000 3000
unfolding decimal digits_by_steps ascii
line_of_three = line_of_decimals 3 1000 3000 (lit< tt) (lit< tt) (lit< tt)

pub table_of_three : column_text 3 (79032 ∷ 14005 ∷ 4895 ∷ 2068 ∷ [])
    ≡ ascii "defaults units tail\n0 79032 100000\n1 14005 20968\n2 4895 6963\n3 2068 2068\n"
unfolding column_text table_text header lines line field_text decimal digits_by_steps ascii sum sum_between
table_of_three = refl
