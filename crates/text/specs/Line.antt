-- Which input is a line: three decimal numbers, of five digits at most, with a single space before the second and the third and a newline as the last byte.
-- Assumes nothing.
use Rattle.std.specs.Prelude.{ℕ, ◌+◌, ◌*◌, ◌-◌, ◌≤◌, ◌≡◌, List, [], ◌∷◌, ◌++◌, length, Option, Some, None}
use Prim.Native.Char.{code}
use Rattle.steps.specs.declared.Pool.{Pool}
pub mod Fields
pub mod Laws

-- A byte that is a decimal digit.
pub record Digit (byte : ℕ) : Type 0 where
  pub not_below : code "0" ≤ byte
  pub not_above : byte ≤ code "9"

-- Every byte is a decimal digit.
pub data Digits : List ℕ → Type 0 where
  none : Digits []
  more : {byte : ℕ} {digits : List ℕ} → Digit byte → Digits digits → Digits (byte ∷ digits)

-- The number that digits write which follow those of a value. All the digits of a number follow those of 0.
unfoldable pub value_from : ℕ → List ℕ → ℕ
value_from value [] = value
value_from value (byte ∷ digits) = value_from (value * 10 + (byte - code "0")) digits

-- One to five decimal digits that write the value.
pub record Decimal (digits : List ℕ) (value : ℕ) : Type 0 where
  pub at_least_one : 1 ≤ length digits
  pub at_most_five : length digits ≤ 5
  pub all_digits : Digits digits
  pub writes : value_from 0 digits ≡ value

-- The input is the line of n, p and ρ.
pub record Accepts (input : List ℕ) (n p ρ : ℕ) : Type 0 where
  pub n_digits : List ℕ
  pub p_digits : List ℕ
  pub ρ_digits : List ℕ
  pub line : input ≡ n_digits ++ code " " ∷ (p_digits ++ code " " ∷ (ρ_digits ++ code "\n" ∷ []))
  pub n_decimal : Decimal n_digits n
  pub p_decimal : Decimal p_digits p
  pub ρ_decimal : Decimal ρ_digits ρ

-- The answer to an input: the three numbers of the line that it is, if it is one. `one_answer` shows that no input has two answers.
abbrev pub ReadsLine : List ℕ → Option Pool → Type 0
ReadsLine input (Some pool) = Accepts input pool.assets pool.probability pool.correlation
ReadsLine input None = (n p ρ : ℕ) → Accepts input n p ρ → ⊥
