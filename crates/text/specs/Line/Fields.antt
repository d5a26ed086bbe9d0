-- A field of the line: a number and the byte that ends it.
-- Assumes nothing.
use Rattle.std.specs.Prelude.{ℕ, ◌+◌, ◌≤◌, ◌≡◌, List, ◌∷◌, ◌++◌, length, Option, Some, None}
use Rattle.std.specs.Borrow.{Bor}
use Rattle.text.specs.Line.{Digits, value_from}
pub mod Laws

-- After `count` digits of a value, a text goes on with the digits that complete the number, the byte that ends it and the rest.
pub record Completes (end count value : ℕ) (text : List ℕ) (number : ℕ) (rest : List ℕ) : Type 0 where
  pub digits : List ℕ
  pub parts : text ≡ digits ++ end ∷ rest
  pub at_least_one : 1 ≤ count + length digits
  pub at_most_five : count + length digits ≤ 5
  pub all_digits : Digits digits
  pub writes : value_from value digits ≡ number

-- A text begins with a field.
abbrev pub Begins : (end : ℕ) (text : List ℕ) (number : ℕ) (rest : List ℕ) → Type 0
Begins end text number rest = Completes end 0 0 text number rest

-- The answer to a text: the number of the field that it begins with and the rest, if it begins with one.
abbrev pub ReadsField : (end : ℕ) (text : List ℕ) → Option (ℕ × Bor (List ℕ)) → Type 0
ReadsField end text (Some field) = Begins end text field.0 field.1.now
ReadsField end text None = (number : ℕ) (rest : List ℕ) → Begins end text number rest → ⊥
