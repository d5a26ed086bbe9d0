-- A line is three fields and nothing after, and no input has two answers.
-- Assumes nothing.
use Rattle.std.specs.Prelude.{ℕ, ◌<◌, ◌≡◌, refl, List, [], ◌∷◌, ◌++◌, Option, Some, None}
use Prim.Native.Char.{code}
use Rattle.std.proofs.Common.{ap, arith, lit<}
use Rattle.steps.specs.declared.Pool.{Pool}
use Rattle.text.specs.Line.{Decimal, Accepts, ReadsLine}
use Rattle.text.specs.Line.Fields.{Begins}
use Rattle.text.specs.Line.Fields.Laws.{one_field}

-- A text that is fields with these numbers, ended by these bytes.
pub data Fields : (ends numbers : List ℕ) (text : List ℕ) → Type 0 where
  none : Fields [] [] []
  more : {end number : ℕ} {ends numbers text rest : List ℕ} → Begins end text number rest → Fields ends numbers rest
      → Fields (end ∷ ends) (number ∷ numbers) text

-- The bytes that end the three fields of a line.
abbrev pub ends : List ℕ
ends = code " " ∷ code " " ∷ code "\n" ∷ []

field_decimal : {end value : ℕ} {text rest : List ℕ} (field : Begins end text value rest) → Decimal field.digits value
field_decimal field =
    record { at_least_one = omega arith; at_most_five = omega arith; all_digits = field.all_digits; writes = field.writes }

decimal_field : {end value : ℕ} {digits rest : List ℕ} → Decimal digits value → Begins end (digits ++ end ∷ rest) value rest
decimal_field {digits = digits} decimal = record {
  digits = digits;
  parts = refl;
  at_least_one = omega arith;
  at_most_five = omega arith;
  all_digits = decimal.all_digits;
  writes = decimal.writes;
}

pub fields : {input : List ℕ} {n p ρ : ℕ} → Accepts input n p ρ → Fields ends (n ∷ p ∷ ρ ∷ []) input
fields a = rw a.line (more (decimal_field a.n_decimal) (more (decimal_field a.p_decimal) (more (decimal_field a.ρ_decimal) none)))

pub accepted : {input : List ℕ} {n p ρ : ℕ} → Fields ends (n ∷ p ∷ ρ ∷ []) input → Accepts input n p ρ
accepted (more a (more b (more c none))) = record {
  n_digits = a.digits;
  p_digits = b.digits;
  ρ_digits = c.digits;
  line = rw (← c.parts, ← b.parts) a.parts;
  n_decimal = field_decimal a;
  p_decimal = field_decimal b;
  ρ_decimal = field_decimal c;
}

-- A field at the start of such a text has the first number, and the other fields follow it.
pub after : {end number : ℕ} {ends numbers text rest : List ℕ} {first : ℕ} → end < code "0" → Begins end text number rest
    → Fields (end ∷ ends) (first ∷ numbers) text → (number ≡ first) × Fields ends numbers rest
after low begins (more begins' others) = let (same, rests) = one_field low _ begins begins' in (same, rw rests others)

pub no_field_first : {end : ℕ} {ends numbers text : List ℕ} → ((number : ℕ) (rest : List ℕ) → Begins end text number rest → ⊥)
    → Fields (end ∷ ends) numbers text → ⊥
no_field_first missing (more {number = number} {rest = rest} begins others) = missing number rest begins

pub nothing_after : {text : List ℕ} → Fields [] [] text → text ≡ []
nothing_after none = refl

-- An input is the line of three numbers at most.
pub one_line : {input : List ℕ} {n p ρ n' p' ρ' : ℕ} → Accepts input n p ρ → Accepts input n' p' ρ' → (n ≡ n') × (p ≡ p') × (ρ ≡ ρ')
one_line line line' = elim (fields line) [
  | more a (more b (more c none)) ↦
      let first = after (lit< tt) a (fields line') in
      let second = after (lit< tt) b first.1 in
      (first.0, second.0, (after (lit< tt) c second.1).0)
]

pools : {n p ρ n' p' ρ' : ℕ} → n ≡ n' → p ≡ p' → ρ ≡ ρ'
    → ◌≡◌ {A = Pool} (record { assets = n; probability = p; correlation = ρ }) (record { assets = n'; probability = p'; correlation = ρ' })
pools assets probability correlation = rw (assets, probability, correlation)

-- An input has one answer.
pub one_answer : (input : List ℕ) (a b : Option Pool) → ReadsLine input a → ReadsLine input b → a ≡ b
one_answer input (Some a) (Some b) line line' = let same = one_line line line' in ap Some (pools same.0 same.1 same.2)
one_answer input (Some pool) None line no_line = absurd (no_line _ _ _ line)
one_answer input None (Some pool) no_line line = absurd (no_line _ _ _ line)
one_answer input None None no_line no_line' = refl
