-- Reading a field byte by byte, and that a text begins with one field at most.
-- Assumes nothing.
use Rattle.std.specs.Prelude.{ℕ, ◌+◌, ◌*◌, ◌-◌, ◌≤◌, ◌<◌, ◌^◌, ◌≡◌, ◌⊎◌, refl, List, [], ◌∷◌, ◌++◌, length, drop, get_or, slice_range}
use Prim.Native.Char.{code}
use Rattle.std.proofs.Math.Decide.{dec_lt}
use Rattle.std.proofs.Common.{inl, inr, ap, subst, pow-suc, lt_of_lt_of_le, add-one, arith, lit<, lit≤, length-append, drop-cons, drop_of_length-le, take_all, length-drop}
use Rattle.std.proofs.Math.Nat.{pow-le-pow_right}
use Rattle.text.specs.Line.{Digit, Digits, none, more, value_from}
use Rattle.text.specs.Line.Fields.{Completes, Begins}

-- What stands first in a text that completes a number: the byte that ends it, or one more digit.
data First (end count value byte : ℕ) (text : List ℕ) (number : ℕ) (rest : List ℕ) : Type 0 where
  ended : byte ≡ end → 1 ≤ count → value ≡ number → text ≡ rest → First end count value byte text number rest
  digit : Digit byte → count < 5 → Completes end (count + 1) (value * 10 + (byte - code "0")) text number rest
      → First end count value byte text number rest

first : {end count value byte number : ℕ} {text rest : List ℕ} → Completes end count value (byte ∷ text) number rest
    → First end count value byte text number rest
unfolding value_from
first {end} {count} {value} {byte} {number} {text} {rest} c = go c.all_digits c.parts c.at_least_one c.at_most_five c.writes
  where
    go : {digits : List ℕ} → Digits digits → byte ∷ text ≡ digits ++ end ∷ rest → 1 ≤ count + length digits → count + length digits ≤ 5
        → value_from value digits ≡ number → First end count value byte text number rest
    go none parts one five writes = ended (cc) (omega arith) writes (cc)
    go (more {byte = d} {digits = digits} is all) parts one five writes =
        let same : d ≡ byte = cc in
        digit (subst Digit same is) (omega arith) record {
          digits = digits;
          parts = cc;
          at_least_one = omega arith;
          at_most_five = omega arith;
          all_digits = all;
          writes = rw same at writes;
        }

not_empty : {end count value number : ℕ} {rest : List ℕ} → Completes end count value [] number rest → ⊥
not_empty c = omega (arith, simp length-append at (ap length c.parts))

-- What is known while a field is read: the one that the text begins with is what follows the first `count` bytes, which are digits of a value.
pub record Reading (end : ℕ) (text : List ℕ) (count value : ℕ) : Type 0 where
  pub goes_on : {number : ℕ} {rest : List ℕ} → Begins end text number rest → Completes end count value (drop count text) number rest
  pub began : {number : ℕ} {rest : List ℕ} → Completes end count value (drop count text) number rest → Begins end text number rest
  pub few : count ≤ 5
  pub below : value < 10 ^ count

pub reading_none : {end : ℕ} (text : List ℕ) → Reading end text 0 0
reading_none text = record { goes_on = λ c. c; began = λ c. c; few = lit≤ tt; below = lit< tt }

pub reading_small : {end count value : ℕ} {text : List ℕ} → Reading end text count value → count < 5 → value < 10 ^ 4
reading_small {count = count} reading few = lt_of_lt_of_le reading.below (pow-le-pow_right (lit< tt) {i = count} {j = 4} (omega arith))

-- A text from an index on is the byte there and what follows it.
split : (text : List ℕ) (k : ℕ) → k < length text → drop k text ≡ get_or text k 0 ∷ drop (k + 1) text
split text k inside = rw add-one (drop-cons text k 0 inside)

-- Where a text begins with a field, a byte follows the digits, which ends the number or is one more digit of it.
pub field_goes_on : {end count value : ℕ} {text : List ℕ} {number : ℕ} {rest : List ℕ} → Reading end text count value → Begins end text number rest
    → (count < length text) × (((get_or text count 0 ≡ end) × (1 ≤ count)) ⊎ ((code "0" ≤ get_or text count 0) × (get_or text count 0 ≤ code "9") × (count < 5)))
field_goes_on {count = count} {text = text} reading begins = elim (dec_lt count (length text)) [
  | no past ↦ absurd (not_empty (rw (drop_of_length-le text {i = count} (omega arith)) at (reading.goes_on begins)))
  | yes inside ↦ (
    inside,
    elim (first (rw (split text count inside) at (reading.goes_on begins))) [
      | ended same one value rest ↦ inl (same, one)
      | digit is few goes ↦ inr (is.not_below, is.not_above, few)
    ],
  )
]

module _ {end count value : ℕ} {text : List ℕ} (reading : Reading end text count value) (inside : count < length text) where
  pub reading_end : get_or text count 0 ≡ end → 1 ≤ count → Begins end text value (slice_range text (count + 1) (length text))
  unfolding value_from
  reading_end same one = rw (take_all (length text - (count + 1)) (drop (count + 1) text) (omega (arith, length-drop {A = ℕ}))) (reading.began record {
    digits = [];
    parts = rw (split text count inside, same) refl;
    at_least_one = omega arith;
    at_most_five = omega (arith, reading.few);
    all_digits = none;
    writes = refl;
  })

  pub reading_more : end < code "0" → code "0" ≤ get_or text count 0 → get_or text count 0 ≤ code "9" → count < 5
      → {added : ℕ} → added ≡ get_or text count 0 - code "0" → Reading end text (count + 1) (value * 10 + added)
  unfolding value_from
  reading_more low not_below not_above little is = rw is (record {
    goes_on = λ c. elim (first (rw (split text count inside) at (reading.goes_on c))) [ ended same one value rest ↦ absurd (omega arith) | digit is few goes ↦ goes ];
    began = λ c. reading.began record {
      digits = get_or text count 0 ∷ c.digits;
      parts = rw (split text count inside) (ap (λ t. get_or text count 0 ∷ t) c.parts);
      at_least_one = omega arith;
      at_most_five = omega (arith, c.at_most_five);
      all_digits = more (record { not_below = not_below; not_above = not_above }) c.all_digits;
      writes = c.writes;
    };
    few = omega arith;
    below = rw (add-one, pow-suc) (omega (arith, reading.below));
  })

-- A text begins with one field at most.
pub one_field : {end count value number number' : ℕ} {rest rest' : List ℕ} → end < code "0" → (text : List ℕ)
    → Completes end count value text number rest → Completes end count value text number' rest' → (number ≡ number') × (rest ≡ rest')
one_field low [] a b = absurd (not_empty a)
one_field {count = count} {value = value} low (byte ∷ text) a b = elim (first a) [
  | ended same one is js ↦ elim (first b) [ ended same' one' is' js' ↦ (cc, cc) | digit is' few goes ↦ absurd (omega arith) ]
  | digit is few goes ↦ elim (first b) [
    | ended same one' is' js' ↦ absurd (omega arith)
    | digit is' few' goes' ↦ one_field {count = count + 1} {value = value * 10 + (byte - code "0")} low text goes goes'
  ]
]
