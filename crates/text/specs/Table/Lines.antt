-- The table written line by line, with the tail that goes down by each row.
-- Assumes nothing.
use Rattle.std.specs.Prelude.{ℕ, suc, ◌+◌, ◌*◌, ◌-◌, ◌≤◌, ◌≡◌, refl, List, ◌++◌, length}
use Rattle.std.proofs.Common.{sym, ap, ◌∙◌, zero-add, append_assoc, arith}
use Rattle.std.proofs.Math.Nat.{sub-zero}
use Rattle.std.proofs.Math.Numerals.{add-one}
use Rattle.std.proofs.Math.ListN.{length-append}
use Rattle.model.specs.Number.{sum, sum_between}
use Rattle.model.specs.Number.Laws.{sum_cong, between_first}
use Rattle.text.specs.Ascii.{ascii}
use Rattle.text.specs.Table.{line, lines, header, table_text, row_of, tail_of, column_text}
use Rattle.text.specs.Table.Laws.{line_length}

between_all : (n : ℕ) (f : ℕ → ℕ) → sum_between 0 n f ≡ sum (suc n) f
unfolding sum_between
between_all n f = rw sub-zero (sum_cong (suc n) (λ i l. rw zero-add))

-- The text has the header and the first k lines, and `tail` is the tail at k.
pub record Lines (n : ℕ) (units text : List ℕ) (tail k : ℕ) : Type 0 where
  pub text_is : text ≡ header ++ lines k (row_of units) (tail_of n units)
  pub tail_is : tail ≡ tail_of n units k
  pub little : tail ≤ 100000
  pub short : length text ≤ 20 + k * 17

pub lines_none : {n : ℕ} {units text : List ℕ} → sum (suc n) (row_of units) ≡ 100000 → text ≡ header → Lines n units text 100000 0
unfolding lines header ascii
lines_none {n} {units} total start = rw start record {
  text_is = refl;
  tail_is = sym (between_all n (row_of units) ∙ total);
  little = omega arith;
  short = omega arith;
}

module _ {n tail k : ℕ} {units text : List ℕ} (so_far : Lines n units text tail k) (few : k ≤ n) where
  pub row_at_most : row_of units k ≤ tail
  row_at_most = omega (arith, so_far.tail_is, between_first n (row_of units) few)

  pub lines_more : {text' : List ℕ} → n ≤ 99 → text' ≡ text ++ line k (row_of units k) tail → Lines n units text' (tail - row_of units k) (k + 1)
  unfolding lines
  lines_more most more = rw (add-one, more) record {
    text_is = ap (λ t. t ++ line k (row_of units k) tail) so_far.text_is ∙ rw (so_far.tail_is, append_assoc);
    tail_is = omega (arith, so_far.tail_is, between_first n (row_of units) few);
    little = omega (arith, so_far.little);
    short = rw length-append (omega (arith, so_far.short, line_length k (row_of units k) tail (omega arith) (omega (arith, row_at_most, so_far.little)) so_far.little));
  }

-- All lines after the header.
pub lines_all : {n tail k : ℕ} {units text : List ℕ} → Lines n units text tail k → k ≡ suc n → text ≡ column_text n units
unfolding column_text table_text
lines_all all last = all.text_is ∙ rw last refl
