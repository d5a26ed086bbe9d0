-- Tails, printed tails and rows, place by place.
-- Assumes nothing.
use Prim.Native.Nat.{ℕ, zero, suc, ◌+◌, ◌-◌, ◌*◌, ◌≤◌, ◌<◌}
use Rattle.std.specs.Prelude.{◌≡◌, List, length, ◌++◌, get_or, set, drop, replicate}
use Rattle.std.proofs.Math.Path.{refl, sym}
use Rattle.std.proofs.Common.{◌∙◌, add-one, get_or-set_same}
use Rattle.std.proofs.Math.Decide.{dec_le}
use native.Mathlib.Omega.{arith}
use Rattle.std.proofs.Math.ListN.{length-set}
use Rattle.std.proofs.lemmas.List.{length-replicate, get_or-replicate}
use Rattle.std.proofs.Math.Seq.{get_or-set_other, ext_get_or}
use Rattle.model.specs.Fraction.{AtMost, integer, times}
use Rattle.kept.specs.declared.Kept.{Kept}
use Rattle.kept.specs.declared.Side.{Side}
use Rattle.kept.specs.declared.Side.TheVariants.{Low}
use Rattle.kept.specs.Rounding.{IsKept, Operand, value, nought, rounded_sum}
use Rattle.kept.specs.Whole.{whole_of}
use Rattle.kept.specs.Whole.Laws.{whole_at_most}
use Rattle.steps.specs.Chances.{kept_total, kept_chances, kept_tail}
use Rattle.steps.specs.Column.{units_of_certainty, in_units, printed_tail, printed_row}
use Rattle.steps.proofs.Exponents.Laws.{ranged_operand}
use Rattle.steps.specs.Numbers.{TailNumber, is_tail, of_tails}
use Rattle.working.specs.Working.{working_places, Entries}
use Rattle.working.specs.Working.Laws.{entries_more}
use Rattle.working.specs.Slices.{tabulate, overwritten, entries_after}
use Rattle.working.proofs.Slices.Laws.{length_tabulate, get_d_tabulate, after_same}
use Rattle.chances.specs.Chances.{RowReady}
use Rattle.chances.specs.Chances.Laws.{entry_operand}
use Rattle.chances.specs.Tails.{Tails, TailsMade, Printable, TailsPrinted, Falling, difference_at, ColumnReady}

-- ---- tails

-- The tails at j to n + 1 are stored, and the total is the first of them.
pub record TailsFrom (side : Side) (n j : ℕ) (chances : List Kept) (total : Kept) (tails : List Kept) : Type 0 where
  pub ready : RowReady n chances (TailNumber side n)
  pub within : j ≤ suc n
  pub places_are : length tails ≡ suc working_places
  pub total_is : (c : ℕ → Kept) → Entries working_places (suc n) chances c → total ≡ kept_tail side n c j
  pub tail : (c : ℕ → Kept) → Entries working_places (suc n) chances c → (d : Kept) (k : ℕ) → j ≤ k → k ≤ suc n → get_or tails k d ≡ kept_tail side n c k

pub tails_none : {side : Side} {n j : ℕ} {chances : List Kept} {zero : Kept} → j ≡ suc n → RowReady n chances (TailNumber side n) → zero ≡ nought
    → TailsFrom side n j chances zero (replicate (suc working_places) zero)
unfolding kept_total kept_tail working_places
tails_none {n} {j} {zero} last ready none =
    let no_terms : (k : ℕ) → j ≤ k → suc n - k ≡ 0 = λ k l. omega arith in
    record {
      ready = ready;
      within = omega arith;
      places_are = length-replicate (suc working_places) zero;
      total_is = λ c e. rw (no_terms j (omega arith)) none;
      tail = λ c e d k from most. rw (no_terms k from) (get_or-replicate (suc working_places) k zero d (omega (arith, ready.assets)) ∙ none);
    }

module _ {side : Side} {n j : ℕ} {chances : List Kept} {total : Kept} {tails : List Kept} (done : TailsFrom side n j chances total tails) where
  module _ (l : 0 < j) (d : Kept) where
    pub tail_operands : Operand total × Operand (get_or chances (j - 1) d)
    unfolding kept_tail
    tail_operands = (
      rw (done.total_is _ done.ready.entries) (ranged_operand (done.ready.ranged (is_tail (suc n - j) (omega arith)))),
      entry_operand done.ready.entries done.ready.entry_ranged d (j - 1) (omega (arith, done.within)),
    )

    module _ {x : Kept} (sum : x ≡ rounded_sum side total (get_or chances (j - 1) d)) where
      next_tail : (c : ℕ → Kept) → Entries working_places (suc n) chances c → x ≡ kept_tail side n c (j - 1)
      unfolding kept_tail kept_total
      next_tail c e =
          let one_more : suc n - (j - 1) ≡ suc (suc n - j) = omega (arith, done.within) in
          let at : n - (suc n - j) ≡ j - 1 = omega (arith, done.within) in
          sum ∙ rw (one_more, at, done.total_is c e, e.entry d (j - 1) (omega (arith, done.within))) refl

      pub tail_more : TailsFrom side n (j - 1) chances x (set tails (j - 1) x)
      unfolding working_places
      tail_more = record {
        ready = done.ready;
        within = omega (arith, done.within);
        places_are = length-set tails (j - 1) x ∙ done.places_are;
        total_is = next_tail;
        tail = λ c e d k from most. elim (dec_le j k) [
          | yes past ↦ get_or-set_other tails (j - 1) k x d (λ here. omega arith) ∙ done.tail c e d k past most
          | no before ↦
              let here : k ≡ j - 1 = omega arith in
              rw here (get_or-set_same tails (j - 1) x d (omega (arith, done.within, done.places_are, done.ready.assets)) ∙ next_tail c e)
        ];
      }

  pub tails_all : j ≡ 0 → TailsMade side n chances tails
  tails_all all = record {
    tails_are = λ c e. record { places_are = done.places_are; entry = λ d k l. done.tail c e d k (omega arith) (omega arith) };
  }

-- ---- printed tails

-- A number of at most two has at most 400,000 half units.
pub halves_at_most : (x : Kept) → AtMost (value x) (integer 2) → whole_of Low (times (integer (2 * units_of_certainty)) (value x)) ≤ 400000
unfolding units_of_certainty times integer
halves_at_most x le = whole_at_most Low (record { cross = omega (arith, le.cross) })

-- The printed tails below k are stored.
pub record PrintedBelow (n k : ℕ) (tails : List Kept) (printed : List ℕ) : Type 0 where
  pub ready : Printable n tails
  pub from : 1 ≤ k
  pub within : k ≤ suc (suc n)
  pub made : (c : ℕ → Kept) → Tails n tails (kept_tail Low n c) → Entries (suc working_places) k printed (printed_tail n c)

pub printed_none : {n : ℕ} {tails : List Kept} → Printable n tails → PrintedBelow n 1 tails (replicate (suc working_places) units_of_certainty)
unfolding working_places printed_tail
printed_none ready = record {
  ready = ready;
  from = omega arith;
  within = omega arith;
  made = λ c e. record {
    places_are = length-replicate (suc working_places) units_of_certainty;
    entry = λ d j l. let first : j ≡ 0 = omega arith in rw first refl;
  };
}

module _ {n k : ℕ} {tails : List Kept} {printed : List ℕ} (done : PrintedBelow n k tails printed) where
  module _ (l : k ≤ suc n) (d : Kept) where
    pub printable_tail : IsKept (get_or tails k d) × AtMost (value (get_or tails k d)) (integer 2)
    printable_tail = rw (done.ready.entries.entry d k (omega arith)) (done.ready.kept k l, done.ready.at_most_two k l)

    pub printed_more : {u : ℕ} → u ≡ in_units (get_or tails k d) → PrintedBelow n (k + 1) tails (set printed k u)
    unfolding working_places
    printed_more units = record {
      ready = done.ready;
      from = omega arith;
      within = omega arith;
      made = λ c e. entries_more (done.made c e) (omega (arith, done.ready.assets)) (rw (units, e.entry d k (omega arith)) (past_first c k done.from));
    }
      where
        past_first : (c : ℕ → Kept) (k : ℕ) → 1 ≤ k → in_units (kept_tail Low n c k) ≡ printed_tail n c k
        past_first c zero l = absurd (omega arith)
        past_first c (suc k) l = unfold printed_tail in refl

  pub printed_all : k ≡ suc (suc n) → TailsPrinted n tails printed
  printed_all all = record { printed_are = rw all at done.made }

-- ---- the column of a row

module _ {n : ℕ} {row : List Kept} (ready : ColumnReady n row) where
  abbrev chance : ℕ → Kept
  chance = kept_chances Low n ready.steps.entry

  pub printable : {tails : List Kept} → Tails n tails (kept_tail Low n (kept_chances Low n ready.steps.entry)) → Printable n tails
  unfolding kept_tail
  printable made = record {
    assets = ready.steps.assets;
    tail = kept_tail Low n chance;
    entries = made;
    kept = λ k l. (ready.steps.ranged (of_tails (is_tail (suc n - k) (omega arith)))).kept;
    at_most_two = λ k l. ready.at_most_two k;
  }

  pub falling : {printed : List ℕ} → Tails n printed (printed_tail n (kept_chances Low n ready.steps.entry)) → Falling n printed
  falling made = record {
    assets = ready.steps.assets;
    falls = λ k l. rw (add-one k, made.entry 0 k (omega arith), made.entry 0 (suc k) (omega arith)) (ready.falls k);
  }

-- n + 1 entries before the rest of a slice.
pub rows_written : (n : ℕ) {k : ℕ} {f : ℕ → ℕ} {new : List ℕ} (old : List ℕ) → Entries (n + 1) k new f → n + 1 ≤ k → new ++ drop (n + 1) old ≡ entries_after n f 0 old
unfolding entries_after overwritten
rows_written n {f = f} {new = new} old done all =
    let is : new ≡ tabulate (suc n) f =
    ext_get_or 0 new (tabulate (suc n) f) (done.places_are ∙ rw (add-one n) (sym (length_tabulate (suc n) f)))
    (λ i l. done.entry 0 i (omega (arith, done.places_are)) ∙ sym (get_d_tabulate (suc n) f i 0 (omega (arith, done.places_are)))) in
    rw (is, length_tabulate (suc n) f, add-one n) refl

-- Rows from printed tails are those of the column.
pub rows_are : {n : ℕ} (c : ℕ → Kept) (printed old : List ℕ) {new : List ℕ} → Tails n printed (printed_tail n c) → new ≡ entries_after n (difference_at printed) 0 old
    → new ≡ entries_after n (printed_row n c) 0 old
unfolding printed_row
rows_are {n} c printed old made is =
    after_same (difference_at printed) (printed_row n c) old is (λ k l. rw (add-one k, made.entry 0 k (omega arith), made.entry 0 (suc k) (omega arith)))
