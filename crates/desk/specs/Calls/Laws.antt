-- What a desk's read promises, from the rows that it is handed; what an accepted read gives the functions below it.
-- Assumes nothing.
use Rattle.std.specs.Prelude.{ℕ, suc, ◌+◌, ◌≤◌, ◌≡◌, List, length, replicate}
use Rattle.std.proofs.Math.Path.{refl}
use Rattle.std.proofs.Common.{sym, ap, subst, ◌∙◌, arith}
use Rattle.std.proofs.Math.ListN.{get_or}
use Rattle.std.proofs.lemmas.List.{length-replicate}
use Rattle.model.specs.Number.{triangle}
use Rattle.model.specs.Number.Laws.{triangle_mono}
use Rattle.kept.specs.declared.Kept.{Kept}
use Rattle.kept.specs.declared.Side.{Side}
use Rattle.kept.specs.declared.Side.TheVariants.{Low, High}
use Rattle.kept.specs.Rounding.{nought}
use Rattle.steps.specs.Inputs.{largest_pool}
use Rattle.steps.proofs.Inputs.Laws.{working_range}
use Rattle.working.specs.Working.{working_places, Changed}
use Rattle.working.specs.Slices.{SideStore, number_at, Readable}
use Rattle.working.proofs.Slices.Laws.{changed_entries, after_same, entries_untouched, entries_at}
use Rattle.grounds.specs.Grounds.{DeskAccepted}
use Rattle.grounds.specs.Grounds.Laws.{desk_accepted}
use Rattle.steps.specs.declared.Pool.{Pool}
use Rattle.store.specs.Stores.{Store, lengths, side_of, place}
use Rattle.store.specs.Stores.Laws.{place_triangle, enclosed_same}
use Rattle.store.specs.Filling.Laws.{fillable}
use Rattle.store.specs.Calls.{Fills}
use Rattle.store.proofs.Calls.Laws.{fills_head}
use Rattle.desk.specs.declared.Request.{Request}
use Rattle.desk.specs.declared.DeskRow.{DeskRow}
use Rattle.desk.specs.Calls.{desk_refusal, row_on, row_handed, SameNumbers, HoldsRow, ReadsRow}
use Rattle.grounds.specs.Refusals.{refusal_number}

-- ---- a row of one side

pub row_refused : {refusal : ℕ} (k : ℕ) (h : SideStore) → (refusal ≡ 0 → ⊥) → replicate working_places nought ≡ row_handed refusal k h
unfolding row_handed
row_refused k h some = entries_untouched k _ _ _ some

-- What is read of a side from where row k starts.
pub row_read : {k count from : ℕ} (h : SideStore) {w : List Kept} → count ≡ suc k → from ≡ triangle k → count ≤ working_places
    → Changed working_places working_places count (replicate working_places nought) w (λ j. number_at h (from + j)) → w ≡ row_handed 0 k h
unfolding row_handed
row_read {k} {count} {from} h {w} count_is from_is few changed =
    let zeros : List Kept = replicate working_places nought in
    let long : length zeros ≡ working_places = length-replicate working_places nought in
    let read = subst (λ m. Changed m m count zeros w (λ j. number_at h (from + j))) (sym long) changed in
    after_same (λ j. number_at h (from + j)) (λ j. number_at h (place k j)) zeros (changed_entries nought zeros read count_is (omega arith))
    (λ j l. ap (number_at h) (rw (from_is, place_triangle k j) refl))

-- ---- the call

-- A side of the store has room for the row.
pub row_readable : {n p ρ k count from : ℕ} (side : Side) (s : Store) → DeskAccepted largest_pool n p ρ k (lengths s) → count ≡ suc k → from ≡ triangle k
    → Readable count from (side_of side s)
unfolding triangle working_places
row_readable {n} {k} side s accepted count_is from_is =
    let range = working_range accepted.fill.pool.range in
    let row : suc k ≤ suc n = omega (arith, accepted.row) in
    let places : triangle (suc k) ≤ triangle (suc n) = triangle_mono row in
    let room = (fillable side s accepted.fill).room in
    record {
      places = omega (arith, accepted.row, range.assets);
      room = record { significands = omega (arith, room.significands); exponents = omega (arith, room.exponents) };
    }

module _ (head : Pool) (request : Request) (ceiling : ℕ) (s : Store) (answer : DeskRow) (is : refusal_number answer.outcome ≡ desk_refusal head request ceiling s)
    (low_is : answer.low ≡ row_handed (refusal_number answer.outcome) request.row s.low) (high_is : answer.high ≡ row_handed (refusal_number answer.outcome) request.row s.high) where
  rows : (side : Side) → row_on answer side ≡ row_handed (refusal_number answer.outcome) request.row (side_of side s)
  unfolding row_on side_of
  rows Low = low_is
  rows High = high_is

  row_entry_lem : refusal_number answer.outcome ≡ 0 → (side : Side) (j : ℕ) → j ≤ request.row → get_or (row_on answer side) j nought ≡ number_at (side_of side s) (place request.row j)
  unfolding row_handed
  row_entry_lem none side = entries_at request.row (λ j. number_at (side_of side s) (place request.row j)) (replicate working_places nought) (rows side) none nought

  row_holds : refusal_number answer.outcome ≡ 0 → {number : ℕ} {g : ℕ → ℕ} {pool came : Pool} {before after : Store} → Fills number g pool came before after 0 head
      → SameNumbers request.row s after → HoldsRow (g request.row) head.probability head.correlation request.row (row_on answer)
  unfolding desk_refusal side_of
  row_holds none {pool} {after} fills same =
      let is_pool = fills_head fills refl in
      let holds = fills.holds refl in
      let k = request.row in
      let within : k ≤ pool.assets = rw is_pool at (desk_accepted largest_pool _ _ _ _ _ _ _ _ is none).row in
      let left : (side : Side) (j : ℕ) → j ≤ k → get_or (row_on answer side) j nought ≡ number_at (side_of side after) (place k j) = λ side j l. row_entry_lem none side j l ∙ same side j l in
      rw is_pool (record {
        made = λ side j l. left side j l ∙ holds.made side j k l within;
        enclosed = λ j l. enclosed_same (left Low j l) (left High j l) (holds.enclosed j k l within);
        ranged = λ side j l. rw (left side j l) (holds.ranged side j k l within);
      })

  -- What holds of the rows that are handed over follows from which they are.
  pub reads_row : ReadsRow head request ceiling s answer
  reads_row = record { refusal_is = is; rows_are = rows; of_filled = row_holds }
