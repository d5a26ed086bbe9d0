-- What the calls on a store promise, from what the steps give; that what every filling call promises leaves one outcome, and what else holds of that outcome by
-- another list of grounds and at another distance.
-- Assumes nothing.
use Prim.Native.Nat.{ℕ, zero, suc, ◌+◌, ◌≤◌, ◌<◌}
use Rattle.std.specs.Prelude.{◌≡◌, length, get_or, take, drop}
use Rattle.std.proofs.Math.Path.{refl}
use Rattle.std.proofs.Common.{sym, ap, ◌∙◌, arith, add-zero, length-take, length-drop, get_or-take, get_or-drop}
use mathlib.Core.List.{List, []}
use Rattle.std.proofs.Math.Seq.{ext_get_or}
use Rattle.model.specs.Number.{triangle}
use Rattle.model.specs.Number.Laws.{triangle_mono}
use Rattle.kept.specs.declared.Side.{Side}
use Rattle.kept.specs.Rounding.{nought}
use Rattle.steps.specs.CorrelatedBinomial.Budgets.{BudgetsFor}
use Rattle.steps.specs.CorrelatedBinomial.Rows.{kept_row}
use Rattle.steps.proofs.CorrelatedBinomial.Theorems.{pool_budgets, steps_hold}
use Rattle.steps.specs.Inputs.{largest_pool, distance_for}
use Rattle.working.specs.Slices.{tabulate, overwritten}
use Rattle.working.proofs.Slices.Laws.{length_tabulate, get_d_tabulate}
use Rattle.rows.specs.Store.{stored}
use Rattle.rows.specs.Store.Laws.{filled_entry}
use Rattle.grounds.specs.Grounds.{FillAccepted}
use Rattle.grounds.specs.Grounds.Laws.{fill_accepted, fill_answered, row_accepted}
use Rattle.steps.specs.declared.Pool.{Pool}
use Rattle.store.specs.Stores.{Store, lengths, place, store_after}
use Rattle.store.specs.Stores.Laws.{place_triangle, store_untouched, filled_holds}
use Rattle.store.specs.Calls.{fill_refusal, head_after, Fills, row_refusal, part_after, HandsRow}

-- ---- row

-- Row k lies within a slice that is accepted.
pub row_within : (n k : ℕ) (significands : List ℕ) → row_refusal n k significands ≡ 0 → place k 0 + (k + 1) ≤ length significands
unfolding triangle row_refusal
row_within n k significands accepts =
    let accepted = row_accepted largest_pool n k (length significands) refl accepts in
    rw (place_triangle k 0) (omega (arith, triangle_mono accepted.row, accepted.store))

module _ (n k : ℕ) (significands : List ℕ) {refusal : ℕ} (is : refusal ≡ row_refusal n k significands) where
  pub part_refused : (refusal ≡ 0 → ⊥) → [] ≡ part_after (row_refusal n k significands) k significands
  unfolding part_after
  part_refused some = by_number (row_refusal n k significands) (λ none. some (is ∙ none))
    where
      by_number : (r : ℕ) → (r ≡ 0 → ⊥) → [] ≡ part_after r k significands
      by_number zero not = absurd (not refl)
      by_number (suc r) not = refl

  pub part_accepted : refusal ≡ 0 → (count start : ℕ) → count ≡ k + 1 → start ≡ place k 0
      → take count (drop start significands) ≡ part_after (row_refusal n k significands) k significands
  unfolding part_after
  part_accepted none count start count_is start_is = rw (sym is ∙ none, count_is, start_is) refl

module _ (n k : ℕ) (significands : List ℕ) {part : List ℕ} (is : part ≡ part_after (row_refusal n k significands) k significands) where
  module _ (accepts : row_refusal n k significands ≡ 0) where
    part_is_row : part ≡ take (k + 1) (drop (place k 0) significands)
    part_is_row = is ∙ sym (part_accepted n k significands refl accepts _ _ refl refl)

    part_length : length part ≡ k + 1
    part_length = rw (part_is_row, length-take, length-drop) (omega (arith, row_within n k significands accepts))

    part_entry : (j : ℕ) → j ≤ k → get_or part j 0 ≡ get_or significands (place k j) 0
    part_entry j l =
        let low : j < k + 1 = omega arith in
        rw (part_is_row, get_or-take, get_or-drop, place_triangle k 0, add-zero (triangle k), ← place_triangle k j) refl

    part_filled : (side : Side) (p ρ m : ℕ) (old : List ℕ) → n ≤ m → significands ≡ overwritten (stored side p ρ (λ x. x.significand) m) old
        → part ≡ tabulate (suc k) (λ j. (kept_row side p ρ k j).significand)
    unfolding row_refusal nought
    part_filled side p ρ m old more filled =
        let accepted = row_accepted largest_pool n k (length significands) refl accepts in
        ext_get_or 0 part (tabulate (suc k) (λ j. (kept_row side p ρ k j).significand)) (part_length ∙ rw length_tabulate (omega arith)) (λ j l.
        let low : j ≤ k = omega (arith, part_length) in
        let to_m : k ≤ m = omega (arith, accepted.row) in
        rw (
          part_entry j low,
          place_triangle k j,
          filled,
          filled_entry side p ρ (λ x. x.significand) m old low to_m,
          get_d_tabulate (suc k) (λ i. (kept_row side p ρ k i).significand) j 0 (omega arith),
        ) refl)

  part_empty : (row_refusal n k significands ≡ 0 → ⊥) → length part ≡ 0
  part_empty not = ap length (is ∙ sym (part_refused n k significands refl not))

  -- What is known of the part that is handed over follows from which it is.
  pub hands_row : HandsRow n k significands part
  hands_row = record { part_is = is; refused_empty = part_empty; accepted_length = part_length; entries = part_entry; of_filled = part_filled }

-- ---- the refusal, the store and the head

pub head_untouched : (refusal : ℕ) (pool head : Pool) → (refusal ≡ 0 → ⊥) → head ≡ head_after refusal pool head
unfolding head_after
head_untouched zero pool head some = absurd (some refl)
head_untouched (suc r) pool head some = refl

module _ {number : ℕ} {g : ℕ → ℕ} {pool head head' : Pool} {before after : Store} {refusal : ℕ} (fills : Fills number g pool head before after refusal head') where
  -- A refused call leaves the store as it was, and hands back the head that came.
  pub fills_kept : (refusal ≡ 0 → ⊥) → (after ≡ before) × (head' ≡ head)
  fills_kept some = (fills.store_is ∙ sym (store_untouched _ _ _ refusal before some), fills.head_is ∙ sym (head_untouched refusal pool head some))

  -- An accepted one hands back the pool.
  pub fills_head : refusal ≡ 0 → head' ≡ pool
  unfolding head_after
  fills_head none = rw none at fills.head_is

  -- Its pool is one that `fill` accepts, and its slices have room for the table.
  pub fills_accepted : refusal ≡ 0 → FillAccepted largest_pool pool.assets pool.probability pool.correlation (lengths before)
  unfolding fill_refusal
  fills_accepted none = fill_accepted _ _ _ _ _ refl (fills.accepted none)

module _ {g : ℕ → ℕ} {pool head head' : Pool} {before after : Store} {refusal : ℕ}
    (given : refusal ≡ 0 → FillAccepted largest_pool pool.assets pool.probability pool.correlation (lengths before))
    (budgets : refusal ≡ 0 → BudgetsFor g pool.assets) where
  -- What holds of a store follows from which it is, at every distance that the budgets of the pool give.
  fills_left : {number : ℕ} → refusal ≡ number → after ≡ store_after pool.assets pool.probability pool.correlation refusal before
      → head' ≡ head_after refusal pool head → Fills number g pool head before after refusal head'
  unfolding fill_refusal
  fills_left is left head_is = record {
    refusal_is = is;
    store_is = left;
    head_is = head_is;
    accepted = λ none. fill_answered _ _ _ _ _ (given none);
    holds = λ none. rw (left, none) (filled_holds before (given none).pool.range (budgets none));
    steps_hold = λ none. steps_hold (given none).pool.range (budgets none);
  }

-- The same outcome by another list that gives the same number, at another distance.
pub fills_apart : {f g : ℕ → ℕ} {pool head head' : Pool} {before after : Store} {number number' refusal : ℕ} → BudgetsFor g pool.assets → number ≡ number'
    → Fills number f pool head before after refusal head' → Fills number' g pool head before after refusal head'
fills_apart budgets same fills = fills_left (fills_accepted fills) (λ _. budgets) (fills.refusal_is ∙ same) fills.store_is fills.head_is

-- A refused call, and one that fills.
pub fills_untouched : {g : ℕ → ℕ} {pool head : Pool} {before : Store} {number refusal : ℕ} → (refusal ≡ 0 → ⊥) → refusal ≡ number
    → Fills number g pool head before before refusal head
fills_untouched some is =
    fills_left (λ none. absurd (some none)) (λ none. absurd (some none)) is (store_untouched _ _ _ _ _ some) (head_untouched _ _ _ some)

pub fills_filled : {pool head head' : Pool} {before after : Store} {number : ℕ}
    → FillAccepted largest_pool pool.assets pool.probability pool.correlation (lengths before) → 0 ≡ number
    → after ≡ store_after pool.assets pool.probability pool.correlation 0 before → head' ≡ pool → Fills number distance_for pool head before after 0 head'
unfolding head_after
fills_filled accepted is left new = fills_left (λ _. accepted) (λ _. pool_budgets accepted.pool.range.assets) is left new

-- What meets the contract for the same inputs is the same, at whatever distances.
pub fills_once : {f g : ℕ → ℕ} {pool head left left' : Pool} {before after after' : Store} {number number' refusal refusal' : ℕ} → number ≡ number'
    → Fills number f pool head before after refusal left → Fills number' g pool head before after' refusal' left'
    → (refusal ≡ refusal') × (after ≡ after') × (left ≡ left')
fills_once same one other =
    let alike = one.refusal_is ∙ same ∙ sym other.refusal_is in
    (alike, rw (one.store_is, other.store_is, alike) refl, rw (one.head_is, other.head_is, alike) refl)
