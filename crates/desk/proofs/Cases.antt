-- A desk's read in figures: the row that is handed over, and what holds of reads after calls.
-- Assumes nothing.
use Rattle.std.specs.Prelude.{ℕ, zero, suc, ◌+◌, ◌*◌, ◌/◌, ◌≤◌, ◌<◌, ◌≡◌, List, [], ◌∷◌, pos, negsuc, ◌≤ℤ◌, get_or, replicate}
use Rattle.std.proofs.Math.Path.{refl}
use Rattle.std.proofs.Common.{sym, subst, le_refl, arith, lit≤}
use Rattle.model.specs.CorrelatedBinomial.{probability}
use Rattle.kept.specs.declared.Kept.{Kept}
use Rattle.kept.specs.declared.Side.{Side}
use Rattle.kept.specs.declared.Side.TheVariants.{Low, High}
use Rattle.kept.specs.Rounding.{nought}
use Rattle.steps.specs.CorrelatedBinomial.Rows.{kept_row}
use Rattle.steps.specs.Enclosure.{Enclosed}
use Rattle.steps.specs.Exponents.{Ranged}
use Rattle.steps.specs.Inputs.{up_to, fine_pool, distance_for, working_assets}
use Rattle.working.specs.Working.{working_places}
use Rattle.working.specs.Slices.{side_store, number_at, tabulate, overwritten, entries_after}
use Rattle.steps.specs.declared.Pool.{Pool}
use Rattle.store.specs.Stores.{Store, side_of, place}
use Rattle.store.specs.Calls.{Fills}
use Rattle.store.proofs.Calls.Laws.{fills_head}
use Rattle.pool.specs.Demands.{kept_zero, parts_for, Slices, lent, number_on, BoundDemands, StoreDemands, SameRow, FillDemands, ColumnDemands, DeskDemands}
use Rattle.desk.specs.declared.Request.{Request}
use Rattle.desk.specs.declared.DeskRow.{DeskRow}
use Rattle.desk.specs.Calls.{row_on, row_handed, SameNumbers, ReadsRow}
use Rattle.grounds.specs.Refusals.{refusal_number}

-- ---- the row

abbrev number : ℕ → Kept
number i = record { significand = i; exponent = pos i }

-- Of a side with rows 0 to 2, one number after the other, each row, with zeros behind it to 101 places; nothing but zeros on a refusal.
pub row_figures : let side = side_store (10 ∷ 11 ∷ 12 ∷ 13 ∷ 14 ∷ 15 ∷ []) (pos 10 ∷ pos 11 ∷ pos 12 ∷ pos 13 ∷ pos 14 ∷ pos 15 ∷ []) in
    (row_handed 0 0 side ≡ number 10 ∷ replicate 100 (number 0))
    × (row_handed 0 1 side ≡ number 11 ∷ number 12 ∷ replicate 99 (number 0))
    × (row_handed 0 2 side ≡ number 13 ∷ number 14 ∷ number 15 ∷ replicate 98 (number 0))
    × (row_handed 15 2 side ≡ replicate 101 (number 0))
unfolding row_handed entries_after overwritten tabulate number_at place working_places working_assets nought
row_figures = (refl, refl, refl, refl)

-- Stores for one asset that differ before row 1, and behind it.
abbrev around : (before behind : ℕ) → Slices
around before behind =
    let exponents = pos before ∷ pos 1 ∷ pos 2 ∷ pos behind ∷ [] in
    lent (before ∷ 1 ∷ 2 ∷ behind ∷ []) (before ∷ 3 ∷ 4 ∷ behind ∷ []) exponents exponents

-- Whatever the two hold there, with whatever head, a desk that asks for row 1 gets the same from both.
pub alone_figures : (a b c d : ℕ) {head : Pool} {p' ρ' ceiling refusal refusal₂ : ℕ} {low high low₂ high₂ : List Kept}
    → DeskDemands p' ρ' 1 ceiling head (around a b) refusal low high → DeskDemands p' ρ' 1 ceiling head (around c d) refusal₂ low₂ high₂
    → (refusal ≡ refusal₂) × (low ≡ low₂) × (high ≡ high₂)
unfolding lent
alone_figures a b c d one two = one.alone (around c d) _ _ _ (record { lengths = refl; entries = entries }) two.handed
  where
    entries : (side : Side) (j : ℕ) → j ≤ 1 → number_on side (around c d) (1 * (1 + 1) / 2 + j) ≡ number_on side (around a b) (1 * (1 + 1) / 2 + j)
    entries Low zero l = refl
    entries Low (suc zero) l = refl
    entries Low (suc (suc j)) l = absurd (omega arith)
    entries High zero l = refl
    entries High (suc zero) l = refl
    entries High (suc (suc j)) l = absurd (omega arith)

-- ---- after calls

-- So many assets, with p = 1000 and ρ = 3000.
abbrev pool_of : ℕ → Pool
pool_of n = record { assets = n; probability = 1000; correlation = 3000 }

-- The store as it was left.
untouched_row : {k : ℕ} {s : Slices} → SameRow k s s
untouched_row = record { lengths = refl; entries = λ side j l. refl }

-- After an accepted call for three assets, whatever head came, from slices that were written to since but not in the row: each answer to a desk that reads with the head
-- that was handed back, and what it is handed.
pub record ReadOfThree (k ceiling p' ρ' refusal : ℕ) (low high : List Kept) : Type 0 where
  pub other_pair : (p' ≡ 1000 → ρ' ≡ 3000 → ⊥) → refusal ≡ 15
  pub above_assets : p' ≡ 1000 → ρ' ≡ 3000 → 4 ≤ k → refusal ≡ 9
  pub above_ceiling : p' ≡ 1000 → ρ' ≡ 3000 → k ≤ 3 → ceiling < k → refusal ≡ 16
  pub answered : p' ≡ 1000 → ρ' ≡ 3000 → k ≤ 3 → k ≤ ceiling → refusal ≡ 0
  pub low_made : refusal ≡ 0 → (j : ℕ) → j ≤ k → get_or low j kept_zero ≡ kept_row Low 1000 3000 k j
  pub high_made : refusal ≡ 0 → (j : ℕ) → j ≤ k → get_or high j kept_zero ≡ kept_row High 1000 3000 k j
  pub exponents : refusal ≡ 0 → (j : ℕ) → j ≤ k → (negsuc 79999 ≤ℤ (get_or low j kept_zero).exponent) × ((get_or high j kept_zero).exponent ≤ℤ pos 100)

pub after_three : {came head : Pool} {parts : ℕ → ℕ} {before after s : Slices} {k ceiling p' ρ' refusal : ℕ} {low high : List Kept}
    → StoreDemands (pool_of 3) parts came before after 0 head → SameRow k s after → DeskDemands p' ρ' k ceiling head s refusal low high
    → ReadOfThree k ceiling p' ρ' refusal low high
after_three {came} {parts} {before} {after} store same desk =
    let read = desk.of_filled parts (pool_of 3) came before after store same in
    record {
      other_pair = read.other_pair;
      above_assets = read.above_assets;
      above_ceiling = read.above_ceiling;
      answered = read.answered;
      low_made = λ none. read.made none Low;
      high_made = λ none. read.made none High;
      exponents = λ none j l. ((read.exponents none Low j l).0, (read.exponents none High j l).1);
    }

-- The bounds of a row of a store for n assets, at the distance of its row.
bounds_of : (n k g : ℕ) {came head : Pool} {before after s : Slices} {ceiling refusal : ℕ} {low high : List Kept} → parts_for k ≡ g → k ≤ n
    → FillDemands (pool_of n) came before after 0 head → SameRow k s after → DeskDemands 1000 3000 k ceiling head s refusal low high → k ≤ ceiling → (j : ℕ) → j ≤ k
    → BoundDemands g (get_or low j kept_zero) (get_or high j kept_zero) (probability 1000 3000 j k)
bounds_of n k g {came} {before} {after} {low} {high} is row fill same desk l j m =
    let read = desk.of_filled parts_for (pool_of n) came before after fill.store same in
    subst (λ parts. BoundDemands parts (get_or low j kept_zero) (get_or high j kept_zero) (probability 1000 3000 j k)) is (read.bounds (read.answered refl refl row l) j m)

-- One part in 100,000 in row 3 of three assets and in row 64 of a hundred, one part in 50,000 in row 65 of a hundred.
module _ {came head : Pool} {before after s : Slices} {ceiling refusal : ℕ} {low high : List Kept} (j : ℕ) where
  pub bounds_three : FillDemands (pool_of 3) came before after 0 head → SameRow 3 s after → DeskDemands 1000 3000 3 ceiling head s refusal low high → 3 ≤ ceiling → j ≤ 3
      → BoundDemands 100000 (get_or low j kept_zero) (get_or high j kept_zero) (probability 1000 3000 j 3)
  unfolding parts_for
  bounds_three fill same desk l = bounds_of 3 3 100000 refl (le_refl 3) fill same desk l j

  pub bounds_sixty_four : FillDemands (pool_of 100) came before after 0 head → SameRow 64 s after → DeskDemands 1000 3000 64 ceiling head s refusal low high → 64 ≤ ceiling
      → j ≤ 64 → BoundDemands 100000 (get_or low j kept_zero) (get_or high j kept_zero) (probability 1000 3000 j 64)
  unfolding parts_for
  bounds_sixty_four fill same desk l = bounds_of 100 64 100000 refl (lit≤ tt) fill same desk l j

  pub bounds_sixty_five : FillDemands (pool_of 100) came before after 0 head → SameRow 65 s after → DeskDemands 1000 3000 65 ceiling head s refusal low high → 65 ≤ ceiling
      → j ≤ 65 → BoundDemands 50000 (get_or low j kept_zero) (get_or high j kept_zero) (probability 1000 3000 j 65)
  unfolding parts_for
  bounds_sixty_five fill same desk l = bounds_of 100 65 50000 refl (lit≤ tt) fill same desk l j

-- A refused column call, for whatever pool, came between: a read with what it left and handed back has the same bounds.
pub bounds_after_refusal : {pool came head head' : Pool} {before after after' : Slices} {units units' : List ℕ} {number ceiling refusal : ℕ} {low high : List Kept} (j : ℕ)
    → FillDemands (pool_of 3) came before after 0 head → ColumnDemands pool head after after' units units' number head' → (number ≡ 0 → ⊥)
    → DeskDemands 1000 3000 3 ceiling head' after' refusal low high → 3 ≤ ceiling → j ≤ 3
    → BoundDemands 100000 (get_or low j kept_zero) (get_or high j kept_zero) (probability 1000 3000 j 3)
bounds_after_refusal {after} j fill column some desk =
    let kept = column.leaves.one.untouched some in
    bounds_three j fill (subst (λ left. SameRow 3 left.0 after) (sym kept) untouched_row) (rw (column.leaves.store.head_kept some) at desk)

-- The contract's part of it: the numbers, the bounds and the range, from slices with the same numbers in the row.
pub contract_three : {number ceiling : ℕ} {came head : Pool} {before after s : Store} {request : Request} {answer : DeskRow}
    → Fills number distance_for (pool_of 3) came before after 0 head → ReadsRow head request ceiling s answer → refusal_number answer.outcome ≡ 0 → request.row ≡ 3
    → ((side : Side) (j : ℕ) → j ≤ 3 → number_at (side_of side s) (6 + j) ≡ number_at (side_of side after) (6 + j)) → (j : ℕ) → j ≤ 3
    → Enclosed 100000 (get_or answer.low j nought) (get_or answer.high j nought) (probability 1000 3000 j 3)
    × ((side : Side) → (get_or (row_on answer side) j nought ≡ kept_row side 1000 3000 3 j) × Ranged (get_or (row_on answer side) j nought))
unfolding distance_for up_to fine_pool row_on place
contract_three {after} {s} fills reads none row_is same j l =
    let holds = reads.of_filled none fills (subst (λ (k : ℕ). SameNumbers k s after) (sym row_is) same) in
    let head_is = fills_head fills refl in (
      rw (row_is, head_is) at (holds.enclosed j (rw row_is l)),
      λ side. (rw (row_is, head_is) at (holds.made side j (rw row_is l)), holds.ranged side j (rw row_is l)),
    )

-- ---- after a refill

module _ {came head head₂ : Pool} {before after after₂ : Slices} {k ceiling refusal : ℕ} {low high : List Kept} where
  -- With another p or ρ: a desk that reads with the new head and expects the old pair is refused by 15, whatever row it asks for. The slices are those that the refill left.
  pub refused_after_refill : (pool pool₂ : Pool) → FillDemands pool came before after 0 head → FillDemands pool₂ head after after₂ 0 head₂
      → (pool.probability ≡ pool₂.probability → pool.correlation ≡ pool₂.correlation → ⊥)
      → DeskDemands pool.probability pool.correlation k ceiling head₂ after₂ refusal low high → refusal ≡ 15
  refused_after_refill pool pool₂ fill refill other desk = (desk.of_filled parts_for pool₂ head after after₂ refill.store untouched_row).other_pair other

  -- With m assets in place of n, more or fewer: the row that both have is answered as before, to every desk.
  pub same_after_refill : (n m : ℕ) {p' ρ' refusal₂ : ℕ} {low₂ high₂ : List Kept} → FillDemands (pool_of n) came before after 0 head
      → FillDemands (pool_of m) head after after₂ 0 head₂ → k ≤ n → k ≤ m → DeskDemands p' ρ' k ceiling head after refusal low high
      → DeskDemands p' ρ' k ceiling head₂ after₂ refusal₂ low₂ high₂ → (refusal ≡ refusal₂) × (low ≡ low₂) × (high ≡ high₂)
  same_after_refill n m fill refill to_n to_m desk desk₂ =
      (desk.of_filled parts_for (pool_of n) came before after fill.store untouched_row).other_assets parts_for (pool_of m) head _ after after₂ after₂ _ _ _ refill.store
      untouched_row desk₂.handed refl refl to_n to_m

  -- And a row above m, which the store had before, is refused by 9.
  pub above_after_refill : (n m : ℕ) → FillDemands (pool_of n) came before after 0 head → FillDemands (pool_of m) head after after₂ 0 head₂ → k ≤ n → m < k
      → DeskDemands 1000 3000 k ceiling head₂ after₂ refusal low high → refusal ≡ 9
  above_after_refill n m fill refill to_n past desk = (desk.of_filled parts_for (pool_of m) head after after₂ refill.store untouched_row).above_assets refl refl past
