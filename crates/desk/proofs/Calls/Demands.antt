-- The contract of a desk's read implies what is demanded of it.
-- Assumes nothing.
use Rattle.std.specs.Prelude.{ℕ, ◌+◌, ◌-◌, ◌*◌, ◌/◌, ◌≤◌, ◌<◌, ◌≡◌, List, pos, negsuc, ◌≤ℤ◌, replicate}
use Rattle.std.proofs.Math.Path.{refl, ap}
use Rattle.std.proofs.Common.{sym, ◌∙◌, ext_get_or}
use Rattle.std.proofs.Math.Decide.{dec_le}
use native.Mathlib.Omega.{arith}
use Rattle.std.proofs.Math.ListN.{length, get_or, length-replicate, get_or-eq_default}
use Rattle.std.proofs.lemmas.List.{get_or-replicate}
use Rattle.std.proofs.Math.Seq.{get_or-drop}
use Rattle.model.specs.CorrelatedBinomial.{probability}
use Rattle.kept.specs.declared.Kept.{Kept}
use Rattle.kept.specs.declared.Side.{Side}
use Rattle.kept.specs.declared.Side.TheVariants.{Low, High}
use Rattle.kept.specs.Rounding.{nought}
use Rattle.steps.specs.CorrelatedBinomial.Rows.{kept_row}
use Rattle.steps.specs.CorrelatedBinomial.Exponents.{is_entry, of_rows}
use Rattle.steps.specs.Inputs.{largest_pool, working_assets}
use Rattle.working.specs.Working.{working_places}
use Rattle.working.specs.Slices.{number_at}
use Rattle.working.proofs.Slices.Laws.{entries_kept, entries_at, entries_length, entries_later}
use Rattle.grounds.specs.Grounds.{first_ground, fill_grounds, desk_grounds}
use Rattle.grounds.specs.Grounds.Laws.{desk_accepted, desk_other_pair, desk_above_assets, desk_above_ceiling, desk_answered, desk_within}
use Rattle.steps.specs.declared.Pool.{Pool}
use Rattle.store.specs.Stores.{Store, lengths, side_of, place}
use Rattle.pool.specs.Demands.{kept_zero, Slices, lengths_of, number_on, BoundDemands, StoreDemands, SameRow, row_of, DeskRowDemands, DeskDemands}
use Rattle.pool.proofs.Demands.Theorems.{slices}
use Rattle.desk.specs.declared.Request.{Request}
use Rattle.desk.specs.declared.DeskRow.{DeskRow}
use Rattle.desk.specs.Calls.{desk_refusal, row_on, row_handed, ReadsRow}
use Rattle.grounds.specs.Refusals.{refusal_number}

-- ---- what is handed over

number_on_lem : (side : Side) (s : Store) (i : ℕ) → number_at (side_of side s) i ≡ number_on side (slices s) i
unfolding number_at side_of
number_on_lem Low s i = refl
number_on_lem High s i = refl

zero_at : (m j : ℕ) → get_or (replicate m nought) j nought ≡ nought
zero_at m j = elim (dec_le m j) [
  | yes past ↦ get_or-eq_default (replicate m nought) nought (rw (length-replicate m nought) past)
  | no l ↦ get_or-replicate m j nought nought (omega arith)
]

module _ (head : Pool) (request : Request) (ceiling : ℕ) (s : Store) (answer : DeskRow) (reads : ReadsRow head request ceiling s answer) where
  abbrev k : ℕ
  k = request.row

  abbrev numbers : Side → ℕ → Kept
  numbers side j = number_at (side_of side s) (place k j)

  abbrev zeros : List Kept
  zeros = replicate working_places nought

  zeros_long : length zeros ≡ 101
  unfolding working_places working_assets
  zeros_long = length-replicate working_places nought

  module _ (none : refusal_number answer.outcome ≡ 0) where
    row_few : k < length zeros
    unfolding desk_refusal largest_pool
    row_few =
        let accepted = desk_accepted largest_pool _ _ _ _ _ _ _ _ reads.refusal_is none in
        omega (arith, accepted.row, accepted.fill.pool.range.assets, zeros_long)

    row_entry_lem : (side : Side) (j : ℕ) → j ≤ k → get_or (row_on answer side) j nought ≡ number_on side (slices s) (k * (k + 1) / 2 + j)
    unfolding row_handed place
    row_entry_lem side j l = entries_at k (numbers side) zeros (reads.rows_are side) none nought j l ∙ number_on_lem side s (place k j)

    row_later : (side : Side) (j : ℕ) → k < j → get_or (row_on answer side) j nought ≡ nought
    unfolding row_handed
    row_later side j l =
        let there : j ≡ (k + 1) + (j - (k + 1)) = omega arith in
        rw there (sym (get_or-drop (k + 1) (row_on answer side) (j - (k + 1)) nought)
        ∙ ap (λ row. get_or row (j - (k + 1)) nought) (entries_later k (numbers side) zeros (reads.rows_are side) none)
        ∙ get_or-drop (k + 1) zeros (j - (k + 1)) nought ∙ zero_at working_places ((k + 1) + (j - (k + 1))))

  row_kept : (refusal_number answer.outcome ≡ 0 → ⊥) → (side : Side) → row_on answer side ≡ zeros
  unfolding row_handed
  row_kept some side = entries_kept k (numbers side) zeros (reads.rows_are side) some

  row_places : (side : Side) → length (row_on answer side) ≡ 101
  unfolding row_handed
  row_places side = elim (dec_le 1 (refusal_number answer.outcome)) [
    | yes some ↦ ap length (row_kept (λ none. omega arith) side) ∙ zeros_long
    | no none ↦
        let accepted : refusal_number answer.outcome ≡ 0 = omega arith in
        entries_length k (numbers side) zeros (reads.rows_are side) accepted (row_few accepted) ∙ zeros_long
  ]

  row_of_lem : (side : Side) → row_of answer.low answer.high side ≡ row_on answer side
  unfolding row_on
  row_of_lem Low = refl
  row_of_lem High = refl

  handed_meets : DeskRowDemands request.probability request.correlation k ceiling head (slices s) (refusal_number answer.outcome) answer.low answer.high
  unfolding desk_refusal lengths largest_pool kept_zero nought
  handed_meets = record {
    number = reads.refusal_is;
    places = λ side. rw (row_of_lem side) (row_places side);
    entry = λ none side j l. rw (row_of_lem side) (row_entry_lem none side j l);
    later = λ none side j l. rw (row_of_lem side) (row_later none side j l);
    refused = λ some side j. rw (row_of_lem side ∙ row_kept some side) (zero_at working_places j);
  }

-- ---- two reads of a row

module _ (p' ρ' k ceiling : ℕ) {head head₂ : Pool} {s s₂ : Slices} {refusal refusal₂ : ℕ} {low high low₂ high₂ : List Kept}
    (one : DeskRowDemands p' ρ' k ceiling head s refusal low high) (two : DeskRowDemands p' ρ' k ceiling head₂ s₂ refusal₂ low₂ high₂) where
  same_side : refusal ≡ refusal₂ → (refusal ≡ 0 → (side : Side) (j : ℕ) → j ≤ k → number_on side s (k * (k + 1) / 2 + j) ≡ number_on side s₂ (k * (k + 1) / 2 + j))
      → (side : Side) → row_of low high side ≡ row_of low₂ high₂ side
  same_side same numbers side =
      ext_get_or kept_zero (row_of low high side) (row_of low₂ high₂ side) (one.places side ∙ sym (two.places side)) (λ j l.
      elim (dec_le 1 refusal) [
        | yes some ↦ one.refused (λ none. omega arith) side j ∙ sym (two.refused (λ none. omega arith) side j)
        | no none ↦
            let accepted : refusal ≡ 0 = omega arith in
            let accepted₂ : refusal₂ ≡ 0 = omega arith in
            elim (dec_le j k) [
              | yes within ↦ one.entry accepted side j within ∙ numbers accepted side j within ∙ sym (two.entry accepted₂ side j within)
              | no past ↦ one.later accepted side j (omega arith) ∙ sym (two.later accepted₂ side j (omega arith))
            ]
      ])

  -- Answered by the same number, from the same entries, they are handed the same.
  same_rows : refusal ≡ refusal₂ → (refusal ≡ 0 → (side : Side) (j : ℕ) → j ≤ k → number_on side s (k * (k + 1) / 2 + j) ≡ number_on side s₂ (k * (k + 1) / 2 + j))
      → (refusal ≡ refusal₂) × (low ≡ low₂) × (high ≡ high₂)
  same_rows same numbers = (same, same_side same numbers Low, same_side same numbers High)

-- ---- with the head of an accepted call, from its entries

module _ (p' ρ' k ceiling : ℕ) {parts : ℕ → ℕ} {pool came head : Pool} {before after s : Slices} {refusal : ℕ} {low high : List Kept}
    (store : StoreDemands pool parts came before after 0 head) (same : SameRow k s after) (handed : DeskRowDemands p' ρ' k ceiling head s refusal low high) where
  -- The head and the slices are those that a fill accepts.
  fill_none : first_ground (fill_grounds 100 pool.assets pool.probability pool.correlation (lengths_of s)) ≡ 0
  fill_none = rw (same.lengths ∙ store.lengths refl) (store.accepted refl)

  number : refusal ≡ first_ground (desk_grounds 100 pool.assets pool.probability pool.correlation p' ρ' k ceiling (lengths_of s))
  number = rw (store.head_is refl) at handed.number

  number_made : k ≤ pool.assets → (side : Side) (j : ℕ) → j ≤ k → number_on side s (k * (k + 1) / 2 + j) ≡ kept_row side pool.probability pool.correlation k j
  number_made within side j l = same.entries side j l ∙ (store.table refl).made side j k l within

  module _ (none : refusal ≡ 0) where
    within : k ≤ pool.assets
    within = (desk_accepted 100 _ _ _ _ _ _ _ _ number none).row

    entry_left : (side : Side) (j : ℕ) → j ≤ k → get_or (row_of low high side) j kept_zero ≡ number_on side after (k * (k + 1) / 2 + j)
    entry_left side j l = handed.entry none side j l ∙ same.entries side j l

    entry_made : (side : Side) (j : ℕ) → j ≤ k → get_or (row_of low high side) j kept_zero ≡ kept_row side pool.probability pool.correlation k j
    entry_made side j l = handed.entry none side j l ∙ number_made within side j l

    entry_bounds : (j : ℕ) → j ≤ k → BoundDemands (parts k) (get_or low j kept_zero) (get_or high j kept_zero) (probability pool.probability pool.correlation j k)
    entry_bounds j l = rw (entry_left Low j l, entry_left High j l) ((store.table refl).entries j k l within)

    entry_exponents : (side : Side) (j : ℕ) → j ≤ k
        → (negsuc 79999 ≤ℤ (get_or (row_of low high side) j kept_zero).exponent) × ((get_or (row_of low high side) j kept_zero).exponent ≤ℤ pos 100)
    entry_exponents side j l = rw (entry_made side j l) ((store.table refl).steps.exponents side (of_rows (is_entry k j within l)))

-- A row that two such stores have, for pools with the same pair.
module _ (p' ρ' k ceiling : ℕ) {parts parts₂ : ℕ → ℕ} {pool pool₂ came came₂ head head₂ : Pool} {before after s before₂ after₂ s₂ : Slices} {refusal refusal₂ : ℕ}
    {low high low₂ high₂ : List Kept} (store : StoreDemands pool parts came before after 0 head) (same : SameRow k s after)
    (handed : DeskRowDemands p' ρ' k ceiling head s refusal low high) (store₂ : StoreDemands pool₂ parts₂ came₂ before₂ after₂ 0 head₂) (same₂ : SameRow k s₂ after₂)
    (handed₂ : DeskRowDemands p' ρ' k ceiling head₂ s₂ refusal₂ low₂ high₂) (p_is : pool₂.probability ≡ pool.probability) (ρ_is : pool₂.correlation ≡ pool.correlation)
    (one_has : k ≤ pool.assets) (two_has : k ≤ pool₂.assets) where
  numbers_same : refusal ≡ refusal₂
  numbers_same =
      number p' ρ' k ceiling store same handed ∙ desk_within 100 _ _ _ p' ρ' k ceiling _ (fill_none p' ρ' k ceiling store same handed) one_has
      ∙ rw (← p_is, ← ρ_is) (sym (desk_within 100 _ _ _ p' ρ' k ceiling _ (fill_none p' ρ' k ceiling store₂ same₂ handed₂) two_has))
      ∙ sym (number p' ρ' k ceiling store₂ same₂ handed₂)

  assets_alone : (refusal ≡ refusal₂) × (low ≡ low₂) × (high ≡ high₂)
  assets_alone =
      same_rows p' ρ' k ceiling handed handed₂ numbers_same (λ _ side j l.
      number_made p' ρ' k ceiling store same handed one_has side j l
      ∙ rw (← p_is, ← ρ_is) (sym (number_made p' ρ' k ceiling store₂ same₂ handed₂ two_has side j l)))

-- ---- the call

pub desk_meets : (head : Pool) (request : Request) (ceiling : ℕ) (s : Store) (answer : DeskRow) → ReadsRow head request ceiling s answer
    → DeskDemands request.probability request.correlation request.row ceiling head (slices s) (refusal_number answer.outcome) answer.low answer.high
desk_meets head request ceiling s answer reads =
    let p' = request.probability in
    let ρ' = request.correlation in
    let k = request.row in
    let handed = handed_meets head request ceiling s answer reads in
    record {
      handed = handed;
      alone = λ s₂ refusal₂ low₂ high₂ same handed₂.
          same_rows p' ρ' k ceiling handed handed₂ (handed.number ∙ sym (rw same.lengths at handed₂.number)) (λ _ side j l. sym (same.entries side j l));
      of_filled = λ parts pool came before after store same.
          let none = fill_none p' ρ' k ceiling store same handed in
          let number = number p' ρ' k ceiling store same handed in
          record {
            other_pair = λ other. number ∙ desk_other_pair 100 _ _ _ p' ρ' k ceiling _ none (λ p_is ρ_is. other (sym p_is) (sym ρ_is));
            above_assets = λ p_is ρ_is l. number ∙ desk_above_assets 100 _ _ _ p' ρ' k ceiling _ none (sym p_is) (sym ρ_is) l;
            above_ceiling = λ p_is ρ_is row l. number ∙ desk_above_ceiling 100 _ _ _ p' ρ' k ceiling _ none (sym p_is) (sym ρ_is) row l;
            answered = λ p_is ρ_is row l. number ∙ desk_answered 100 _ _ _ p' ρ' k ceiling _ none (sym p_is) (sym ρ_is) row l;
            made = entry_made p' ρ' k ceiling store same handed;
            bounds = entry_bounds p' ρ' k ceiling store same handed;
            exponents = entry_exponents p' ρ' k ceiling store same handed;
            other_assets = λ parts₂ pool₂ came₂ head₂ before₂ after₂ s₂ refusal₂ low₂ high₂ store₂ same₂ handed₂ p_is ρ_is one_has two_has.
                assets_alone p' ρ' k ceiling store same handed store₂ same₂ handed₂ p_is ρ_is one_has two_has;
          };
    }
