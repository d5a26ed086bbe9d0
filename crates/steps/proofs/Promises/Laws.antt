-- The promises of a row of chances in general.
-- Assumes nothing.
use Rattle.std.specs.Prelude.{ℕ, suc, ◌-◌, ◌*◌, ◌^◌, ◌≤◌, ◌<◌, ◌≡◌, List, length, get_or, ℤ, pos}
use Rattle.std.proofs.Math.Path.{refl}
use Rattle.std.proofs.Common.{sym, subst, ◌∙◌, le_refl}
use native.Mathlib.Omega.{arith}
use Rattle.std.proofs.Math.Nat.{mul-le-mul_right}
use Rattle.std.proofs.Math.IntN.{+ℤ_invr}
use Rattle.model.specs.Number.{choose}
use Rattle.model.specs.Number.Laws.{sum_cong}
use Rattle.model.specs.Fraction.{Fraction, Same, AtMost, integer, plus, times, certainty, whole, over}
use Rattle.model.specs.Fraction.Laws.{same_refl, same_sym, same_trans, times_same, at_most_refl, at_most_trans, less_at_most_trans, times_mono}
use Rattle.model.specs.Chances.{Chances, SameChances, chance, mean, tails_total}
use Rattle.model.proofs.Chances.Laws.{complete_same, tranche_wide, loss_at_most_one, layer_at_most_one}
use Rattle.model.proofs.Touching.Laws.{touching_losses}
use Rattle.kept.specs.declared.Kept.{Kept}
use Rattle.kept.specs.declared.Side.{Side}
use Rattle.kept.specs.declared.Side.TheVariants.{Low, High}
use Rattle.kept.specs.Rounding.{IsKept, OnSide, value}
use Rattle.kept.specs.Rounding.Leading.{side_same}
use Rattle.kept.specs.Accuracy.{precision, BudgetFor}
use Rattle.kept.specs.Accuracy.Laws.{bound_same, budget_for_weaken}
use Rattle.steps.specs.Budgets.{chance_budget, tail_budget, loss_budget, layer_budget, Bounded, WithinBudget, WithinPlaces}
use Rattle.steps.specs.Chances.{kept_chances}
use Rattle.steps.proofs.Chances.Laws.{chance_bound, chance_enclosed, tail_enclosed, loss_enclosed, layer_enclosed, loss_kept, layer_kept}
use Rattle.steps.specs.Column.{units_of_certainty, exact_units, half, printed_tail, printed_row, tenths, PrintsTails, PrintsColumn, AtMostApart}
use Rattle.steps.proofs.Column.Laws.{within_weaken, printed_tails, printed_column, column_weaken}
use Rattle.steps.specs.Inputs.{fine_pool, tenths_for, tail_tenths}
use Rattle.steps.proofs.Inputs.Laws.{up_to_lem, tail_tenths_within}
use Rattle.steps.specs.Shifts.{tail_shift}
use Rattle.steps.proofs.Shifts.Laws.{tails_near, tails_between, tails_total_near}
use Rattle.steps.specs.Enclosure.{Enclosed}
use Rattle.steps.specs.Exponents.{Ranged}
use Rattle.steps.proofs.Exponents.Laws.{bound_ranged, unscaled}
use Rattle.steps.specs.Loss.{LossAnswer, untouched, loss_answer}
use Rattle.steps.proofs.Loss.Laws.{answer_says, answer_carries}
use Rattle.steps.specs.declared.Tranche.{Tranche}
use Rattle.steps.specs.Tranches.{tranche_at, lowers, uppers, TranchesInRange, TranchesTouch, TranchesWide, tranche_loss, tranche_losses, exact_total, bound_total, carried_total}
use Rattle.steps.proofs.Tranches.Laws.{tranche_loss_is, losses_at, losses_past, total_on_side}
use Rattle.steps.specs.Layers.{loss_of_layer}
use Rattle.steps.specs.Claims.{RowPasses, verdict_on, VerdictAnswer}
use Rattle.steps.proofs.First.Laws.{first_holds}
use Rattle.steps.specs.Attachments.{AttachmentAnswer, tranche_from, attachment_on}
use Rattle.steps.proofs.Claims.Laws.{every_passes, near_passes, passed_near, nearest_near}
use Rattle.steps.specs.Numbers.{StepNumber, of_chances, of_tails, of_losses, of_layers}
use Rattle.steps.proofs.Numbers.Laws.{chances_ranged, tails_ranged, losses_ranged, layers_ranged}
use Rattle.steps.specs.Promises.{RowEnclosed, HoldsColumn, HoldsShifts, HoldsVerdict, HoldsLoss, HoldsTranche, SharesOut, HoldsLosses, HoldsLayer, HoldsAttachment}

-- A loss that is answered from two bounds which enclose an exact value of at most one.
pub loss_holds : {g : ℕ} {bound : Side → Kept} {v : Fraction} {loss : LossAnswer} → 0 < g → ((side : Side) → IsKept (bound side)) → Enclosed g (bound Low) (bound High) v
    → AtMost v certainty → loss ≡ loss_answer (bound Low) (bound High) → HoldsLoss g bound v loss
loss_holds positive kept enclosed most is =
    record { answer_is = is; enclosed = enclosed; says = rw is (answer_says positive (kept Low) (kept High) enclosed most) }

-- Its bound on a side is on that side of the exact value.
bound_on_side : (side : Side) {g : ℕ} {bound : Side → Kept} {v : Fraction} {loss : LossAnswer} → HoldsLoss g bound v loss → OnSide side (value (bound side)) v
bound_on_side Low holds = holds.enclosed.from_below
bound_on_side High holds = holds.enclosed.from_above

-- Touching tranches share out what the pool loses, from what holds of each loss.
shared_out : {g p : ℕ} {r : Chances} {c : Side → ℕ → Kept} {ts : List Tranche} {losses : List LossAnswer} → TranchesTouch ts → (wide : TranchesWide r.assets ts)
    → Same (mean r) (over (r.assets * p) 1) → ((i : ℕ) (l : i < length ts) → HoldsTranche g r c (tranche_at ts i) (wide i l) (get_or losses i untouched))
    → SharesOut p r c ts wide losses
unfolding exact_total bound_total carried_total
shared_out {r} {ts} touching wide mean_is holds =
    let exact = touching_losses touching r wide _ mean_is in
    record {
      exact = exact;
      bounds = λ side. side_same side same_refl exact (total_on_side side r ts wide _ (λ i l. bound_on_side side (holds i l)));
      carry = λ side. side_same side same_refl exact (total_on_side side r ts wide _ (λ i l. answer_carries side _ _ _ _ _ (holds i l).says));
    }

module _ {b : ℕ} {r : Chances} {v : ℕ → Fraction} {entry : Side → ℕ → Kept} (within : WithinBudget b r v entry) where
  abbrev kept : Side → ℕ → Kept
  kept side = kept_chances side r.assets (entry side)

  -- The chances that step 4 makes, against the exact ones.
  pub chances_bounded : Bounded (chance_budget r.assets b) r (λ side. kept_chances side r.assets (entry side))
  unfolding kept_chances
  chances_bounded = record { bound = λ side j l. bound_same (within.counted j l) (chance_bound r.assets j l (within.entries side j l)) }

  -- Loss units are whole numbers below 2^32.
  narrow : (A B : ℕ) → B ≤ whole → (B - A) * r.assets < 2 ^ 32
  unfolding whole
  narrow A B B≤1 = let part : B - A ≤ whole = omega arith in omega (arith, mul-le-mul_right r.assets part, within.assets)

  module _ {m : ℕ} (placed : WithinPlaces m r v) where
    pub entries_ranged : (side : Side) (j : ℕ) → j ≤ r.assets → Ranged (entry side j)
    unfolding layer_budget tail_budget chance_budget
    entries_ranged side j l =
        bound_ranged (within.entries side j l) m 0 (placed.denominators j l) (unscaled (placed.at_most_one j l))
        (omega (arith, within.parts, placed.places))

    pub steps_ranged : (side : Side) {x : Kept} → StepNumber side r.assets (entry side) x → Ranged x
    unfolding layer_budget tail_budget
    steps_ranged side (of_chances number) =
        chances_ranged v (within.entries side) placed.at_most_one placed.denominators (omega (arith, within.parts, placed.places, within.assets)) number
    steps_ranged side (of_tails number) =
        tails_ranged chances_bounded within.complete side m placed.denominator (within.parts, placed.places) number
    steps_ranged side (of_losses R A B B≤1 number) =
        losses_ranged chances_bounded within.complete side m placed.denominator (within.parts, placed.places) R A B (narrow A B B≤1) number
    steps_ranged side (of_layers i j l number) =
        layers_ranged chances_bounded within.complete side m placed.denominator (within.parts, placed.places) i j l within.assets number

  -- Printed tails of the low side, less than the tenths of a tail below the exact ones: 0.3 units are 6,442 parts of certainty, 0.8 units 17,179.
  pub row_tails : let tail_parts = tail_budget r.assets (chance_budget r.assets b) in
      (r.assets ≤ fine_pool → tail_parts ≤ 6442) → (fine_pool < r.assets → tail_parts ≤ 17179)
      → PrintsTails half (tenths (tail_tenths r.assets)) r (printed_tail r.assets (kept Low))
  unfolding tail_tenths tenths precision units_of_certainty
  row_tails few more =
      up_to_lem (λ t. PrintsTails half (tenths t) r (printed_tail r.assets (kept Low))) fine_pool r.assets
      (λ l. printed_tails chances_bounded within.complete (omega (arith, few l)))
      (λ l. printed_tails chances_bounded within.complete (omega (arith, more l)))

  -- Where two numbers at the budget of a layer are at most one part in g apart, all bounds are.
  module _ {g : ℕ} (fine : BudgetFor g (layer_budget r.assets (chance_budget r.assets b))) where
    pub row_enclosed : RowEnclosed g r (λ side. kept_chances side r.assets (entry side))
    unfolding layer_budget tail_budget loss_budget
    row_enclosed = record {
      chances = chance_enclosed chances_bounded (budget_for_weaken (omega arith) fine);
      tails = tail_enclosed chances_bounded (budget_for_weaken (omega arith) fine);
      losses = λ R A B B≤1 wide. loss_enclosed chances_bounded (budget_for_weaken (omega arith) fine) R A B (narrow A B B≤1) wide;
      layers = layer_enclosed chances_bounded fine;
    }

    -- The loss of a layer.
    pub layer_holds : (i j : ℕ) → j ≤ r.assets → {loss : LossAnswer} → loss ≡ loss_of_layer r.assets (λ side. kept_chances side r.assets (entry side)) i j
        → HoldsLayer g r (λ side. kept_chances side r.assets (entry side)) i j loss
    layer_holds i j l =
        loss_holds fine.positive (λ side. layer_kept side r.assets (kept side) i j) (row_enclosed.layers i j l) (layer_at_most_one r within.complete i j)

    -- The loss of a tranche.
    tranche_holds : (t : Tranche) → t.upper ≤ whole → (wide : 0 < (t.upper - t.lower) * r.assets) {loss : LossAnswer}
        → loss ≡ tranche_loss r.assets (λ side. kept_chances side r.assets (entry side)) t
        → HoldsTranche g r (λ side. kept_chances side r.assets (entry side)) t wide loss
    tranche_holds t upper wide is =
        loss_holds fine.positive (λ side. loss_kept side r.assets (kept side) _ _ _ wide) (row_enclosed.losses _ _ _ upper wide)
        (loss_at_most_one r _ _ _ wide within.complete) (is ∙ tranche_loss_is r.assets kept t wide)

    -- The losses of tranches in range, for a row whose mean is n × p.
    pub losses_hold : {p : ℕ} {ts : List Tranche} {losses : List LossAnswer} → Same (mean r) (over (r.assets * p) 1) → 0 < r.assets → TranchesInRange ts
        → losses ≡ tranche_losses r.assets (λ side. kept_chances side r.assets (entry side)) ts
        → HoldsLosses g p r (λ side. kept_chances side r.assets (entry side)) ts losses
    losses_hold {p} {ts} {losses} mean_is not_empty tranches are =
        let wide : TranchesWide r.assets ts = λ i l. tranche_wide not_empty (tranches.at i l).lower in
        let loss : (i : ℕ) → i < length ts → (wide : 0 < (uppers ts i - lowers ts i) * r.assets)
        → HoldsTranche g r kept (tranche_at ts i) wide (get_or losses i untouched) = λ i l wide.
        tranche_holds (tranche_at ts i) (tranches.at i l).upper wide (rw are (losses_at r.assets kept ts i l)) in
        record {
          wide = wide;
          loss = loss;
          past = λ i l. rw are (losses_past r.assets kept ts i l);
          shares_out = λ touching. shared_out touching wide mean_is (λ i l. loss i l (wide i l));
        }

    -- The loss that a search for an attachment answers.
    pub attachment_holds : (R B target : ℕ) → B ≤ whole → 0 < r.assets → {answer : AttachmentAnswer}
        → answer ≡ attachment_on r.assets (λ side. kept_chances side r.assets (entry side)) R B target
        → HoldsAttachment g r (λ side. kept_chances side r.assets (entry side)) R B answer
    unfolding attachment_on
    attachment_holds R B target upper not_empty is =
        rw is (first_holds _ _ _ (HoldsAttachment g r kept R B) B
        (λ A first.
        let wide = tranche_wide not_empty first.within in
        record { wide = wide; holds = tranche_holds (tranche_from R B A) upper wide refl })
        (λ _. tt))

-- Rows printed from tails that are at most half a unit above the exact ones and less than the tenths of a tail below them.
pub tails_column : {r : Chances} (low : ℕ → Kept) → PrintsTails half (tenths (tail_tenths r.assets)) r (printed_tail r.assets low)
    → PrintsColumn (tenths (tenths_for r.assets)) r (printed_tail r.assets low) (printed_row r.assets low)
unfolding plus half tenths
tails_column {r} low tails = column_weaken (record { cross = omega (arith, tail_tenths_within r.assets) }) (printed_column low tails)

-- The same entries, against the same values written over other denominators.
pub within_same : {b : ℕ} {r s : Chances} (v : ℕ → Fraction) {w : ℕ → Fraction} {entry : Side → ℕ → Kept} → SameChances r s
    → ((j : ℕ) → j ≤ r.assets → Same (v j) (w j)) → WithinBudget b s w entry → WithinBudget b r v entry
within_same {r} {s} v {w} same values within =
    let as_many = sym same.assets in
    let counted : (j : ℕ) → j ≤ r.assets → Same (times (integer (choose r.assets j)) (v j)) (chance r j) = λ j l.
    let others = subst (λ m. Same (times (integer (choose m j)) (w j)) (chance s j)) as_many (within.counted j (rw same.assets at l)) in
    same_trans (times_same same_refl (values j l)) (same_trans others (same_sym (same.chances j l))) in
    record {
      complete = complete_same same within.complete;
      entries = λ side j l. bound_same (same_sym (values j l)) (within.entries side j (rw same.assets at l));
      counted = counted;
      parts = rw as_many at within.parts;
      assets = rw as_many at within.assets;
    }

-- A column that stands in a slice.
pub column_holds : {off : Fraction} {r : Chances} {low : ℕ → Kept} {units : List ℕ}
    → PrintsColumn off r (printed_tail r.assets low) (printed_row r.assets low) → ((k : ℕ) → k ≤ r.assets → get_or units k 0 ≡ printed_row r.assets low k)
    → HoldsColumn off r low units
column_holds {r} prints rows = record {
  total = sum_cong (suc r.assets) (λ k l. rows k (omega arith)) ∙ prints.total;
  difference = λ k l. rw (rows k l) (prints.difference k);
  last = rows r.assets (le_refl r.assets) ∙ prints.last;
  near = λ k l. rw (rows k l) (prints.near k l);
}

-- A shift list that stands in a slice, from two rows whose exact tails add to the same.
pub shifts_hold : {above below off : Fraction} {r s : Chances} {low base : ℕ → Kept} {shifts : List ℤ}
    → PrintsTails above below r (printed_tail r.assets low) → PrintsTails above below s (printed_tail r.assets base)
    → s.assets ≡ r.assets → Same (tails_total r) (tails_total s) → 0 < r.assets → AtMost (plus above below) off
    → ((k : ℕ) → k ≤ r.assets → get_or shifts k (pos 0) ≡ tail_shift r.assets low base k) → HoldsShifts off r s low base shifts
unfolding tail_shift
shifts_hold {r} tails others as_many same some most entries = record {
  entry = entries;
  at_zero = entries 0 (omega arith) ∙ rw (tails.at_zero, others.at_zero) (+ℤ_invr (pos units_of_certainty));
  between = λ k l. rw (entries k l) (tails_between tails others k);
  near = λ k l. within_weaken most (tails_near tails others k);
  total = less_at_most_trans (tails_total_near tails others as_many same some _ (λ i l. entries (suc i) l)) (times_mono at_most_refl most);
}

-- The answer to a claimed column, from bounds that enclose the chances; and what it means, where no ground refuses by a number.
module _ {g : ℕ} {r : Chances} {c : Side → ℕ → Kept} (enclosed : RowEnclosed g r c) where
  pub chances_ordered : (k : ℕ) → k ≤ r.assets → AtMost (value (c Low k)) (value (c High k))
  chances_ordered k l = at_most_trans (enclosed.chances l).from_below (enclosed.chances l).from_above

  pub verdict_holds : {claims : List ℕ} {verdict : VerdictAnswer} → verdict ≡ verdict_on r.assets c claims → HoldsVerdict r c claims verdict
  verdict_holds {claims} is =
      let near : (k : ℕ) → k ≤ r.assets → AtMostApart half (integer (get_or claims k 0)) (exact_units (chance r k)) → RowPasses c claims k = λ k l.
      near_passes (enclosed.chances l).from_below (enclosed.chances l).from_above in
      record {
        near_row = near;
        near_column = λ every. is ∙ every_passes r.assets c claims (λ k l. near k l (every k l));
        rounded_column = λ side rounded.
            is ∙ every_passes r.assets c claims (λ k l. near k l (rw (rounded k l) (nearest_near (side k) (exact_units (chance r k)))));
        passed_row = λ k l passed. passed_near (enclosed.chances l).from_below (enclosed.chances l).from_above passed;
      }
