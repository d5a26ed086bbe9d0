-- What the calls on a pool promise, from what the steps give; what an accepted call's inputs give the functions below it; that a contract leaves one outcome, and
-- what else holds of that outcome by other refusals and at another distance.
-- Assumes nothing.
use Rattle.std.specs.Prelude.{ℕ, suc, ◌<◌, ◌≡◌, refl, List, take, replicate}
use Rattle.std.proofs.Common.{ap, ◌∙◌, le_refl}
use Rattle.model.specs.Fraction.{Fraction}
use Rattle.model.specs.Chances.{Chances}
use Rattle.model.specs.CorrelatedBinomial.{defaults}
use Rattle.kept.specs.declared.Kept.{Kept}
use Rattle.kept.specs.declared.Side.{Side}
use Rattle.kept.specs.declared.Side.TheVariants.{Low}
use Rattle.steps.specs.Column.{printed_tail, printed_row, PrintsColumn}
use Rattle.steps.specs.declared.Tranche.{Tranche}
use Rattle.steps.specs.Loss.{LossAnswer, untouched}
use Rattle.steps.specs.Tranches.{tranche_places, tranche_losses, losses_after}
use Rattle.steps.proofs.Tranches.Laws.{losses_untouched, losses_accepted}
use Rattle.steps.specs.Layers.{loss_of_layer, layer_after}
use Rattle.steps.proofs.Layers.Laws.{layer_untouched}
use Rattle.steps.specs.Inputs.{largest_pool, InRange, LayerInRange}
use Rattle.steps.proofs.Inputs.Laws.{working_range}
use Rattle.steps.specs.Promises.{HoldsLosses, HoldsLayer}
use Rattle.steps.proofs.Promises.Laws.{column_holds}
use Rattle.steps.specs.CorrelatedBinomial.Budgets.{defaults_budget, pool_budget, BudgetsFor}
use Rattle.steps.specs.CorrelatedBinomial.Rows.{kept_row}
use Rattle.steps.proofs.CorrelatedBinomial.Theorems.{within, placed, pool_budgets, answers}
use Rattle.working.specs.Working.{working_places, Entries}
use Rattle.working.specs.Slices.{entries_after}
use Rattle.working.proofs.Slices.Laws.{entries_at, entries_untouched}
use Rattle.chances.specs.Tails.{ColumnReady}
use Rattle.chances.specs.Chances.{OnSides}
use Rattle.expected_losses.specs.Loss.{TranchesReady}
use Rattle.chances.specs.Chances.Ready.{column_ready}
use Rattle.expected_losses.specs.Loss.Ready.{tranches_ready}
use Rattle.layer_losses.specs.Layer.{LayerReady}
use Rattle.layer_losses.specs.Layer.Ready.{layer_ready}
use Rattle.grounds.specs.Grounds.{first_ground, TranchesAccepted}
use Rattle.grounds.specs.Grounds.Laws.{loss_accepted, loss_grounds_within}
use Rattle.steps.specs.declared.Pool.{Pool}
use Rattle.store.specs.Stores.{Store}
use Rattle.store.proofs.Calls.Laws.{fills_untouched, fills_once, fills_apart}
use Rattle.pool.specs.Calls.{PrintsRow, RepliesLosses, RepliesLayer, column_refusal, Prints, loss_refusal, Replies, layer_refusal, LayerReplies}

-- ---- a row of chances in general

module _ {off : Fraction} {r : Chances} {low : ℕ → Kept} where
  -- A refused call, and one that prints.
  pub row_untouched : {units : List ℕ} {refusal : ℕ} → (refusal ≡ 0 → ⊥) → PrintsRow off r low units units refusal
  row_untouched some = record { units_are = entries_untouched _ _ _ _ some; holds_column = λ none. absurd (some none) }

  pub row_printed : (units : List ℕ) {units' : List ℕ} → PrintsColumn off r (printed_tail r.assets low) (printed_row r.assets low)
      → units' ≡ entries_after r.assets (printed_row r.assets low) 0 units → PrintsRow off r low units units' 0
  row_printed units column is = record {
    units_are = is;
    holds_column = λ _. column_holds column (entries_at r.assets (printed_row r.assets low) units is refl 0);
  }

  -- What meets the contract for the same inputs is the same.
  pub row_once : {units left left' : List ℕ} {refusal refusal' : ℕ} → refusal ≡ refusal' → PrintsRow off r low units left refusal
      → PrintsRow off r low units left' refusal' → left ≡ left'
  row_once same one other = rw (one.units_are, other.units_are, same) refl

module _ {r : Chances} {c : Side → ℕ → Kept} where
  pub reply_refused : {g p refusal : ℕ} {ts : List Tranche} {losses : List LossAnswer} → (refusal ≡ 0 → ⊥) → losses ≡ replicate tranche_places untouched
      → RepliesLosses g p r c ts refusal losses
  reply_refused some are = record { losses_are = are ∙ losses_untouched _ _ _ _ some; holds_losses = λ none. absurd (some none) }

  pub reply_answered : {g p : ℕ} {ts : List Tranche} {losses : List LossAnswer} → losses ≡ tranche_losses r.assets c ts → HoldsLosses g p r c ts losses
      → RepliesLosses g p r c ts 0 losses
  unfolding losses_after
  reply_answered are holds = record { losses_are = are; holds_losses = λ _. holds }

  layer_refused : {g i j refusal : ℕ} {loss : LossAnswer} → (refusal ≡ 0 → ⊥) → loss ≡ untouched → RepliesLayer g r c i j refusal loss
  layer_refused some is = record { loss_is = is ∙ layer_untouched _ _ _ _ _ some; holds_loss = λ none. absurd (some none) }

  pub layer_replied : {g i j : ℕ} {loss : LossAnswer} → loss ≡ loss_of_layer r.assets c i j → HoldsLayer g r c i j loss → RepliesLayer g r c i j 0 loss
  unfolding layer_after
  layer_replied is holds = record { loss_is = is; holds_loss = λ _. holds }

  -- The losses depend on the tranches within the count alone.
  pub reply_once : {f g p refusal refusal' : ℕ} {ts ts' : List Tranche} {losses losses' : List LossAnswer} → ts ≡ ts' → refusal ≡ refusal'
      → RepliesLosses f p r c ts refusal losses → RepliesLosses g p r c ts' refusal' losses' → losses ≡ losses'
  reply_once alike same one other = rw (one.losses_are, other.losses_are, same, alike) refl

-- ---- for the pools of the calls

module _ {n p ρ : ℕ} (range : InRange largest_pool n p ρ) where
  pub column_is_ready : {row : List Kept} → Entries working_places (suc n) row (kept_row Low p ρ n) → ColumnReady n row
  unfolding defaults
  column_is_ready last = column_ready (within range) (placed range) (working_range range).assets last

  pub tranches_are_ready : {ts : List Tranche} {count : ℕ} {low high : List Kept} → 0 < n → TranchesAccepted ts count
      → OnSides n low high (λ side. kept_row side p ρ n) → TranchesReady n low high ts count
  unfolding defaults pool_budget defaults_budget
  tranches_are_ready not_empty accepted rows =
      tranches_ready (within range) (placed range) (working_range range).assets ((pool_budgets range.assets).budget (le_refl n)) rows not_empty
      accepted.places accepted.tranches

  pub layer_is_ready : {low high : List Kept} (i j : ℕ) → LayerInRange n i j → OnSides n low high (λ side. kept_row side p ρ n) → LayerReady n low high i j
  unfolding defaults pool_budget defaults_budget
  layer_is_ready i j layer rows =
      layer_ready (within range) (placed range) (working_range range).assets ((pool_budgets range.assets).budget (le_refl n)) rows i j layer

-- ---- a refused call

module _ {g : ℕ → ℕ} {pool head : Pool} {before : Store} {refusal : ℕ} (some : refusal ≡ 0 → ⊥) where
  pub prints_untouched : {refuses : Pool → Store → List ℕ → ℕ} {units : List ℕ} → refusal ≡ refuses pool before units
      → Prints refuses g pool head before before units units refusal head
  prints_untouched is = record { fills = fills_untouched some is; prints = row_untouched some }

  pub replies_untouched : {refuses : Pool → List Tranche → ℕ → Store → ℕ} {tranches : List Tranche} {count : ℕ} {losses : List LossAnswer}
      → refusal ≡ refuses pool tranches count before → losses ≡ replicate tranche_places untouched
      → Replies refuses g pool head tranches count before before refusal head losses
  replies_untouched is are = record { fills = fills_untouched some is; replies = reply_refused some are }

pub layer_replies_untouched : {pool head : Pool} {i j : ℕ} {before : Store} {refusal : ℕ} {loss : LossAnswer} → (refusal ≡ 0 → ⊥)
    → refusal ≡ layer_refusal pool i j before → loss ≡ untouched → LayerReplies pool head i j before before refusal head loss
layer_replies_untouched some is untouched_is = record { fills = fills_untouched some is; replies = layer_refused some untouched_is }

-- ---- one outcome

-- What meets the contract for the same inputs is the same, at whatever distances.
module _ {f g : ℕ → ℕ} {pool head head₁ head₂ : Pool} {before after after' : Store} {refusal refusal' : ℕ} where
  pub prints_once : {refuses : Pool → Store → List ℕ → ℕ} {units left left' : List ℕ} → Prints refuses f pool head before after units left refusal head₁
      → Prints refuses g pool head before after' units left' refusal' head₂ → (refusal ≡ refusal') × (after ≡ after') × (left ≡ left') × (head₁ ≡ head₂)
  prints_once one other =
      let same = fills_once refl one.fills other.fills in
      (same.0, same.1, row_once same.0 one.prints other.prints, same.2)

  -- Whatever records stand past the count, where the list that refuses does not look at them.
  pub replies_once : {refuses : Pool → List Tranche → ℕ → Store → ℕ} {tranches tranches' : List Tranche} {count : ℕ} {losses losses' : List LossAnswer}
      → take count tranches ≡ take count tranches' → refuses pool tranches count before ≡ refuses pool tranches' count before
      → Replies refuses f pool head tranches count before after refusal head₁ losses → Replies refuses g pool head tranches' count before after' refusal' head₂ losses'
      → (refusal ≡ refusal') × (after ≡ after') × (losses ≡ losses') × (head₁ ≡ head₂)
  replies_once alike alone one other =
      let same = fills_once alone one.fills other.fills in
      (same.0, same.1, reply_once alike same.0 one.replies other.replies, same.2)

-- The records past the count play no part.
pub replies_alone : {f g : ℕ → ℕ} {pool head head₁ head₂ : Pool} {before after after' : Store} {tranches tranches' : List Tranche} {count refusal refusal' : ℕ}
    {losses losses' : List LossAnswer} → take count tranches ≡ take count tranches'
    → Replies loss_refusal f pool head tranches count before after refusal head₁ losses → Replies loss_refusal g pool head tranches' count before after' refusal' head₂ losses'
    → (refusal ≡ refusal') × (after ≡ after') × (losses ≡ losses') × (head₁ ≡ head₂)
unfolding loss_refusal
replies_alone alike = replies_once alike (ap first_ground (loss_grounds_within _ _ _ _ _ _ _ _ alike))

-- ---- what the library's calls leave, by another list that gives the same number, at another distance

module _ {f g : ℕ → ℕ} {pool head head' : Pool} {before after : Store} {refusal : ℕ} (budgets : BudgetsFor g pool.assets) where
  pub prints_apart : {refuses : Pool → Store → List ℕ → ℕ} {units units' : List ℕ} → column_refusal pool before units ≡ refuses pool before units
      → Prints column_refusal f pool head before after units units' refusal head' → Prints refuses g pool head before after units units' refusal head'
  prints_apart same prints = record { fills = fills_apart budgets same prints.fills; prints = prints.prints }

  pub replies_apart : {refuses : Pool → List Tranche → ℕ → Store → ℕ} {tranches : List Tranche} {count : ℕ} {losses : List LossAnswer}
      → loss_refusal pool tranches count before ≡ refuses pool tranches count before
      → Replies loss_refusal f pool head tranches count before after refusal head' losses → Replies refuses g pool head tranches count before after refusal head' losses
  unfolding defaults loss_refusal
  replies_apart same replies =
      let accepted = loss_accepted largest_pool _ _ _ _ _ _ replies.fills.refusal_is in
      let are = replies.replies.losses_are in
      record {
        fills = fills_apart budgets same replies.fills;
        replies = record {
          losses_are = are;
          holds_losses = λ none.
              let pool = (accepted none).fill.pool in
              answers pool.range budgets pool.not_empty (accepted none).tranches.tranches (losses_accepted _ _ _ none are);
        };
      }
