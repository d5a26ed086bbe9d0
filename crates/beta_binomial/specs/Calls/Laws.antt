-- What the calls of the beta-binomial model promise, from what the steps give; what an accepted call's inputs give the functions below it.
-- Assumes nothing.
use Rattle.std.specs.Prelude.{ℕ, suc, ◌<◌, ◌≡◌, List, take}
use Rattle.std.proofs.Common.{sym, ap, ◌∙◌}
use Rattle.model.specs.Fraction.{whole}
use Rattle.model.specs.BetaBinomial.{quotient_defaults}
use Rattle.kept.specs.declared.Kept.{Kept}
use Rattle.kept.specs.declared.Side.TheVariants.{Low}
use Rattle.steps.specs.BetaBinomial.{kept_entry}
use Rattle.steps.proofs.BetaBinomial.Theorems.{products_within, products_placed, beta_budget, beta_entries, beta_steps_hold}
use Rattle.steps.specs.declared.Tranche.{Tranche}
use Rattle.steps.specs.Loss.{LossAnswer}
use Rattle.steps.specs.Inputs.{largest_pool, InRange}
use Rattle.steps.proofs.Inputs.Laws.{working_range}
use Rattle.working.specs.Working.{working_places, Entries}
use Rattle.grounds.specs.Grounds.{first_ground, TranchesAccepted}
use Rattle.grounds.specs.Grounds.Laws.{beta_loss_grounds_within}
use Rattle.chances.specs.Tails.{ColumnReady}
use Rattle.chances.specs.Chances.{OnSides}
use Rattle.expected_losses.specs.Loss.{TranchesReady}
use Rattle.chances.specs.Chances.Ready.{column_ready}
use Rattle.expected_losses.specs.Loss.Ready.{tranches_ready}
use Rattle.steps.specs.declared.Pool.{Pool}
use Rattle.pool.specs.Calls.Laws.{reply_once}
use Rattle.beta_binomial.specs.Calls.{HoldsBeta, beta_loss_refusal, BetaReplies}

module _ {n p ρ : ℕ} (range : InRange largest_pool n p ρ) (below : ρ < whole) where
  pub column_is_ready : {row : List Kept} → Entries working_places (suc n) row (kept_entry Low n p ρ) → ColumnReady n row
  unfolding quotient_defaults
  column_is_ready row = column_ready (products_within range below) (products_placed range below) (working_range range).assets row

  pub tranches_are_ready : {ts : List Tranche} {count : ℕ} {low high : List Kept} → 0 < n → TranchesAccepted ts count
      → OnSides n low high (λ side. kept_entry side n p ρ) → TranchesReady n low high ts count
  unfolding quotient_defaults
  tranches_are_ready not_empty accepted rows =
      tranches_ready (products_within range below) (products_placed range below) (working_range range).assets (beta_budget range below) rows not_empty
      accepted.places accepted.tranches

  pub holds_beta : HoldsBeta n p ρ
  holds_beta = record { entries = λ j l. beta_entries range below l; steps_hold = beta_steps_hold range below }

-- The records past the count play no part.
pub beta_replies_alone : {pool : Pool} {tranches tranches' : List Tranche} {count refusal refusal' : ℕ} {losses losses' : List LossAnswer}
    → take count tranches ≡ take count tranches' → BetaReplies pool tranches count refusal losses → BetaReplies pool tranches' count refusal' losses'
    → (refusal ≡ refusal') × (losses ≡ losses')
unfolding beta_loss_refusal
beta_replies_alone alike one other =
    let same = one.refusal_is ∙ ap first_ground (beta_loss_grounds_within _ _ _ _ _ _ _ alike) ∙ sym other.refusal_is in
    (same, reply_once alike same one.replies other.replies)
