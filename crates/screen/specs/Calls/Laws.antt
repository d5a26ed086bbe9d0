-- What the calls of the screen promise: where it refuses by 1 or 11, and where it hands over to the library.
-- Assumes nothing.
use Rattle.std.specs.Prelude.{ℕ, ◌≡◌, List, [], ◌∷◌, take, replicate}
use Rattle.std.proofs.Common.{sym, ap}
use Rattle.steps.specs.declared.Tranche.{Tranche}
use Rattle.steps.specs.Loss.{LossAnswer, untouched}
use Rattle.steps.specs.Tranches.{tranche_places}
use Rattle.steps.specs.Inputs.{largest_pool, distance_for, screen_pool}
use Rattle.steps.proofs.CorrelatedBinomial.Theorems.{screen_budgets}
use Rattle.grounds.specs.Grounds.{first_ground, assets_ground, screen_ground, screen_column_grounds, screened, screen_loss_grounds}
use Rattle.grounds.specs.Grounds.Laws.{loss_grounds_within, column_starts, loss_starts, screens, screens_at, screens_within, screen_refused, screen_within}
use Rattle.steps.specs.declared.Pool.{Pool}
use Rattle.store.specs.Stores.{Store}
use Rattle.pool.specs.Calls.{column_refusal, Prints, loss_refusal, Replies}
use Rattle.pool.specs.Calls.Laws.{prints_untouched, replies_untouched, replies_once, prints_apart, replies_apart}
use Rattle.screen.specs.Calls.{screen_column_refusal, ScreenPrints, screen_loss_refusal, ScreenReplies}

-- What `screen_refusal` gives.
abbrev first_two : Pool → ℕ
first_two pool = first_ground (assets_ground largest_pool pool.assets ∷ screen_ground screen_pool pool.assets ∷ [])

-- ---- column

module _ {pool head : Pool} {before : Store} {units : List ℕ} {r : ℕ} (is : r ≡ first_two pool) where
  pub column_refused : (r ≡ 0 → ⊥) → ScreenPrints pool head before before units units r head
  unfolding column_refusal screen_column_refusal screen_column_grounds
  column_refused some =
      let starts = column_starts largest_pool _ _ _ _ _ in
      let own = screen_refused screen_pool starts is some in
      let screened = screens_at own (screens screen_pool starts) in
      record { own = prints_untouched some own; screens = screened; library = λ not. prints_untouched some (screened.otherwise not) }

  pub column_handed_over : {after : Store} {units' : List ℕ} {refusal : ℕ} {head' : Pool} → r ≡ 0
      → Prints column_refusal distance_for pool head before after units units' refusal head' → ScreenPrints pool head before after units units' refusal head'
  unfolding column_refusal screen_column_refusal screen_column_grounds
  column_handed_over none library =
      let within = screen_within largest_pool screen_pool pool.assets is none in
      let lists = screens screen_pool (column_starts largest_pool _ _ _ _ _) in
      let own = prints_apart (screen_budgets within) (sym (screens_within within lists)) library in
      record { own = own; screens = screens_at own.fills.refusal_is lists; library = λ _. library }

-- ---- losses

module _ {pool head : Pool} {tranches : List Tranche} {count : ℕ} {before : Store} {r : ℕ} (is : r ≡ first_two pool) where
  pub losses_refused : {losses : List LossAnswer} → (r ≡ 0 → ⊥) → losses ≡ replicate tranche_places untouched
      → ScreenReplies pool head tranches count before before r head losses
  unfolding loss_refusal screen_loss_refusal screen_loss_grounds
  losses_refused some are =
      let starts = loss_starts largest_pool _ _ _ _ _ _ in
      let own = screen_refused screen_pool starts is some in
      let screened = screens_at own (screens screen_pool starts) in
      record { own = replies_untouched some own are; screens = screened; library = λ not. replies_untouched some (screened.otherwise not) are }

  pub losses_handed_over : {after : Store} {refusal : ℕ} {head' : Pool} {losses : List LossAnswer} → r ≡ 0
      → Replies loss_refusal distance_for pool head tranches count before after refusal head' losses → ScreenReplies pool head tranches count before after refusal head' losses
  unfolding loss_refusal screen_loss_refusal screen_loss_grounds
  losses_handed_over none library =
      let within = screen_within largest_pool screen_pool pool.assets is none in
      let lists = screens screen_pool (loss_starts largest_pool _ _ _ _ _ _) in
      let own = replies_apart (screen_budgets within) (sym (screens_within within lists)) library in
      record { own = own; screens = screens_at own.fills.refusal_is lists; library = λ _. library }

-- The records past the count play no part.
pub screen_replies_alone : {pool head head₁ head₂ : Pool} {before after after' : Store} {tranches tranches' : List Tranche} {count refusal refusal' : ℕ} {losses losses' : List LossAnswer}
    → take count tranches ≡ take count tranches' → ScreenReplies pool head tranches count before after refusal head₁ losses
    → ScreenReplies pool head tranches' count before after' refusal' head₂ losses' → (refusal ≡ refusal') × (after ≡ after') × (losses ≡ losses') × (head₁ ≡ head₂)
unfolding screen_loss_refusal screen_loss_grounds
screen_replies_alone {pool} alike one other =
    replies_once alike (ap (λ gs. first_ground (screened screen_pool pool.assets gs)) (loss_grounds_within _ _ _ _ _ _ _ _ alike)) one.own other.own
