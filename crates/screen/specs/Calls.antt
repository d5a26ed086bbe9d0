-- What the calls of the quote screen promise.
-- Assumes nothing.
use Rattle.std.specs.Prelude.{ℕ, ◌≡◌, List, length}
use Rattle.steps.specs.declared.Tranche.{Tranche}
use Rattle.steps.specs.Loss.{LossAnswer}
use Rattle.steps.specs.Inputs.{largest_pool, distance_for, screen_pool, screen_distance}
use Rattle.grounds.specs.Grounds.{first_ground, screen_column_grounds, screen_loss_grounds, Screens}
use Rattle.steps.specs.declared.Pool.{Pool}
use Rattle.store.specs.Stores.{Store, lengths}
use Rattle.pool.specs.Calls.{column_refusal, Prints, loss_refusal, Replies}
pub mod Laws

-- ---- column

unfoldable pub screen_column_refusal : Pool → Store → List ℕ → ℕ
screen_column_refusal pool s units =
    first_ground (screen_column_grounds largest_pool screen_pool pool.assets pool.probability pool.correlation (lengths s) (length units))

-- What a column call promises, by the screen's own list and distance; and save where the screen refuses by 11, what the library's call promises for the same inputs:
-- the refusal, the store and the column are those of its definitions.
pub record ScreenPrints (pool head : Pool) (before after : Store) (units units' : List ℕ) (refusal : ℕ) (head' : Pool) : Type 0 where
  pub own : Prints screen_column_refusal screen_distance pool head before after units units' refusal head'
  pub screens : Screens largest_pool screen_pool pool.assets (column_refusal pool before units) refusal
  pub library : (refusal ≡ 11 → ⊥) → Prints column_refusal distance_for pool head before after units units' refusal head'

-- ---- losses

unfoldable pub screen_loss_refusal : Pool → List Tranche → ℕ → Store → ℕ
screen_loss_refusal pool tranches count s =
    first_ground (screen_loss_grounds largest_pool screen_pool pool.assets pool.probability pool.correlation tranches count (lengths s))

-- The same of a loss call.
pub record ScreenReplies (pool head : Pool) (tranches : List Tranche) (count : ℕ) (before after : Store) (refusal : ℕ) (head' : Pool) (losses : List LossAnswer)
    : Type 0 where
  pub own : Replies screen_loss_refusal screen_distance pool head tranches count before after refusal head' losses
  pub screens : Screens largest_pool screen_pool pool.assets (loss_refusal pool tranches count before) refusal
  pub library : (refusal ≡ 11 → ⊥) → Replies loss_refusal distance_for pool head tranches count before after refusal head' losses
