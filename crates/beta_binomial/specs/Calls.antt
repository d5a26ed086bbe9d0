-- What the calls of the beta-binomial model promise. The exact value of P(j,n) is the closed form with the correlation ρ / (1 + iρ) after i defaults.
-- Assumes nothing.
use Rattle.std.specs.Prelude.{ℕ, ◌≤◌, ◌≡◌, List, length, take}
use Rattle.model.specs.BetaBinomial.{beta_probability, beta_defaults}
use Rattle.kept.specs.declared.Side.TheVariants.{Low, High}
use Rattle.steps.specs.BetaBinomial.{kept_entry, kept_beta_defaults, BetaNumber}
use Rattle.steps.specs.Column.{tenths}
use Rattle.steps.specs.Enclosure.{Enclosed}
use Rattle.steps.specs.declared.Tranche.{Tranche}
use Rattle.steps.specs.Loss.{LossAnswer}
use Rattle.steps.specs.Inputs.{largest_pool, distance_for, tenths_for}
use Rattle.steps.specs.Promises.{HoldsSteps}
use Rattle.grounds.specs.Grounds.{first_ground, beta_column_grounds, beta_loss_grounds}
use Rattle.steps.specs.declared.Pool.{Pool}
use Rattle.pool.specs.Calls.{PrintsRow, RepliesLosses}
pub mod Laws
pub mod Demands

-- What holds of all that an accepted call makes for the pool: the bounds of P(0,n) to P(n,n), of every chance, tail and tranche loss, and every exponent.
pub record HoldsBeta (n p ρ : ℕ) : Type 0 where
  pub entries : (j : ℕ) → j ≤ n → Enclosed (distance_for n) (kept_entry Low n p ρ j) (kept_entry High n p ρ j) (beta_probability p ρ j n)
  pub steps_hold : HoldsSteps (distance_for n) (beta_defaults n p ρ) (λ side. kept_beta_defaults side n p ρ) (λ side. BetaNumber side n p ρ)

-- ---- column

unfoldable pub beta_column_refusal : Pool → List ℕ → ℕ
beta_column_refusal pool units = first_ground (beta_column_grounds largest_pool pool.assets pool.probability pool.correlation (length units))

pub record BetaPrints (pool : Pool) (units units' : List ℕ) (refusal : ℕ) : Type 0 where
  pub refusal_is : refusal ≡ beta_column_refusal pool units
  pub holds : refusal ≡ 0 → HoldsBeta pool.assets pool.probability pool.correlation
  pub prints : PrintsRow (tenths (tenths_for pool.assets)) (beta_defaults pool.assets pool.probability pool.correlation)
      (kept_beta_defaults Low pool.assets pool.probability pool.correlation) units units' refusal

-- ---- losses

unfoldable pub beta_loss_refusal : Pool → List Tranche → ℕ → ℕ
beta_loss_refusal pool tranches count =
    first_ground (beta_loss_grounds largest_pool pool.assets pool.probability pool.correlation tranches count)

pub record BetaReplies (pool : Pool) (tranches : List Tranche) (count refusal : ℕ) (losses : List LossAnswer) : Type 0 where
  pub refusal_is : refusal ≡ beta_loss_refusal pool tranches count
  pub holds : refusal ≡ 0 → HoldsBeta pool.assets pool.probability pool.correlation
  pub replies : RepliesLosses (distance_for pool.assets) pool.probability (beta_defaults pool.assets pool.probability pool.correlation)
      (λ side. kept_beta_defaults side pool.assets pool.probability pool.correlation) (take count tranches) refusal losses
