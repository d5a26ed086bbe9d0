-- What the call that checks a claimed column promises.
-- Assumes nothing.
use Rattle.std.specs.Prelude.{ℕ, ◌≡◌, List}
use Rattle.model.specs.Chances.{Chances}
use Rattle.model.specs.CorrelatedBinomial.{defaults}
use Rattle.kept.specs.declared.Kept.{Kept}
use Rattle.kept.specs.declared.Side.{Side}
use Rattle.steps.specs.Claims.{refusal_in, verdict_after, Means, VerdictAnswer}
use Rattle.steps.specs.CorrelatedBinomial.{kept_defaults}
use Rattle.steps.specs.Inputs.{distance_for}
use Rattle.steps.specs.Promises.{HoldsVerdict}
use Rattle.steps.specs.declared.Pool.{Pool}
use Rattle.store.specs.Stores.{Store}
use Rattle.store.specs.Calls.{Fills}
use Rattle.pool.specs.Calls.{column_refusal}
pub mod Laws

-- What a check answers, of a row of chances in general, by the number that its grounds give: r is the exact row, c the kept chances of both sides. With what the answer means,
-- and what holds of it.
pub record ChecksRow (r : Chances) (c : Side → ℕ → Kept) (claims : List ℕ) (number : ℕ) (verdict : VerdictAnswer) : Type 0 where
  pub verdict_is : verdict ≡ verdict_after r.assets c claims number
  pub means : Means r.assets c claims number verdict
  pub holds_verdict : number ≡ 0 → HoldsVerdict r c claims verdict

-- The grounds are those of a column call whose slice is the claim.
pub record Checks (pool head : Pool) (claims : List ℕ) (before after : Store) (verdict : VerdictAnswer) (head' : Pool) : Type 0 where
  pub fills : Fills (column_refusal pool before claims) distance_for pool head before after (refusal_in verdict) head'
  pub checks : ChecksRow (defaults pool.assets pool.probability pool.correlation)
      (λ side. kept_defaults side pool.assets pool.probability pool.correlation) claims (column_refusal pool before claims) verdict
