-- What the call for a shift list promises.
-- Assumes nothing.
use Rattle.std.specs.Prelude.{ℕ, ◌≡◌, List, ℤ, length}
use Rattle.model.specs.CorrelatedBinomial.{defaults}
use Rattle.kept.specs.declared.Side.TheVariants.{Low}
use Rattle.steps.specs.Column.{tenths}
use Rattle.steps.specs.Shifts.{tail_shift}
use Rattle.steps.specs.CorrelatedBinomial.{kept_defaults}
use Rattle.steps.specs.CorrelatedBinomial.Exponents.{PoolNumber}
use Rattle.steps.specs.Inputs.{report_pool, distance_for, shift_tenths}
use Rattle.steps.specs.Promises.{HoldsSteps, HoldsShifts}
use Rattle.working.specs.Slices.{entries_after}
use Rattle.grounds.specs.Grounds.{first_ground, shift_grounds}
use Rattle.steps.specs.declared.Pool.{Pool}
use Rattle.store.specs.Stores.{Store, lengths}
use Rattle.store.specs.Calls.{Fills}
pub mod Laws

unfoldable pub shift_refusal : Pool → Store → List ℤ → ℕ
shift_refusal pool s shifts =
    first_ground (shift_grounds report_pool pool.assets pool.probability pool.correlation (lengths s) (length shifts))

-- The store is that of the pool. Entry k of the list is the printed tail at k less that of the same pool at correlation 0.
pub record ListsShifts (pool head : Pool) (before after : Store) (shifts shifts' : List ℤ) (refusal : ℕ) (head' : Pool) : Type 0 where
  pub fills : Fills (shift_refusal pool before shifts) distance_for pool head before after refusal head'
  -- What the steps make of the pool at correlation 0, which stands in no slice.
  pub uncorrelated_hold : refusal ≡ 0
      → HoldsSteps (distance_for pool.assets) (defaults pool.assets pool.probability 0) (λ side. kept_defaults side pool.assets pool.probability 0)
      (λ side. PoolNumber side pool.assets pool.probability 0)
  pub shifts_are : shifts'
      ≡ entries_after pool.assets
      (tail_shift pool.assets (kept_defaults Low pool.assets pool.probability pool.correlation) (kept_defaults Low pool.assets pool.probability 0))
      refusal shifts
  pub holds_shifts : refusal ≡ 0
      → HoldsShifts (tenths shift_tenths) (defaults pool.assets pool.probability pool.correlation) (defaults pool.assets pool.probability 0)
      (kept_defaults Low pool.assets pool.probability pool.correlation) (kept_defaults Low pool.assets pool.probability 0) shifts'
