-- `differences::write_differences` meets its contract.
use Rattle.std.proofs.Common.{pos, arith}
use Rattle.steps.specs.Inputs.{working_assets}
use Rattle.working.proofs.Slices.Laws.{changed_entries}
use Rattle.shift.proofs.differences.write_differences.Goals as goal

pub bounds-printed-k : goal.bounds-printed-k
unfolding working_assets
bounds-printed-k c = omega arith

pub bounds-base-k : goal.bounds-base-k
unfolding working_assets
bounds-base-k c = omega arith

pub returns : goal.returns
returns c = changed_entries (pos 0) _ c.loop-k.invariant (omega arith) (omega arith)
