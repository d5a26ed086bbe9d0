-- `Numbers::row` meets its contract.
use Rattle.std.proofs.Common.{arith}
use Rattle.std.proofs.Math.ListN.{length-replicate}
use Rattle.kept.specs.Rounding.{nought}
use Rattle.steps.specs.Inputs.{working_assets}
use Rattle.working.specs.Working.{working_places}
use Rattle.working.specs.Working.Laws.{changed_none}
use Rattle.working.proofs.Numbers.row.Goals as goal

pub loop-j-init : goal.loop-j-init
unfolding working_places working_assets
loop-j-init c = rw c.zero-zero.ensures (changed_none (length-replicate working_places nought))

pub bounds-row-j : goal.bounds-row-j
unfolding working_places working_assets
bounds-row-j c = omega arith
