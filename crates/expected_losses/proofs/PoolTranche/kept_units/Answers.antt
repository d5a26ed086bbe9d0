-- `PoolTranche::kept_units` meets its contract.
use Rattle.std.proofs.Common.{arith}
use Rattle.expected_losses.specs.Loss.Laws.{units_more, units_all}
use Rattle.expected_losses.proofs.PoolTranche.kept_units.Goals as goal

pub loop-x-preserved : goal.loop-x-preserved
loop-x-preserved c = units_more c.loop-x.invariant (omega arith) c.loss_units-units.ensures c.from_integer.ensures

pub returns-2 : goal.returns-2
returns-2 c = units_all (units_more c.loop-x.invariant (omega arith) c.loss_units-units.ensures c.from_integer.ensures) (omega arith)
