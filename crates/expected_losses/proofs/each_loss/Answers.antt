-- `each_loss` meets its contract.
use Rattle.std.proofs.Common.{arith}
use Rattle.expected_losses.specs.Loss.Laws.{losses_none, loss_more}
use Rattle.expected_losses.proofs.each_loss.Goals as goal

pub loop-i-init : goal.loop-i-init
loop-i-init c = losses_none _ c.requires c.untouched-losses.ensures

pub loop-i-preserved : goal.loop-i-preserved
loop-i-preserved c = loss_more c.loop-i.invariant (omega arith) _ _ c.tranche_loss.ensures
