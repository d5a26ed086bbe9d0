-- At the loop's head the terms of fewer than x defaults are added.
use Rattle.expected_losses.specs.Loss.Laws.{LossBelow}
use Rattle.expected_losses.proofs.PoolTranche.expected_loss.Given as goal

abbrev pub invariant-loop-x : goal.invariant-loop-x
invariant-loop-x l = LossBelow l.side l.self.assets l.chances l.units l.self.tranche l.x l.total
