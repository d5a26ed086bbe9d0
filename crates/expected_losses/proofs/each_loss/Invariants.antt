-- At the loop's head the losses of the first i tranches stand at their places.
use Rattle.expected_losses.specs.Loss.Laws.{LossesBelow}
use Rattle.expected_losses.proofs.each_loss.Given as goal

abbrev pub invariant-loop-i : goal.invariant-loop-i
invariant-loop-i l = LossesBelow l.n l.chances.low l.chances.high l.tranches l.i l.losses
