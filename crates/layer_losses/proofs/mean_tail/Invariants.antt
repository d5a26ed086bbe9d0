-- At the loop's head as many tails of the layer are added as were looked at.
use Rattle.layer_losses.specs.Layer.Laws.{MeanBelow}
use Rattle.layer_losses.proofs.mean_tail.Given as goal

abbrev pub invariant-loop-tail : goal.invariant-loop-tail
invariant-loop-tail l = MeanBelow l.side l.fn.tails l.i l.j l.tail-index l.total
