-- At the loop's head the printed tails below k are stored.
use Rattle.chances.specs.Tails.Laws.{PrintedBelow}
use Rattle.chances.proofs.tails.printed_tails.Given as goal

abbrev pub invariant-loop-k : goal.invariant-loop-k
invariant-loop-k l = PrintedBelow l.n l.k l.tails l.printed
