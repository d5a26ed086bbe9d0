-- At the loop's head the chances of fewer than j defaults are made.
use Rattle.chances.specs.Chances.Laws.{ChancesBelow}
use Rattle.chances.proofs.chances.Given as goal

abbrev pub invariant-loop-j : goal.invariant-loop-j
invariant-loop-j l = ChancesBelow l.side l.n l.j l.row l.orders l.chances
