-- At the loop's head the rows below k pass.
use Rattle.claims.specs.Check.Laws.{RowsBelow}
use Rattle.claims.proofs.first_to_fail.Given as goal

abbrev pub invariant-loop-k : goal.invariant-loop-k
invariant-loop-k l = RowsBelow l.n l.chances.low l.chances.high l.claims l.k
