-- At the loop's head the tails at j and past it are stored, and the total is the first of them.
use Rattle.chances.specs.Tails.Laws.{TailsFrom}
use Rattle.chances.proofs.tails.tails.Given as goal

abbrev pub invariant-loop-j : goal.invariant-loop-j
invariant-loop-j l = TailsFrom l.side l.n l.j l.chances l.total l.tails
