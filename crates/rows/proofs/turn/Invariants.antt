-- At the loop's head j entries of row k + 1 are put.
use Rattle.working.specs.Lent.{numbers, numbers_mut, SameSlices}
use Rattle.rows.specs.Turns.{Turned}
use Rattle.rows.proofs.turn.Given as goal

abbrev pub invariant-loop-j : goal.invariant-loop-j
invariant-loop-j l =
    SameSlices l.initial.rows l.rows
    × Turned l.side l.k l.j l.from l.to l.step (numbers l.weights) (numbers_mut l.initial.rows) (numbers_mut l.rows)
