-- At the loop's head the weights below j are put.
use Rattle.working.specs.Lent.{numbers_mut, SameSlices}
use Rattle.rows.specs.Turns.Laws.{Weighing}
use Rattle.rows.proofs.weights.Given as goal

abbrev pub invariant-loop-j : goal.invariant-loop-j
invariant-loop-j l =
    SameSlices l.fn.numbers l.numbers
    × Weighing l.side l.fn.pool.assets l.fn.pool.probability l.fn.pool.correlation l.j l.a l.q l.power (numbers_mut l.fn.numbers) (numbers_mut l.numbers)
