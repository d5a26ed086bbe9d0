-- At the loop's head rows 0 to k are stored, row k from the place `at` on.
use Rattle.working.specs.Lent.{numbers, numbers_mut, SameSlices}
use Rattle.rows.specs.Turns.Rows.{AtRow}
use Rattle.rows.specs.Filling.Laws.{Filling}
use Rattle.rows.proofs.fill_side.Given as goal

abbrev pub invariant-loop-k : goal.invariant-loop-k
invariant-loop-k l =
    SameSlices l.fn.numbers l.numbers
    × AtRow l.side l.count l.fn.pool.probability l.fn.pool.correlation l.k l.at l.step (numbers l.weights) (numbers_mut l.numbers)
    × Filling l.side l.count l.fn.pool.probability l.fn.pool.correlation l.k l.at (numbers_mut l.initial.numbers) (numbers_mut l.numbers)
