-- At the loop's head row k stands from the first place on.
use Rattle.working.specs.Working.{working_places}
use Rattle.working.specs.Slices.{HasPlaces}
use Rattle.working.specs.Lent.{numbers, numbers_mut}
use Rattle.rows.specs.Turns.Rows.{AtRow}
use Rattle.rows.proofs.last_row.Given as goal

abbrev pub invariant-loop-k : goal.invariant-loop-k
invariant-loop-k l =
    AtRow l.side l.last l.fn.pool.probability l.fn.pool.correlation l.k 0 l.step (numbers l.weights) (numbers_mut l.numbers)
    × HasPlaces working_places (numbers_mut l.numbers)
