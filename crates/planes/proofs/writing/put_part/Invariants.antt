-- At the loop's head the planes before k are put.
use Rattle.working.specs.Slices.{number_at}
use Rattle.working.specs.Lent.{numbers}
use Rattle.buffer.specs.Stores.{Puts}
use Rattle.planes.specs.Sides.{array_of}
use Rattle.planes.specs.Sides.Laws.{first_planes}
use Rattle.planes.proofs.writing.put_part.Given as goal

abbrev pub invariant-loop-k : goal.invariant-loop-k
invariant-loop-k l = Puts (first_planes l.k (array_of l.part l.count (number_at (numbers l.side)))) l.at l.initial.file l.file l.next
