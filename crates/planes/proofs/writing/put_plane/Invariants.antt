-- At the loop's head the bytes of the numbers before i are put.
use Rattle.working.specs.Slices.{number_at}
use Rattle.working.specs.Lent.{numbers}
use Rattle.planes.specs.Sides.Laws.{PutsPlane}
use Rattle.planes.proofs.writing.put_plane.Given as goal

abbrev pub invariant-loop-i : goal.invariant-loop-i
invariant-loop-i l = PutsPlane l.part l.k l.i (number_at (numbers l.side)) l.at l.initial.file l.file l.next
