-- At the loop's head the numbers before i are written.
use Rattle.working.specs.Slices.{Stored}
use Rattle.working.specs.Lent.{numbers_mut, SameSlices}
use Rattle.planes.specs.Sides.{number_in}
use Rattle.planes.proofs.reading.FileSide.read.Given as goal

abbrev pub invariant-loop-i : goal.invariant-loop-i
invariant-loop-i l = record {
  same : SameSlices l.initial.side l.side;
  stored : Stored (number_in l.self.count l.self.bytes.now) l.i 0 (numbers_mut l.initial.side) (numbers_mut l.side);
}
