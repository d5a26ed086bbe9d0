-- At the loop's head the first k differences stand in the slice.
use Rattle.std.proofs.Common.{length}
use Rattle.working.specs.Working.{Changed}
use Rattle.shift.specs.Differences.{shift_at}
use Rattle.shift.proofs.differences.write_differences.Given as goal

abbrev pub invariant-loop-k : goal.invariant-loop-k
invariant-loop-k l = Changed (length l.initial.shifts) (length l.initial.shifts) l.k l.initial.shifts l.shifts (shift_at l.printed l.base)
