-- At the loop's head the first k differences of printed tails stand in the slice.
use Rattle.std.proofs.Common.{◌+◌}
use Rattle.working.specs.Working.{Entries}
use Rattle.chances.specs.Tails.{difference_at}
use Rattle.chances.proofs.tails.print_rows.Given as goal

abbrev pub invariant-loop-k : goal.invariant-loop-k
invariant-loop-k l = Entries (l.n + 1) l.k l.unit-items (difference_at l.printed)
