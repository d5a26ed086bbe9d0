-- At the loop's head the entries below j are read.
use Rattle.std.proofs.Common.{◌+◌, ◌≤◌, replicate}
use Rattle.kept.specs.Rounding.{nought}
use Rattle.working.specs.Working.{working_places, Changed}
use Rattle.working.specs.Slices.{number_at}
use Rattle.working.specs.Lent.{numbers}
use Rattle.working.proofs.Numbers.row.Given as goal

abbrev pub invariant-loop-j : goal.invariant-loop-j
invariant-loop-j l =
    Changed working_places working_places l.j (replicate working_places nought) l.row (λ i. number_at (numbers l.self) (l.from + i))
