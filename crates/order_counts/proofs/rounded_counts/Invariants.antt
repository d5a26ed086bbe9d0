-- At the loop's head the counts of orders of fewer than j defaults are made.
use Rattle.model.specs.Number.{choose}
use Rattle.kept.specs.Rounding.{of_integer}
use Rattle.working.specs.Working.{working_places, Entries}
use Rattle.order_counts.proofs.rounded_counts.Given as goal

abbrev pub invariant-loop-j : goal.invariant-loop-j
invariant-loop-j l = Entries working_places l.j l.counts (λ i. of_integer l.side (choose l.n i))
