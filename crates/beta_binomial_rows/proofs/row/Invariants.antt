-- At the loop's head the entries before j are made.
use Rattle.steps.specs.BetaBinomial.{kept_entry}
use Rattle.working.specs.Working.{working_places, Entries}
use Rattle.beta_binomial_rows.proofs.row.Given as goal

abbrev pub invariant-loop-j : goal.invariant-loop-j
invariant-loop-j l = Entries working_places l.j l.row (kept_entry l.side l.fn.pool.assets l.fn.pool.probability l.fn.pool.correlation)
