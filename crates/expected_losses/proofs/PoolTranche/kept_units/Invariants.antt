-- At the loop's head the loss units of fewer than x defaults are made.
use Rattle.expected_losses.specs.Loss.Laws.{UnitsBelow}
use Rattle.expected_losses.proofs.PoolTranche.kept_units.Given as goal

abbrev pub invariant-loop-x : goal.invariant-loop-x
invariant-loop-x l = UnitsBelow l.self.assets l.self.tranche l.x l.kept
