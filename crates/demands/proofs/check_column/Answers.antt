-- `check_column` meets its contract.
use Rattle.store.specs.Stores.{store}
use Rattle.pool.specs.Demands.{lent}
use Rattle.column_check.proofs.Calls.Demands.{check_meets}
use Rattle.demands.proofs.check_column.Goals as goal

pub returns-clause-demands : goal.returns-clause-demands
unfolding store lent
returns-clause-demands c = check_meets _ c.check_column.ensures.checks
