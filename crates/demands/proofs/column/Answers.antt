-- `column` meets its contract.
use Rattle.store.specs.Stores.{store}
use Rattle.pool.specs.Demands.{lent}
use Rattle.pool.proofs.Demands.Theorems.{column_meets}
use Rattle.demands.proofs.column.Goals as goal

pub returns-clause-demands : goal.returns-clause-demands
unfolding store lent
returns-clause-demands c = column_meets c.column.ensures.prints
