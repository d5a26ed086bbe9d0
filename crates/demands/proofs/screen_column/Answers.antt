-- `screen_column` meets its contract.
use Rattle.store.specs.Stores.{store}
use Rattle.pool.specs.Demands.{lent}
use Rattle.screen.proofs.Calls.Demands.{screen_column_meets}
use Rattle.demands.proofs.screen_column.Goals as goal

pub returns-clause-demands : goal.returns-clause-demands
unfolding store lent
returns-clause-demands c = screen_column_meets c.column.ensures.prints
