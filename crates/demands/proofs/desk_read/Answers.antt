-- `desk_read` meets its contract.
use Rattle.store.specs.Stores.{store}
use Rattle.pool.specs.Demands.{lent}
use Rattle.desk.proofs.Calls.Demands.{desk_meets}
use Rattle.demands.proofs.desk_read.Goals as goal

pub returns : goal.returns
unfolding store lent
returns c = desk_meets _ _ _ _ _ c.read.ensures
