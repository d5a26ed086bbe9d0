-- `write_file` meets its contract.
use Rattle.store.specs.Stores.{store}
use Rattle.pool.specs.Demands.{lent}
use Rattle.store_file.specs.Calls.Demands.{write_meets}
use Rattle.demands.proofs.write_file.Goals as goal

pub returns : goal.returns
unfolding store lent
returns c = write_meets c.write.ensures
