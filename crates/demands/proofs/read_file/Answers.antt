-- `read_file` meets its contract.
use Rattle.store.specs.Stores.{store}
use Rattle.pool.specs.Demands.{lent}
use Rattle.store_file.specs.Calls.Demands.{read_meets}
use Rattle.demands.proofs.read_file.Goals as goal

pub returns-clause-demands : goal.returns-clause-demands
unfolding store lent
returns-clause-demands c = read_meets c.read.ensures.reads
