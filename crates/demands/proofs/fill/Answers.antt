-- `fill` meets its contract.
use Rattle.store.specs.Stores.{store}
use Rattle.pool.specs.Demands.{lent}
use Rattle.pool.proofs.Demands.Theorems.{fill_meets}
use Rattle.demands.proofs.fill.Goals as goal

pub returns-clause-demands : goal.returns-clause-demands
unfolding store lent
returns-clause-demands c = fill_meets c.fill.ensures.fills
