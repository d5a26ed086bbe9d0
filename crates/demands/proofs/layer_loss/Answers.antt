-- `layer_loss` meets its contract.
use Rattle.store.specs.Stores.{store}
use Rattle.pool.specs.Demands.{lent}
use Rattle.pool.proofs.Demands.Theorems.{layer_meets}
use Rattle.demands.proofs.layer_loss.Goals as goal

pub returns-clause-demands : goal.returns-clause-demands
unfolding store lent
returns-clause-demands c = layer_meets _ c.layer_loss.ensures.replies
