-- `screen_tranche_losses` meets its contract.
use Rattle.std.proofs.Common.{arith}
use Rattle.store.specs.Stores.{store}
use Rattle.pool.specs.Demands.{lent}
use Rattle.screen.proofs.Calls.Demands.{screen_tranches_meet}
use Rattle.demands.proofs.screen_tranche_losses.Goals as goal

pub returns-clause-demands : goal.returns-clause-demands
unfolding store lent
returns-clause-demands c = screen_tranches_meet _ (omega arith) c.tranche_losses.ensures.replies
