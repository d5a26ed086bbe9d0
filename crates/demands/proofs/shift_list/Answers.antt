-- `shift_list` meets its contract.
use Rattle.store.specs.Stores.{store}
use Rattle.pool.specs.Demands.{lent}
use Rattle.shift.proofs.Calls.Demands.{shift_meets}
use Rattle.demands.proofs.shift_list.Goals as goal

pub returns-clause-demands : goal.returns-clause-demands
unfolding store lent
returns-clause-demands c = shift_meets c.shift_list.ensures.lists
