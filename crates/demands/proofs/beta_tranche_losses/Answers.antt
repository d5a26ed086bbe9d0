-- `beta_tranche_losses` meets its contract.
use Rattle.std.proofs.Common.{arith}
use Rattle.beta_binomial.specs.Calls.Demands.{beta_tranches_meet}
use Rattle.demands.proofs.beta_tranche_losses.Goals as goal

pub returns : goal.returns
returns c = beta_tranches_meet _ (omega arith) c.tranche_losses.ensures
