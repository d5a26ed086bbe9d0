-- `beta_column` meets its contract.
use Rattle.beta_binomial.specs.Calls.Demands.{beta_column_meets}
use Rattle.demands.proofs.beta_column.Goals as goal

pub returns : goal.returns
returns c = beta_column_meets c.column.ensures
