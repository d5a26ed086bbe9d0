-- `Numbers::at` meets its contract.
use Rattle.std.proofs.Common.{arith}
use Rattle.std.proofs.lemmas.Grind.{common_steps}
use Rattle.working.specs.Slices.{number_at}
use Rattle.working.proofs.Numbers.at.Goals as goal

pub returns : goal.returns
unfolding number_at
returns c = grind (arith, common_steps)
