-- `Kept::one` meets its contract.
use Rattle.std.proofs.Common.{refl}
use Rattle.kept.specs.Rounding.{unity}
use Rattle.kept.proofs.Kept.one.Goals as goal

pub returns : goal.returns
unfolding unity
returns c = refl
