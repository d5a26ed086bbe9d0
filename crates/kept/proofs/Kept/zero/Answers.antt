-- `Kept::zero` meets its contract.
use Rattle.std.proofs.Common.{refl}
use Rattle.kept.specs.Rounding.{nought}
use Rattle.kept.proofs.Kept.zero.Goals as goal

pub returns : goal.returns
unfolding nought
returns c = refl
