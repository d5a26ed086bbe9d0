-- `headroom` meets its contract.
use Rattle.std.proofs.Common.{refl}
use Rattle.kept.specs.Rounding.Words.{shift_of}
use Rattle.kept.proofs.rounding.headroom.Goals as goal

pub returns : goal.returns
unfolding shift_of
returns c = refl
