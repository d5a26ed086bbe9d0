-- `shifted_up` meets its contract.
use Rattle.std.proofs.Common.{mod-eq_of_lt}
use Rattle.kept.specs.Rounding.Words.{shifted}
use Rattle.kept.proofs.rounding.shifted_up.Goals as goal

pub overflow_shl-result : goal.overflow_shl-result
overflow_shl-result c = rw c.headroom.ensures (shifted c.ranges.v.fits).few

pub returns : goal.returns
returns c = rw c.headroom.ensures (mod-eq_of_lt (shifted c.ranges.v.fits).below)
