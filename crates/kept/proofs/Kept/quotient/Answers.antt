-- `Kept::quotient` meets its contract.
use Rattle.std.proofs.Common.{lit<}
use Rattle.kept.specs.Rounding.{rounded_quotient}
use Rattle.kept.specs.Rounding.Exponents.{reach_back}
use Rattle.kept.proofs.Kept.quotient.Goals as goal

pub returns : goal.returns
unfolding rounded_quotient
returns c = rw (reach_back (lit< tt) c.requires.operand.reach) at c.ratio.ensures
