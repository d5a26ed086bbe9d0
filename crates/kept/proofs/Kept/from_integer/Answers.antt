-- `Kept::from_integer` meets its contract.
use Rattle.kept.specs.Rounding.{of_integer}
use Rattle.kept.specs.Rounding.Arithmetic.{between_exact, integer_scaled}
use Rattle.kept.proofs.Kept.from_integer.Goals as goal

pub returns : goal.returns
unfolding of_integer
returns c = c.round_once.ensures _ (between_exact (integer_scaled c.args.n))
