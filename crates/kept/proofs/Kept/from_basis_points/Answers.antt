-- `Kept::from_basis_points` meets its contract.
use Rattle.std.proofs.Common.{◌∙◌, lit<}
use Rattle.kept.specs.Rounding.{of_basis_points}
use Rattle.kept.specs.Rounding.Laws.{round_cong}
use Rattle.kept.specs.Rounding.Arithmetic.{basis_points_scaled}
use Rattle.kept.proofs.Kept.from_basis_points.Goals as goal

pub returns : goal.returns
unfolding of_basis_points
returns c = c.ratio.ensures (lit< tt) ∙ round_cong c.args.side (basis_points_scaled c.args.p (lit< tt))
