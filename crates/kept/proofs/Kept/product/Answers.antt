-- `Kept::product` meets its contract.
use Rattle.std.proofs.Common.{lit<}
use Rattle.model.specs.Fraction.Laws.{same_sym}
use Rattle.kept.specs.Rounding.{rounded_product}
use Rattle.kept.specs.Rounding.Exponents.{reach_plus, reach_back}
use Rattle.kept.specs.Rounding.Powers.{scaled_times}
use Rattle.kept.specs.Rounding.Arithmetic.{between_exact}
use Rattle.kept.proofs.Kept.product.Goals as goal

pub returns : goal.returns
unfolding rounded_product
returns c =
    let p = c.requires.operand.reach in
    let q = c.requires.other.reach in
    (rw (reach_back (lit< tt) p, reach_back (lit< tt) q, reach_back (lit< tt) (reach_plus p q)) at c.round_once.ensures)
    _
    (between_exact (same_sym (scaled_times _ _ _ _)))
