-- `Kept::from_ratio` meets its contract.
use Rattle.std.proofs.Common.{sym, ◌∙◌}
use Rattle.model.specs.Fraction.Laws.{divided_same}
use Rattle.kept.specs.Rounding.Laws.{round_cong, ratio_above}
use Rattle.kept.specs.Rounding.Arithmetic.{integer_scaled}
use Rattle.kept.proofs.Kept.from_ratio.Goals as goal

pub returns-then-m-lt4294967296 : goal.returns-then-m-lt4294967296
returns-then-m-lt4294967296 c =
    let above = c.requires.positive in
    c.ratio.ensures above
    ∙ round_cong _ (divided_same _ above (integer_scaled _))
    ∙ sym (ratio_above c.args.side c.args.n c.args.m above)

pub returns-else-m-lt4294967296 : goal.returns-else-m-lt4294967296
returns-else-m-lt4294967296 c =
    let above = c.requires.positive in
    c.long_ratio.ensures above ∙ sym (ratio_above c.args.side c.args.n c.args.m above)
