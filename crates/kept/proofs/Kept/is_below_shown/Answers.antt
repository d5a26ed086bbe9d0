-- `Kept::is_below_shown` meets its contract: zero is below 2^−800, and of the others those with an exponent below −831.
use Rattle.std.proofs.Common.{◌∙◌, rules, eq-eqb, w32, SFits, to_z-of_z}
use Rattle.kept.specs.Rounding.Laws.{kept_normal}
use Rattle.kept.specs.Binary64.Laws.{below_zero, below_exponent}
use Rattle.kept.proofs.Kept.is_below_shown.Goals as goal

pub returns-then-self-eq0 : goal.returns-then-self-eq0
returns-then-self-eq0 c = eq-eqb _ 0 c.if-self-eq0.true ∙ below_zero c.if-self-eq0.true c.args.self.exponent

pub returns-else-self-eq0 : goal.returns-else-self-eq0
returns-else-self-eq0 c =
    let fit : SFits w32 c.args.self.exponent = search rules in
    rw (to_z-of_z fit) (below_exponent (kept_normal c.requires c.if-self-eq0.false) c.args.self.exponent)
