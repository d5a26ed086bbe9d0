-- `Kept::sum` meets its contract.
use Rattle.std.proofs.Common.{◌∙◌}
use Rattle.model.specs.Fraction.Laws.{plus_comm}
use Rattle.kept.specs.Rounding.{value, rounded_sum}
use Rattle.kept.specs.Rounding.Laws.{kept_normal, round_cong}
use Rattle.kept.specs.Rounding.Sums.{sum_nought_left, sum_nought_right}
use Rattle.kept.proofs.Kept.sum.Goals as goal

pub returns-then-self-eq0 : goal.returns-then-self-eq0
returns-then-self-eq0 c = sum_nought_left c.args.side _ _ c.if-self-eq0.true c.requires.other.kept

pub returns-then-other-eq0 : goal.returns-then-other-eq0
returns-then-other-eq0 c = sum_nought_right c.args.side _ _ c.if-other-eq0.true c.requires.operand.kept

pub add-requires-clause-normal : goal.add-requires-clause-normal
add-requires-clause-normal c = kept_normal c.requires.other.kept c.if-other-eq0.false

pub add-requires-else-self-other-clause-normal : goal.add-requires-else-self-other-clause-normal
add-requires-else-self-other-clause-normal c = kept_normal c.requires.operand.kept c.if-self-eq0.false

pub returns-then-self-other : goal.returns-then-self-other
unfolding rounded_sum
returns-then-self-other c = c.add.ensures ∙ round_cong c.args.side (plus_comm (value c.args.other) (value c.args.self))

pub returns-else-self-other : goal.returns-else-self-other
unfolding rounded_sum
returns-else-self-other c = c.add-else-self-other.ensures
