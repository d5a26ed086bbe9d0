-- `passes` meets its contract.
use Rattle.std.proofs.Common.{arith, add-one}
use Rattle.model.specs.Passes.{passed}
use Rattle.kept.specs.Rounding.{nought}
use Rattle.working.specs.Working.Laws.{entries_same}
use Rattle.rows.specs.Turns.Laws.{passing_none, passing_more, passing_all, pass_product_operands, pass_sum_operands}
use Rattle.rows.proofs.passes.Goals as goal

pub loop-s-init : goal.loop-s-init
unfolding passed
loop-s-init c = record { entries = λ f standing. entries_same (rw add-one at c.row-w.ensures.new) standing.number }

pub loop-j-init : goal.loop-j-init
loop-j-init c = passing_none c.requires c.loop-s.invariant

pub product-requires : goal.product-requires
unfolding nought
product-requires c = let (operand, other) = pass_product_operands c.loop-j.invariant (omega arith) in record { operand = operand; other = other }

pub sum-requires : goal.sum-requires
unfolding nought
sum-requires c = let (operand, other) = pass_sum_operands c.loop-j.invariant (omega arith) c.product.ensures in record { operand = operand; other = other }

pub loop-j-preserved : goal.loop-j-preserved
unfolding nought
loop-j-preserved c = passing_more c.loop-j.invariant (omega arith) c.product.ensures c.sum.ensures

pub loop-s-preserved : goal.loop-s-preserved
loop-s-preserved c = passing_all c.loop-j.invariant c.loop-s.invariant (omega arith)
