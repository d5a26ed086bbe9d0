-- `PoolTranche::expected_loss` meets its contract.
use Rattle.std.proofs.Common.{arith}
use Rattle.model.proofs.Chances.Laws.{tranche_wide}
use Rattle.kept.specs.Rounding.{nought}
use Rattle.expected_losses.specs.Loss.Laws.{total_operand, product_operands, sum_operands, term_more, loss_made}
use Rattle.expected_losses.proofs.PoolTranche.expected_loss.Goals as goal

pub product-term-requires : goal.product-term-requires
unfolding nought
product-term-requires c =
    let both = product_operands c.loop-x.invariant (omega arith) nought in
    record { operand = both.0; other = both.1 }

pub sum-total-requires : goal.sum-total-requires
sum-total-requires c =
    let both = sum_operands c.loop-x.invariant (omega arith) _ c.product-term.ensures in
    record { operand = both.0; other = both.1 }

pub loop-x-preserved : goal.loop-x-preserved
loop-x-preserved c = term_more c.loop-x.invariant (omega arith) _ c.product-term.ensures c.sum-total.ensures

pub quotient-requires : goal.quotient-requires
quotient-requires c = record { operand = total_operand c.loop-x.invariant; positive = rw c.width.ensures (tranche_wide (omega arith) (omega arith)) }

pub returns : goal.returns
returns c = loss_made c.loop-x.invariant (omega arith) (rw c.width.ensures at c.quotient.ensures)
