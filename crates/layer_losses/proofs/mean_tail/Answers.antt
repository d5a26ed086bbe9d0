-- `mean_tail` meets its contract.
use Rattle.std.proofs.Common.{arith}
use Rattle.layer_losses.specs.Layer.Laws.{sum_operands, tail_more, mean_made}
use Rattle.layer_losses.proofs.mean_tail.Goals as goal

pub sum-total-requires : goal.sum-total-requires
sum-total-requires c =
    let both = sum_operands c.loop-tail.invariant (omega (arith, c.requires.layer.order)) c.loop-tail-test.true _ in
    record { operand = both.0; other = both.1 }

pub loop-tail-preserved : goal.loop-tail-preserved
loop-tail-preserved c = tail_more c.loop-tail.invariant (omega (arith, c.requires.layer.order)) c.loop-tail-test.true _ c.sum-total.ensures

pub returns : goal.returns
returns c = mean_made c.loop-tail.invariant (omega (arith, c.requires.layer.order)) c.loop-tail-test.false c.quotient.ensures
