-- `tails::tails` meets its contract.
use Rattle.std.proofs.Common.{arith}
use Rattle.kept.specs.Rounding.{nought}
use Rattle.steps.specs.Inputs.{working_assets}
use Rattle.working.specs.Working.{working_places}
use Rattle.chances.specs.Tails.Laws.{tails_none, tail_operands, tail_more, tails_all}
use Rattle.chances.proofs.tails.tails.Goals as goal

pub loop-j-init : goal.loop-j-init
unfolding working_places working_assets
loop-j-init c = tails_none (omega arith) c.requires c.zero-zero.ensures

pub sum-total-requires : goal.sum-total-requires
unfolding nought
sum-total-requires c =
    let both = tail_operands c.loop-j.invariant c.loop-j-test.true nought in
    record { operand = both.0; other = both.1 }

pub loop-j-preserved : goal.loop-j-preserved
loop-j-preserved c = tail_more c.loop-j.invariant c.loop-j-test.true _ c.sum-total.ensures

pub returns : goal.returns
returns c = tails_all c.loop-j.invariant (omega arith)
