-- `chances` meets its contract.
use Rattle.std.proofs.Common.{refl, arith}
use Rattle.kept.specs.Rounding.{nought}
use Rattle.steps.specs.Inputs.{working_assets}
use Rattle.working.specs.Working.{working_places}
use Rattle.working.specs.Working.Laws.{entries_none}
use Rattle.chances.specs.Chances.Laws.{chance_operands, chance_more, chances_all}
use Rattle.chances.proofs.chances.Goals as goal

pub bounds-orders-j : goal.bounds-orders-j
unfolding working_places working_assets
bounds-orders-j c = omega arith

pub bounds-row-j : goal.bounds-row-j
unfolding working_places working_assets
bounds-row-j c = omega arith

pub bounds-chances-j : goal.bounds-chances-j
unfolding working_places working_assets
bounds-chances-j c = omega arith

pub loop-j-init : goal.loop-j-init
unfolding working_places working_assets
loop-j-init c = record { ready = c.requires; counts = c.counts-orders.ensures; within = omega arith; made = λ _ _. entries_none refl }

pub product-requires : goal.product-requires
unfolding nought
product-requires c =
    let both = chance_operands c.loop-j.invariant (omega arith) nought in
    record { operand = both.0; other = both.1 }

pub loop-j-preserved : goal.loop-j-preserved
loop-j-preserved c = chance_more c.loop-j.invariant (omega arith) _ c.product.ensures

pub returns : goal.returns
returns c = chances_all c.loop-j.invariant (omega arith)
