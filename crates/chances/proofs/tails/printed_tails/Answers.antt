-- `tails::printed_tails` meets its contract.
use Rattle.std.proofs.Common.{arith}
use Rattle.kept.specs.Rounding.{nought}
use Rattle.steps.specs.Column.{units_of_certainty}
use Rattle.steps.specs.Inputs.{working_assets}
use Rattle.working.specs.Working.{working_places}
use Rattle.chances.specs.Tails.Laws.{printed_none, printable_tail, printed_more, printed_all}
use Rattle.chances.proofs.tails.printed_tails.Goals as goal

pub bounds-tails-k : goal.bounds-tails-k
unfolding working_assets
bounds-tails-k c = omega arith

pub bounds-printed-k : goal.bounds-printed-k
unfolding working_assets
bounds-printed-k c = omega arith

pub loop-k-init : goal.loop-k-init
unfolding working_places working_assets units_of_certainty
loop-k-init c = printed_none c.requires

pub in_units-requires : goal.in_units-requires
unfolding nought
in_units-requires c =
    let both = printable_tail c.loop-k.invariant (omega arith) nought in
    record { kept = both.0; to_two = both.1 }

pub loop-k-preserved : goal.loop-k-preserved
loop-k-preserved c = printed_more c.loop-k.invariant (omega arith) _ c.in_units.ensures

pub returns : goal.returns
returns c = printed_all c.loop-k.invariant (omega arith)
