-- `pascal` meets its contract.
use Rattle.std.proofs.Common.{add-one, arith}
use Rattle.steps.specs.Inputs.{working_assets}
use Rattle.working.specs.Working.{working_places}
use Rattle.order_counts.specs.Counts.Laws.{pascal_first, pascal_none, pascal_more, pascal_all}
use Rattle.order_counts.proofs.pascal.Goals as goal

pub loop-k-init : goal.loop-k-init
unfolding working_places working_assets
loop-k-init g c = λ plus gives. pascal_first c.args.one plus

pub loop-j-init : goal.loop-j-init
loop-j-init g c = λ plus gives. pascal_none (c.loop-k.invariant plus gives)

pub loop-j-preserved : goal.loop-j-preserved
unfolding working_places working_assets
loop-j-preserved g c = λ plus gives.
    pascal_more (c.loop-j.invariant plus gives) (omega arith) (omega arith) _ (gives _ _ _ c.sum.ensures)

pub loop-k-preserved : goal.loop-k-preserved
loop-k-preserved g c = λ plus gives. rw (add-one c.loop-k.k) (pascal_all (c.loop-j.invariant plus gives) (omega arith))
