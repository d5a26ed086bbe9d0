-- `first_to_fail` meets its contract.
use Rattle.std.proofs.Common.{arith, sym, ◌∙◌}
use Rattle.claims.specs.Check.Laws.{rows_none, row_more, row_fails, rows_all}
use Rattle.claims.proofs.first_to_fail.Goals as goal

pub loop-k-init : goal.loop-k-init
loop-k-init c = rows_none c.requires

pub loop-k-preserved : goal.loop-k-preserved
loop-k-preserved c = row_more c.loop-k.invariant (omega arith) _ (sym c.row_passes.ensures ∙ c.if-not-row_passes.false)

pub returns-then-not-row_passes : goal.returns-then-not-row_passes
returns-then-not-row_passes c = row_fails c.loop-k.invariant (omega arith) _ (sym c.row_passes.ensures ∙ c.if-not-row_passes.true)

pub returns : goal.returns
returns c = rows_all c.loop-k.invariant (omega arith)
