-- `column` meets its contract.
use Rattle.steps.specs.Inputs.{largest_pool, screen_pool}
use Rattle.screen.specs.Calls.Laws.{column_refused, column_handed_over}
use Rattle.grounds.proofs.Refusals.{err_some, ok_none}
use Rattle.screen.proofs.column.Goals as goal

pub returns-then-is_err-clause-prints : goal.returns-then-is_err-clause-prints
unfolding largest_pool screen_pool
returns-then-is_err-clause-prints c = column_refused c.screen_refusal-answer.ensures (err_some _ c.is_err.ensures.value c.if-is_err.true)

pub returns-clause-prints : goal.returns-clause-prints
unfolding largest_pool screen_pool
returns-clause-prints c = column_handed_over c.screen_refusal-answer.ensures (ok_none _ c.is_err.ensures.value c.if-is_err.false) c.column.ensures.prints
