-- `tranche_losses` meets its contract.
use Rattle.steps.specs.Inputs.{largest_pool, screen_pool}
use Rattle.screen.specs.Calls.Laws.{losses_refused, losses_handed_over}
use Rattle.grounds.proofs.Refusals.{err_some, ok_none}
use Rattle.screen.proofs.tranche_losses.Goals as goal

pub returns-then-is_err-clause-replies : goal.returns-then-is_err-clause-replies
unfolding largest_pool screen_pool
returns-then-is_err-clause-replies c =
    losses_refused c.screen_refusal-outcome.ensures (err_some _ c.is_err.ensures.value c.if-is_err.true) c.untouched-losses.ensures

pub returns-clause-replies : goal.returns-clause-replies
unfolding largest_pool screen_pool
returns-clause-replies c = losses_handed_over c.screen_refusal-outcome.ensures (ok_none _ c.is_err.ensures.value c.if-is_err.false) c.tranche_losses.ensures.replies
