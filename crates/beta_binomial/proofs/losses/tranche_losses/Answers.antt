-- `tranche_losses` meets its contract.
use Rattle.std.proofs.Common.{sym, ◌∙◌}
use Rattle.model.specs.ClosedForm.{defaults_by}
use Rattle.model.specs.BetaBinomial.{beta_defaults}
use Rattle.steps.specs.BetaBinomial.{kept_beta_defaults}
use Rattle.steps.proofs.BetaBinomial.Theorems.{beta_answers}
use Rattle.steps.specs.Inputs.{largest_pool}
use Rattle.grounds.specs.Grounds.Laws.{beta_loss_accepted}
use Rattle.pool.specs.Calls.Laws.{reply_refused, reply_answered}
use Rattle.beta_binomial.specs.Calls.{beta_loss_refusal}
use Rattle.beta_binomial.specs.Calls.Laws.{tranches_are_ready, holds_beta}
use Rattle.grounds.proofs.Refusals.{err_some, ok_none}
use Rattle.beta_binomial.proofs.losses.tranche_losses.Goals as goal

pub returns-then-is_err : goal.returns-then-is_err
unfolding beta_loss_refusal largest_pool
returns-then-is_err c =
    let some = (err_some _ c.is_err.ensures.value c.if-is_err.true) in
    record { refusal_is = c.beta_loss_refusal-outcome.ensures; holds = λ none. absurd (some none); replies = reply_refused some c.untouched-losses.ensures }

pub row-low-requires-clause-range : goal.row-low-requires-clause-range
unfolding largest_pool
row-low-requires-clause-range c =
    (beta_loss_accepted _ _ _ _ _ _ c.beta_loss_refusal-outcome.ensures (ok_none _ c.is_err.ensures.value c.if-is_err.false)).pool.pool.range

pub row-low-requires-clause-correlation : goal.row-low-requires-clause-correlation
unfolding largest_pool
row-low-requires-clause-correlation c =
    (beta_loss_accepted _ _ _ _ _ _ c.beta_loss_refusal-outcome.ensures (ok_none _ c.is_err.ensures.value c.if-is_err.false)).pool.below

pub row-high-requires-clause-range : goal.row-high-requires-clause-range
unfolding largest_pool
row-high-requires-clause-range c =
    (beta_loss_accepted _ _ _ _ _ _ c.beta_loss_refusal-outcome.ensures (ok_none _ c.is_err.ensures.value c.if-is_err.false)).pool.pool.range

pub row-high-requires-clause-correlation : goal.row-high-requires-clause-correlation
unfolding largest_pool
row-high-requires-clause-correlation c =
    (beta_loss_accepted _ _ _ _ _ _ c.beta_loss_refusal-outcome.ensures (ok_none _ c.is_err.ensures.value c.if-is_err.false)).pool.below

pub tranche_losses-losses-requires : goal.tranche_losses-losses-requires
unfolding largest_pool
tranche_losses-losses-requires c =
    let given = beta_loss_accepted _ _ _ _ _ _ c.beta_loss_refusal-outcome.ensures (ok_none _ c.is_err.ensures.value c.if-is_err.false) in
    let pool = given.pool in
    tranches_are_ready pool.pool.range pool.below pool.pool.not_empty given.tranches (record { on_low = c.row-low.ensures; on_high = c.row-high.ensures })

pub returns : goal.returns
unfolding beta_loss_refusal largest_pool beta_defaults defaults_by kept_beta_defaults
returns c =
    let refusal = c.beta_loss_refusal-outcome.ensures in
    let none = (ok_none _ c.is_err.ensures.value c.if-is_err.false) in
    let given = beta_loss_accepted _ _ _ _ _ _ refusal none in
    let pool = given.pool.pool in
    let below = given.pool.below in
    let are = c.tranche_losses-losses.ensures.losses_are _ (record { on_low = c.row-low.ensures; on_high = c.row-high.ensures }) in
    rw none
    (record {
      refusal_is = sym none ∙ refusal;
      holds = λ _. holds_beta pool.range below;
      replies = reply_answered are (beta_answers pool.range below pool.not_empty given.tranches.tranches are);
    })
