-- `tranche_losses` meets its contract.
use Rattle.std.proofs.Common.{ℕ, ◌≡◌, List, refl, sym, ◌∙◌}
use Rattle.grounds.specs.Grounds.{first_ground, loss_grounds, LossAccepted}
use Rattle.grounds.specs.Grounds.Laws.{loss_accepted}
use Rattle.model.specs.CorrelatedBinomial.{defaults}
use Rattle.steps.specs.declared.Tranche.{Tranche}
use Rattle.steps.specs.CorrelatedBinomial.{kept_defaults}
use Rattle.steps.proofs.CorrelatedBinomial.Theorems.{pool_budgets, answers}
use Rattle.steps.specs.Inputs.{largest_pool}
use Rattle.grounds.proofs.Refusals.{err_some, ok_none}
use Rattle.store.proofs.Calls.Laws.{fills_filled}
use Rattle.pool.specs.Calls.{loss_refusal}
use Rattle.pool.specs.Calls.Laws.{tranches_are_ready, reply_answered, replies_untouched}
use Rattle.pool.proofs.losses.tranche_losses.Goals as goal

-- What the inputs of a call that no ground refuses are.
accepted : {n p ρ count refusal : ℕ} {ts : List Tranche} {slices : List ℕ}
    → refusal ≡ first_ground (loss_grounds largest_pool n p ρ ts count slices) → refusal ≡ 0 → LossAccepted largest_pool n p ρ ts count slices
accepted = loss_accepted _ _ _ _ _ _ _

pub returns-then-is_err-clause-replies : goal.returns-then-is_err-clause-replies
unfolding loss_refusal largest_pool
returns-then-is_err-clause-replies c =
    replies_untouched (err_some _ c.is_err.ensures.value c.if-is_err.true) (rw c.lengths.ensures at c.loss_refusal-outcome.ensures) c.untouched-losses.ensures

pub fill_both-rows-requires : goal.fill_both-rows-requires
unfolding largest_pool
fill_both-rows-requires c = (accepted (rw c.lengths.ensures at c.loss_refusal-outcome.ensures) (ok_none _ c.is_err.ensures.value c.if-is_err.false)).fill

pub tranche_losses-losses-requires : goal.tranche_losses-losses-requires
unfolding largest_pool
tranche_losses-losses-requires c =
    let given = accepted (rw c.lengths.ensures at c.loss_refusal-outcome.ensures) (ok_none _ c.is_err.ensures.value c.if-is_err.false) in
    let rows = c.fill_both-rows.ensures.filled in
    tranches_are_ready given.fill.pool.range given.fill.pool.not_empty given.tranches (record { on_low = rows.low_row; on_high = rows.high_row })

pub returns-clause-replies : goal.returns-clause-replies
unfolding loss_refusal largest_pool defaults kept_defaults
returns-clause-replies c =
    let refusal = (rw c.lengths.ensures at c.loss_refusal-outcome.ensures) in
    let none = (ok_none _ c.is_err.ensures.value c.if-is_err.false) in
    let given = accepted refusal none in
    let pool = given.fill.pool in
    let rows = c.fill_both-rows.ensures.filled in
    let are = c.tranche_losses-losses.ensures.losses_are _ (record { on_low = rows.low_row; on_high = rows.high_row }) in
    rw none (record {
      fills = fills_filled given.fill (sym none ∙ refusal) rows.store_is refl;
      replies = reply_answered are (answers pool.range (pool_budgets pool.range.assets) pool.not_empty given.tranches.tranches are);
    })
