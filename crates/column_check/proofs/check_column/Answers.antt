-- `check_column` meets its contract.
use Rattle.std.proofs.Common.{refl, lit<}
use Rattle.steps.specs.Inputs.{largest_pool}
use Rattle.steps.specs.CorrelatedBinomial.{kept_defaults}
use Rattle.steps.specs.CorrelatedBinomial.Rows.{kept_row}
use Rattle.grounds.specs.Grounds.{column_grounds}
use Rattle.grounds.specs.Grounds.Laws.{entries_accepted}
use Rattle.pool.specs.Calls.{column_refusal}
use Rattle.column_check.specs.Calls.Laws.{check_is_ready, checks_refused, checks_answered}
use Rattle.grounds.proofs.Refusals.{refusal_some}
use Rattle.column_check.proofs.check_column.Goals as goal

pub returns-in-Err-clause-checks : goal.returns-in-Err-clause-checks
unfolding column_refusal largest_pool
returns-in-Err-clause-checks c = checks_refused (refusal_some c.in-Err.refusal) (rw (c.in-Err.is, c.lengths-lengths.ensures) at c.column_refusal.ensures)

pub fill_both-rows-requires : goal.fill_both-rows-requires
unfolding column_grounds largest_pool
fill_both-rows-requires c =
    (entries_accepted 8 _ _ _ _ _ _ (lit< tt) (rw (c.in_default.is, c.lengths-lengths.ensures) at c.column_refusal.ensures) refl).fill

pub check_rows-requires : goal.check_rows-requires
unfolding column_grounds largest_pool
check_rows-requires c =
    let given = entries_accepted 8 _ _ _ _ _ _ (lit< tt) (rw (c.in_default.is, c.lengths-lengths.ensures) at c.column_refusal.ensures) refl in
    let rows = c.fill_both-rows.ensures.filled in
    check_is_ready given.fill.pool.range (record { on_low = rows.low_row; on_high = rows.high_row }) given.entries

pub returns-clause-checks : goal.returns-clause-checks
unfolding kept_defaults column_refusal column_grounds largest_pool
returns-clause-checks c =
    let number = rw (c.in_default.is, c.lengths-lengths.ensures) at c.column_refusal.ensures in
    let given = entries_accepted 8 _ _ _ _ _ _ (lit< tt) number refl in
    let rows = c.fill_both-rows.ensures.filled in
    let pool = c.args.pool in
    checks_answered given.fill number rows.store_is
    (c.check_rows.ensures.verdict_is (λ side. kept_row side pool.probability pool.correlation pool.assets)
    (record { on_low = rows.low_row; on_high = rows.high_row }))
    refl
