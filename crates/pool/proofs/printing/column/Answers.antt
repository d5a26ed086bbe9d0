-- `column` meets its contract.
use Rattle.std.proofs.Common.{ℕ, ◌≡◌, List, refl, sym, ◌∙◌, lit<}
use Rattle.grounds.specs.Grounds.{first_ground, column_grounds, EntriesAccepted}
use Rattle.grounds.specs.Grounds.Laws.{entries_accepted}
use Rattle.model.specs.CorrelatedBinomial.{defaults}
use Rattle.steps.specs.CorrelatedBinomial.{kept_defaults}
use Rattle.steps.proofs.CorrelatedBinomial.Theorems.{column}
use Rattle.steps.specs.Inputs.{largest_pool}
use Rattle.grounds.proofs.Refusals.{err_some, ok_none}
use Rattle.store.proofs.Calls.Laws.{fills_filled}
use Rattle.pool.specs.Calls.{column_refusal}
use Rattle.pool.specs.Calls.Laws.{column_is_ready, row_printed, prints_untouched}
use Rattle.pool.proofs.printing.column.Goals as goal

-- What the inputs of a call that no ground refuses are.
accepted : {n p ρ places refusal : ℕ} {slices : List ℕ} → refusal ≡ first_ground (column_grounds largest_pool n p ρ slices places) → refusal ≡ 0
    → EntriesAccepted largest_pool n p ρ slices places
unfolding column_grounds
accepted = entries_accepted 8 _ _ _ _ _ _ (lit< tt)

pub returns-then-is_err-clause-prints : goal.returns-then-is_err-clause-prints
unfolding column_refusal largest_pool
returns-then-is_err-clause-prints c = prints_untouched (err_some _ c.is_err.ensures.value c.if-is_err.true) (rw c.lengths.ensures at c.column_refusal-answer.ensures)

pub fill_both-rows-requires : goal.fill_both-rows-requires
unfolding largest_pool
fill_both-rows-requires c = (accepted (rw c.lengths.ensures at c.column_refusal-answer.ensures) (ok_none _ c.is_err.ensures.value c.if-is_err.false)).fill

pub print_column-requires-clause-ready : goal.print_column-requires-clause-ready
unfolding largest_pool
print_column-requires-clause-ready c =
    column_is_ready (accepted (rw c.lengths.ensures at c.column_refusal-answer.ensures) (ok_none _ c.is_err.ensures.value c.if-is_err.false)).fill.pool.range c.fill_both-rows.ensures.filled.low_row

pub print_column-requires-clause-places : goal.print_column-requires-clause-places
unfolding largest_pool
print_column-requires-clause-places c = (accepted (rw c.lengths.ensures at c.column_refusal-answer.ensures) (ok_none _ c.is_err.ensures.value c.if-is_err.false)).entries

pub returns-clause-prints : goal.returns-clause-prints
unfolding column_refusal largest_pool defaults kept_defaults
returns-clause-prints c =
    let refusal = (rw c.lengths.ensures at c.column_refusal-answer.ensures) in
    let none = (ok_none _ c.is_err.ensures.value c.if-is_err.false) in
    let fill = (accepted refusal none).fill in
    let rows = c.print_column.ensures.units_are _ c.fill_both-rows.ensures.filled.low_row in
    rw none (record {
      fills = fills_filled fill (sym none ∙ refusal) c.fill_both-rows.ensures.filled.store_is refl;
      prints = row_printed _ (column fill.pool.range) rows;
    })
