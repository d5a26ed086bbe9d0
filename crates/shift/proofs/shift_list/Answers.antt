-- `shift_list` meets its contract.
use Rattle.std.proofs.Common.{ℕ, ◌≡◌, List, refl, sym, ◌∙◌, lit<}
use Rattle.steps.specs.CorrelatedBinomial.{kept_defaults}
use Rattle.steps.proofs.CorrelatedBinomial.Theorems.{pool_budgets, steps_hold}
use Rattle.steps.specs.Inputs.{report_pool}
use Rattle.steps.proofs.Inputs.Laws.{range_uncorrelated, report_range, working_range}
use Rattle.working.proofs.Slices.Laws.{entries_untouched}
use Rattle.grounds.specs.Grounds.{first_ground, shift_grounds, EntriesAccepted}
use Rattle.grounds.specs.Grounds.Laws.{entries_accepted, report_fill_accepted}
use Rattle.store.proofs.Calls.Laws.{fills_untouched, fills_filled}
use Rattle.pool.specs.Calls.Laws.{column_is_ready}
use Rattle.shift.specs.Calls.{shift_refusal}
use Rattle.shift.specs.Calls.Laws.{listed_holds}
use Rattle.grounds.proofs.Refusals.{err_some, ok_none}
use Rattle.shift.proofs.shift_list.Goals as goal

-- What the inputs of a call that no ground refuses are.
accepted : {n p ρ places refusal : ℕ} {slices : List ℕ} → refusal ≡ first_ground (shift_grounds report_pool n p ρ slices places) → refusal ≡ 0
    → EntriesAccepted report_pool n p ρ slices places
unfolding shift_grounds
accepted = entries_accepted 10 _ _ _ _ _ _ (lit< tt)

pub returns-then-is_err-clause-lists : goal.returns-then-is_err-clause-lists
unfolding shift_refusal report_pool
returns-then-is_err-clause-lists c =
    let some = (err_some _ c.is_err.ensures.value c.if-is_err.true) in
    record {
      fills = fills_untouched some (rw c.lengths.ensures at c.shift_refusal-answer.ensures);
      uncorrelated_hold = λ none. absurd (some none);
      shifts_are = entries_untouched _ _ _ _ some;
      holds_shifts = λ none. absurd (some none);
    }

pub fill_both-rows-requires : goal.fill_both-rows-requires
unfolding report_pool
fill_both-rows-requires c = report_fill_accepted (accepted (rw c.lengths.ensures at c.shift_refusal-answer.ensures) (ok_none _ c.is_err.ensures.value c.if-is_err.false)).fill

pub last_row-base-requires : goal.last_row-base-requires
unfolding report_pool
last_row-base-requires c =
    working_range (range_uncorrelated (report_range (accepted (rw c.lengths.ensures at c.shift_refusal-answer.ensures) (ok_none _ c.is_err.ensures.value c.if-is_err.false)).fill.pool.range))

pub print_shifts-requires-clause-ready : goal.print_shifts-requires-clause-ready
unfolding report_pool
print_shifts-requires-clause-ready c =
    column_is_ready (report_range (accepted (rw c.lengths.ensures at c.shift_refusal-answer.ensures) (ok_none _ c.is_err.ensures.value c.if-is_err.false)).fill.pool.range) c.fill_both-rows.ensures.filled.low_row

pub print_shifts-requires-clause-base_ready : goal.print_shifts-requires-clause-base_ready
unfolding report_pool
print_shifts-requires-clause-base_ready c =
    column_is_ready (range_uncorrelated (report_range (accepted (rw c.lengths.ensures at c.shift_refusal-answer.ensures) (ok_none _ c.is_err.ensures.value c.if-is_err.false)).fill.pool.range))
    c.last_row-base.ensures

pub print_shifts-requires-clause-places : goal.print_shifts-requires-clause-places
unfolding report_pool
print_shifts-requires-clause-places c = (accepted (rw c.lengths.ensures at c.shift_refusal-answer.ensures) (ok_none _ c.is_err.ensures.value c.if-is_err.false)).entries

pub returns-clause-lists : goal.returns-clause-lists
unfolding shift_refusal report_pool kept_defaults
returns-clause-lists c =
    let refusal = (rw c.lengths.ensures at c.shift_refusal-answer.ensures) in
    let none = (ok_none _ c.is_err.ensures.value c.if-is_err.false) in
    let fill = (accepted refusal none).fill in
    let range = range_uncorrelated (report_range fill.pool.range) in
    let list = c.print_shifts.ensures.shifts_are _ _ c.fill_both-rows.ensures.filled.low_row c.last_row-base.ensures in
    rw none (record {
      fills = fills_filled (report_fill_accepted fill) (sym none ∙ refusal) c.fill_both-rows.ensures.filled.store_is refl;
      uncorrelated_hold = λ _. steps_hold range (pool_budgets range.assets);
      shifts_are = list;
      holds_shifts = λ _. listed_holds fill.pool.range fill.pool.not_empty _ list;
    })
