-- The contract of the call for a shift list implies what is demanded of it.
-- Assumes nothing.
use Rattle.std.specs.Prelude.{ℕ, refl, List, ℤ}
use Rattle.std.proofs.Common.{lit<, lit≤}
use Rattle.model.specs.Fraction.{Fraction, AtMost}
use Rattle.model.specs.Fraction.Laws.{at_most_refl, less_at_most_trans, times_mono}
use Rattle.model.specs.Chances.{Chances, tail}
use Rattle.model.specs.CorrelatedBinomial.{defaults}
use Rattle.kept.specs.declared.Kept.{Kept}
use Rattle.kept.specs.declared.Side.TheVariants.{Low}
use Rattle.steps.specs.Chances.{kept_tail}
use Rattle.steps.specs.Column.{units_of_certainty, exact_units, tenths, printed_tail}
use Rattle.steps.proofs.Column.Laws.{within_weaken}
use Rattle.steps.specs.Shifts.{tail_shift}
use Rattle.steps.specs.Inputs.{up_to, report_pool, fine_pool, distance_for, shift_tenths}
use Rattle.steps.specs.Promises.{HoldsShifts}
use Rattle.grounds.specs.Grounds.{shift_grounds}
use Rattle.grounds.specs.Grounds.Laws.{entries_accepted}
use Rattle.steps.specs.declared.Pool.{Pool}
use Rattle.store.specs.Stores.{Store, lengths}
use Rattle.pool.specs.Demands.{parts_for, one_and_three_tenths, Demand3Shifts, ShiftDemands}
use Rattle.pool.proofs.Demands.Theorems.{slices, steps_meet, entries_meet, printed_meet}
use Rattle.shift.specs.Calls.{shift_refusal, ListsShifts}

-- A shift list of any two rows whose offset is 1.3 units at most.
list_meets : {off : Fraction} {r s : Chances} (low base : ℕ → Kept) {shifts : List ℤ} → AtMost off one_and_three_tenths → HoldsShifts off r s low base shifts
    → Demand3Shifts r.assets (kept_tail Low r.assets low) (kept_tail Low r.assets base) (printed_tail r.assets low) (printed_tail r.assets base)
    (tail r) (tail s) shifts
unfolding units_of_certainty exact_units tail_shift
list_meets {r} low base most holds = record {
  printed_is = printed_meet r.assets low;
  other_is = printed_meet r.assets base;
  entry = holds.entry;
  at_zero = holds.at_zero;
  between = holds.between;
  not_above = λ k l. (within_weaken most (holds.near k l)).not_above;
  not_below = λ k l. (within_weaken most (holds.near k l)).not_below;
  total = less_at_most_trans holds.total (times_mono at_most_refl most);
}

pub shift_meets : {pool head head' : Pool} {before after : Store} {shifts shifts' : List ℤ} {refusal : ℕ} → ListsShifts pool head before after shifts shifts' refusal head'
    → ShiftDemands pool head (slices before) (slices after) shifts shifts' refusal head'
unfolding shift_refusal shift_grounds lengths report_pool up_to fine_pool distance_for parts_for tenths shift_tenths one_and_three_tenths defaults
shift_meets lists = record {
  leaves = entries_meet lists.fills _ _ refl (λ none. (entries_accepted 10 _ _ _ _ _ _ (lit< tt) lists.fills.refusal_is none).entries) lists.shifts_are;
  uncorrelated = λ none. steps_meet (lists.uncorrelated_hold none);
  list = λ none. list_meets _ _ (record { cross = lit≤ tt }) (lists.holds_shifts none);
}
