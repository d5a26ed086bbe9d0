-- Printed tails in units, and their differences.
-- Assumes nothing.
use Rattle.std.specs.Prelude.{ℕ, ◌≡◌, List, ℤ}
use Rattle.std.proofs.Common.{arith}
use Rattle.kept.specs.declared.Kept.{Kept}
use Rattle.steps.specs.Column.{printed_tail}
use Rattle.steps.proofs.Column.Laws.{printed_at_most}
use Rattle.steps.specs.Shifts.{tail_shift}
use Rattle.working.specs.Slices.{entries_after}
use Rattle.working.proofs.Slices.Laws.{after_same}
use Rattle.chances.specs.Tails.{Tails, ColumnReady, RowTailsPrinted}
use Rattle.shift.specs.Differences.{InUnits, shift_at}

-- The printed tails of a row that is ready for its column.
pub tails_in_units : {n : ℕ} {row : List Kept} {printed : List ℕ} → ColumnReady n row → RowTailsPrinted n row printed → InUnits n printed
tails_in_units ready made = record {
  assets = ready.steps.assets;
  at_most = λ k l. rw ((made.tails_are _ ready.steps.entries).entry 0 k (omega arith)) (printed_at_most _ _ ready.falls k);
}

-- Differences of printed tails are the shifts.
pub shifts_are : {n : ℕ} (c base : ℕ → Kept) (printed other : List ℕ) (old : List ℤ) {new : List ℤ} → Tails n printed (printed_tail n c)
    → Tails n other (printed_tail n base) → new ≡ entries_after n (shift_at printed other) 0 old → new ≡ entries_after n (tail_shift n c base) 0 old
unfolding tail_shift
shifts_are {n} c base printed other old made other_made is =
    after_same (shift_at printed other) (tail_shift n c base) old is (λ k l. rw (made.entry 0 k (omega arith), other_made.entry 0 k (omega arith)))
