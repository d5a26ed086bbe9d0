-- What the call for a shift list promises, from what the steps give.
-- Assumes nothing.
use Rattle.std.specs.Prelude.{ℕ, ◌<◌, ◌≡◌, refl, List, ℤ, pos}
use Rattle.model.specs.CorrelatedBinomial.{defaults}
use Rattle.kept.specs.declared.Side.TheVariants.{Low}
use Rattle.steps.specs.Column.{tenths}
use Rattle.steps.specs.Shifts.{tail_shift}
use Rattle.steps.specs.CorrelatedBinomial.{kept_defaults}
use Rattle.steps.proofs.CorrelatedBinomial.Theorems.{shifts}
use Rattle.steps.specs.Inputs.{report_pool, shift_tenths, InRange}
use Rattle.steps.specs.Promises.{HoldsShifts}
use Rattle.working.specs.Slices.{entries_after}
use Rattle.working.proofs.Slices.Laws.{entries_at}

pub listed_holds : {n p ρ : ℕ} → InRange report_pool n p ρ → 0 < n → (old : List ℤ) {new : List ℤ}
    → new ≡ entries_after n (tail_shift n (kept_defaults Low n p ρ) (kept_defaults Low n p 0)) 0 old
    → HoldsShifts (tenths shift_tenths) (defaults n p ρ) (defaults n p 0) (kept_defaults Low n p ρ) (kept_defaults Low n p 0) new
listed_holds {n} {p} {ρ} range some old is = shifts range some (entries_at n (tail_shift n (kept_defaults Low n p ρ) (kept_defaults Low n p 0)) old is refl (pos 0))
