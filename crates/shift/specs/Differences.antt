-- The differences of the printed tails of two rows of the low side.
-- Assumes nothing.
use Rattle.std.specs.Prelude.{ℕ, suc, ◌≤◌, ◌≡◌, List, ℤ, pos, ◌-ℤ◌, get_or}
use Rattle.kept.specs.declared.Kept.{Kept}
use Rattle.kept.specs.declared.Side.TheVariants.{Low}
use Rattle.steps.specs.Chances.{kept_chances}
use Rattle.steps.specs.Column.{units_of_certainty}
use Rattle.steps.specs.Shifts.{tail_shift}
use Rattle.steps.specs.Inputs.{working_assets}
use Rattle.working.specs.Working.{working_places, Entries}
use Rattle.working.specs.Slices.{entries_after}
pub mod Laws

-- Printed tails at 0 to n of at most 100,000 units.
pub record InUnits (n : ℕ) (printed : List ℕ) : Type 0 where
  pub assets : n ≤ working_assets
  pub at_most : (k : ℕ) → k ≤ n → get_or printed k 0 ≤ units_of_certainty

-- The first printed tail at k less the second.
abbrev pub shift_at : (printed base : List ℕ) → ℕ → ℤ
shift_at printed base k = pos (get_or printed k 0) -ℤ pos (get_or base k 0)

-- What two rows leave in a slice that held `old`: entries 0 to n of their shift list.
pub record ShiftsPrinted (n : ℕ) (row base : List Kept) (old new : List ℤ) : Type 0 where
  pub shifts_are : (entry other : ℕ → Kept) → Entries working_places (suc n) row entry → Entries working_places (suc n) base other
      → new ≡ entries_after n (tail_shift n (kept_chances Low n entry) (kept_chances Low n other)) 0 old
