-- Step 5 and the printed column over a working row.
-- Assumes nothing.
use Rattle.std.specs.Prelude.{ℕ, suc, ◌+◌, ◌-◌, ◌≤◌, ◌≡◌, List, get_or}
use Rattle.model.specs.Fraction.{AtMost, integer}
use Rattle.kept.specs.declared.Kept.{Kept}
use Rattle.kept.specs.declared.Side.{Side}
use Rattle.kept.specs.declared.Side.TheVariants.{Low}
use Rattle.kept.specs.Rounding.{IsKept, value}
use Rattle.steps.specs.Chances.{kept_chances, kept_tail}
use Rattle.steps.specs.Column.{printed_tail, printed_row}
use Rattle.steps.specs.Inputs.{working_assets}
use Rattle.working.specs.Working.{working_places, Entries}
use Rattle.working.specs.Slices.{entries_after}
use Rattle.chances.specs.Chances.{StepsReady}
pub mod Laws

-- The tails at 0 to n + 1 stand in a row that has one place more than a working row.
abbrev pub Tails : {A : Type 0} (n : ℕ) → List A → (ℕ → A) → Type 0
Tails n row f = Entries (suc working_places) (suc (suc n)) row f

-- What step 5 leaves: the tails.
pub record TailsMade (side : Side) (n : ℕ) (chances tails : List Kept) : Type 0 where
  pub tails_are : (c : ℕ → Kept) → Entries working_places (suc n) chances c → Tails n tails (kept_tail side n c)

-- What printing asks of the tails of the low side: kept numbers of at most two.
pub record Printable (n : ℕ) (tails : List Kept) : Type 0 where
  pub assets : n ≤ working_assets
  pub tail : ℕ → Kept
  pub entries : Tails n tails tail
  pub kept : (k : ℕ) → k ≤ suc n → IsKept (tail k)
  pub at_most_two : (k : ℕ) → k ≤ suc n → AtMost (value (tail k)) (integer 2)

-- What it leaves: the printed tails.
pub record TailsPrinted (n : ℕ) (tails : List Kept) (printed : List ℕ) : Type 0 where
  pub printed_are : (c : ℕ → Kept) → Tails n tails (kept_tail Low n c) → Tails n printed (printed_tail n c)

-- Printed tails that do not grow.
pub record Falling (n : ℕ) (printed : List ℕ) : Type 0 where
  pub assets : n ≤ working_assets
  pub falls : (k : ℕ) → k ≤ n → get_or printed (k + 1) 0 ≤ get_or printed k 0

-- What the tail at k has more than the next.
abbrev pub difference_at : List ℕ → ℕ → ℕ
difference_at printed k = get_or printed k 0 - get_or printed (k + 1) 0

-- ---- the column of a row

-- What it asks of row n of the low side: no tail is above two, and the printed tails do not grow.
pub record ColumnReady (n : ℕ) (row : List Kept) : Type 0 where
  pub steps : StepsReady Low n row
  pub at_most_two : (k : ℕ) → AtMost (value (kept_tail Low n (kept_chances Low n steps.entry) k)) (integer 2)
  pub falls : (k : ℕ) → printed_tail n (kept_chances Low n steps.entry) (suc k) ≤ printed_tail n (kept_chances Low n steps.entry) k

-- What is printed of it: the tails at 0 to n + 1, and rows 0 to n in a slice that held `old`.
pub record RowTailsPrinted (n : ℕ) (row : List Kept) (printed : List ℕ) : Type 0 where
  pub tails_are : (entry : ℕ → Kept) → Entries working_places (suc n) row entry → Tails n printed (printed_tail n (kept_chances Low n entry))

pub record ColumnPrinted (n : ℕ) (row : List Kept) (old new : List ℕ) : Type 0 where
  pub units_are : (entry : ℕ → Kept) → Entries working_places (suc n) row entry → new ≡ entries_after n (printed_row n (kept_chances Low n entry)) 0 old
