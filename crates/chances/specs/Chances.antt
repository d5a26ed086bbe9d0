-- What a step asks of a working row, step 4 over one, and what stands on both sides.
-- Assumes nothing.
use Rattle.std.specs.Prelude.{ℕ, suc, ◌≤◌, List}
use Rattle.model.specs.Fraction.{AtMost, integer}
use Rattle.kept.specs.declared.Kept.{Kept}
use Rattle.kept.specs.declared.Side.{Side}
use Rattle.kept.specs.declared.Side.TheVariants.{Low, High}
use Rattle.kept.specs.Rounding.{IsKept, value}
use Rattle.steps.specs.Chances.{kept_chances}
use Rattle.steps.specs.Exponents.{Ranged}
use Rattle.steps.specs.Numbers.{StepNumber}
use Rattle.steps.specs.Inputs.{working_assets}
use Rattle.working.specs.Working.{working_places, Entries}
pub mod Laws
pub mod Ready

-- What a step asks of a row: its entries 0 to n, and every number that is made of them, have exponents in their range.
pub record RowReady (n : ℕ) (row : List Kept) (Number : (ℕ → Kept) → Kept → Type 0) : Type 0 where
  pub assets : n ≤ working_assets
  pub entry : ℕ → Kept
  pub entries : Entries working_places (suc n) row entry
  pub entry_ranged : (j : ℕ) → j ≤ n → Ranged (entry j)
  pub ranged : {x : Kept} → Number entry x → Ranged x

-- What steps 4 to 6 ask together.
abbrev pub StepsReady : Side → ℕ → List Kept → Type 0
StepsReady side n row = RowReady n row (StepNumber side n)

-- What step 4 leaves: the chances of 0 to n defaults.
pub record ChancesMade (side : Side) (n : ℕ) (row r : List Kept) : Type 0 where
  pub chances : (entry : ℕ → Kept) → Entries working_places (suc n) row entry → Entries working_places (suc n) r (kept_chances side n entry)

-- ---- both sides

-- What stands in two working rows, that of the low side and that of the high one.
pub record OnSides (n : ℕ) (low high : List Kept) (c : Side → ℕ → Kept) : Type 0 where
  pub on_low : Entries working_places (suc n) low (c Low)
  pub on_high : Entries working_places (suc n) high (c High)

-- Two bounds that a call can answer from: kept numbers in their order, at most two.
pub record Answerable (low high : Kept) : Type 0 where
  pub low_kept : IsKept low
  pub high_kept : IsKept high
  pub order : AtMost (value low) (value high)
  pub most : AtMost (value high) (integer 2)
