-- Step 6 over working rows, and the losses of tranches.
-- Assumes nothing.
use Rattle.std.specs.Prelude.{ℕ, suc, ◌-◌, ◌*◌, ◌≤◌, ◌<◌, ◌≡◌, List, map, length, take}
use Rattle.model.specs.Fraction.{whole}
use Rattle.model.specs.Chances.{loss_units}
use Rattle.kept.specs.declared.Kept.{Kept}
use Rattle.kept.specs.declared.Side.{Side}
use Rattle.kept.specs.declared.Side.TheVariants.{Low, High}
use Rattle.kept.specs.Rounding.{of_integer}
use Rattle.steps.specs.Chances.{kept_chances, kept_loss}
use Rattle.steps.specs.Numbers.{LossNumber}
use Rattle.steps.specs.Loss.{LossAnswer, untouched, faint, shown}
use Rattle.steps.specs.Inputs.{TrancheInRange}
use Rattle.steps.specs.declared.Tranche.{Tranche}
use Rattle.steps.specs.Tranches.{tranche_places, tranche_at, TranchesInRange, tranche_loss, tranche_losses}
use Rattle.working.specs.Working.{working_places, Entries}
use Rattle.expected_losses.specs.declared.Loss.{Loss}
use Rattle.expected_losses.specs.declared.Loss.TheVariants.{Untouched, Faint, Shown}
use Rattle.chances.specs.Chances.{RowReady, StepsReady, OnSides, Answerable}
pub mod Laws
pub mod Ready

-- The loss units of 0 to n defaults, as either side has them.
pub record UnitsMade (n : ℕ) (t : Tranche) (r : List Kept) : Type 0 where
  pub units : (side : Side) → Entries working_places (suc n) r (λ X. of_integer side (loss_units n t.recovery t.lower t.upper X))

-- What step 6 asks of chances.
abbrev pub LossReady : Side → ℕ → List Kept → Tranche → Type 0
LossReady side n chances t = RowReady n chances (λ c. LossNumber side n c t.recovery t.lower t.upper)

-- What it leaves: the expected loss.
pub record LossMade (side : Side) (n : ℕ) (chances : List Kept) (t : Tranche) (r : Kept) : Type 0 where
  pub loss : (c : ℕ → Kept) → Entries working_places (suc n) chances c → (wide : 0 < (t.upper - t.lower) * n) → r ≡ kept_loss side n c t.recovery t.lower t.upper wide

-- ---- the answer

-- The scope paper's values for each case of a loss: no number, one, or the low and the high bound.
unfoldable pub loss_of : Loss → LossAnswer
loss_of Untouched = untouched
loss_of (Faint x) = faint x
loss_of (Shown b) = shown b.low b.high

-- Those of the losses of tranches.
unfoldable pub losses_in : List Loss → List LossAnswer
losses_in losses = map loss_of losses

-- ---- from the chances of either side

module _ (n : ℕ) (low high : List Kept) where
  -- What the loss of a tranche asks.
  pub record TrancheReady (t : Tranche) : Type 0 where
    pub not_empty : 0 < n
    pub tranche : TrancheInRange t.recovery t.lower t.upper
    pub low_ready : LossReady Low n low t
    pub high_ready : LossReady High n high t
    pub answerable : (wide : 0 < (t.upper - t.lower) * n)
        → Answerable (kept_loss Low n low_ready.entry t.recovery t.lower t.upper wide)
        (kept_loss High n high_ready.entry t.recovery t.lower t.upper wide)

  -- What it leaves: the answer that the two bounds of step 6 give.
  pub record TrancheAnswered (t : Tranche) (loss : LossAnswer) : Type 0 where
    pub answer_is : (c : Side → ℕ → Kept) → OnSides n low high c → loss ≡ tranche_loss n c t

  -- What the losses of tranches ask, and what they are.
  pub record EachReady (ts : List Tranche) : Type 0 where
    pub places : length ts ≤ tranche_places
    pub ready : (i : ℕ) → i < length ts → TrancheReady (tranche_at ts i)

  pub record EachAnswered (ts : List Tranche) (losses : List LossAnswer) : Type 0 where
    pub answers_are : (c : Side → ℕ → Kept) → OnSides n low high c → losses ≡ tranche_losses n c ts

-- ---- from row n of either side

module _ (n : ℕ) (low high : List Kept) where
  -- What the losses of the tranches within a count ask of row n of either side.
  pub record TranchesReady (ts : List Tranche) (count : ℕ) : Type 0 where
    pub low_ready : StepsReady Low n low
    pub high_ready : StepsReady High n high
    pub not_empty : 0 < n
    pub places : count ≤ tranche_places
    pub tranches : TranchesInRange (take count ts)
    pub answerable : (R A B : ℕ) → B ≤ whole → (wide : 0 < (B - A) * n)
        → Answerable (kept_loss Low n (kept_chances Low n low_ready.entry) R A B wide) (kept_loss High n (kept_chances High n high_ready.entry) R A B wide)

  -- What they are, from the tranches within the count.
  pub record TranchesAnswered (ts : List Tranche) (losses : List LossAnswer) : Type 0 where
    pub losses_are : (entry : Side → ℕ → Kept) → OnSides n low high entry → losses ≡ tranche_losses n (λ side. kept_chances side n (entry side)) ts
