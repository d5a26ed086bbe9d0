-- A layer over working rows, and its loss.
-- Assumes nothing.
use Rattle.std.specs.Prelude.{ℕ, suc, ◌+◌, ◌≤◌, ◌≡◌, List}
use Rattle.model.specs.Chances.{layer_width, layer_wide}
use Rattle.kept.specs.declared.Kept.{Kept}
use Rattle.kept.specs.declared.Side.{Side}
use Rattle.kept.specs.declared.Side.TheVariants.{Low, High}
use Rattle.kept.specs.Rounding.{rounded_quotient}
use Rattle.steps.specs.Chances.{kept_total, kept_chances, kept_layer}
use Rattle.steps.specs.Exponents.{Ranged}
use Rattle.steps.specs.Loss.{LossAnswer}
use Rattle.steps.specs.Layers.{loss_of_layer}
use Rattle.steps.specs.Inputs.{working_assets, LayerInRange}
use Rattle.working.specs.Working.{working_places, Entries}
use Rattle.chances.specs.Chances.{StepsReady, OnSides, Answerable}
pub mod Laws
pub mod Ready

-- What the mean of the tails at i to j asks: these and the sums of them have exponents in their range.
pub record MeanReady (side : Side) (tails : List Kept) (i j : ℕ) : Type 0 where
  pub layer : LayerInRange working_assets i j
  pub tail : ℕ → Kept
  pub entries : Entries (suc working_places) (suc j) tails tail
  pub tail_ranged : (k : ℕ) → k ≤ j → Ranged (tail k)
  pub sum_ranged : (m : ℕ) → m ≤ layer_width i j → Ranged (kept_total side (λ t. tail (i + t)) m)

-- What it leaves.
pub record MeanMade (side : Side) (tails : List Kept) (i j : ℕ) (r : Kept) : Type 0 where
  pub mean : (tail : ℕ → Kept) → Entries (suc working_places) (suc j) tails tail
      → r ≡ rounded_quotient side (kept_total side (λ t. tail (i + t)) (layer_width i j)) (layer_width i j) (layer_wide i j)

-- What one bound of a layer asks of row n of its side.
pub record BoundReady (side : Side) (n : ℕ) (row : List Kept) (i j : ℕ) : Type 0 where
  pub steps : StepsReady side n row
  pub layer : LayerInRange n i j

-- What it leaves.
pub record BoundMade (side : Side) (n : ℕ) (row : List Kept) (i j : ℕ) (r : Kept) : Type 0 where
  pub bound : (entry : ℕ → Kept) → Entries working_places (suc n) row entry → r ≡ kept_layer side n (kept_chances side n entry) i j

module _ (n : ℕ) (low high : List Kept) (i j : ℕ) where
  -- What the loss of a layer asks of row n of either side.
  pub record LayerReady : Type 0 where
    pub low_ready : BoundReady Low n low i j
    pub high_ready : BoundReady High n high i j
    pub answerable : Answerable (kept_layer Low n (kept_chances Low n low_ready.steps.entry) i j) (kept_layer High n (kept_chances High n high_ready.steps.entry) i j)

  -- What it is.
  pub record LayerAnswered (loss : LossAnswer) : Type 0 where
    pub loss_is : (entry : Side → ℕ → Kept) → OnSides n low high entry → loss ≡ loss_of_layer n (λ side. kept_chances side n (entry side)) i j
