-- The numbers that steps 4 to 6 and layers make, for any row. Each has an exponent in its range.
-- Assumes nothing.
use Rattle.std.specs.Prelude.{ℕ, suc, ◌+◌, ◌-◌, ◌*◌, ◌≤◌, ◌<◌}
use Rattle.model.specs.Fraction.{whole}
use Rattle.model.specs.Chances.{loss_units, layer_width}
use Rattle.kept.specs.declared.Kept.{Kept}
use Rattle.kept.specs.declared.Side.{Side}
use Rattle.kept.specs.Rounding.{of_integer}
use Rattle.steps.specs.Counts.{CountNumber}
use Rattle.steps.specs.Chances.{kept_total, kept_chance, kept_chances, kept_tail, kept_term, kept_loss, kept_layer}

-- Every number that step 4 makes for n assets from the entries of a row.
pub data ChanceNumber (side : Side) (n : ℕ) (entry : ℕ → Kept) : Kept → Type 0 where
  of_counts : {x : Kept} → CountNumber side n x → ChanceNumber side n entry x
  is_chance : (j : ℕ) → j ≤ n → ChanceNumber side n entry (kept_chance side n j (entry j))

-- Every number that step 5 makes for n assets from chances c.
pub data TailNumber (side : Side) (n : ℕ) (c : ℕ → Kept) : Kept → Type 0 where
  is_tail : (m : ℕ) → m ≤ suc n → TailNumber side n c (kept_total side (λ i. c (n - i)) m)

-- Every number that step 6 makes for a tranche on n assets from chances c.
pub data LossNumber (side : Side) (n : ℕ) (c : ℕ → Kept) (R A B : ℕ) : Kept → Type 0 where
  is_units : (X : ℕ) → X ≤ n → LossNumber side n c R A B (of_integer side (loss_units n R A B X))
  is_term : (X : ℕ) → X ≤ n → LossNumber side n c R A B (kept_term side n c R A B X)
  is_total : (m : ℕ) → m ≤ suc n → LossNumber side n c R A B (kept_total side (kept_term side n c R A B) m)
  is_loss : (wide : 0 < (B - A) * n) → LossNumber side n c R A B (kept_loss side n c R A B wide)

-- Every number that is made for a layer on n assets from chances c, past its tails.
pub data LayerNumber (side : Side) (n : ℕ) (c : ℕ → Kept) (i j : ℕ) : Kept → Type 0 where
  is_sum : (m : ℕ) → m ≤ layer_width i j → LayerNumber side n c i j (kept_total side (λ t. kept_tail side n c (i + t)) m)
  is_layer : LayerNumber side n c i j (kept_layer side n c i j)

-- Every number that steps 4 to 6 make for n assets from the entries of a row, for each tranche, and those of each layer.
pub data StepNumber (side : Side) (n : ℕ) (entry : ℕ → Kept) : Kept → Type 0 where
  of_chances : {x : Kept} → ChanceNumber side n entry x → StepNumber side n entry x
  of_tails : {x : Kept} → TailNumber side n (kept_chances side n entry) x → StepNumber side n entry x
  of_losses : {x : Kept} (R A B : ℕ) → B ≤ whole → LossNumber side n (kept_chances side n entry) R A B x → StepNumber side n entry x
  of_layers : {x : Kept} (i j : ℕ) → j ≤ n → LayerNumber side n (kept_chances side n entry) i j x → StepNumber side n entry x
