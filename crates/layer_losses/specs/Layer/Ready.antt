-- A row of entries within their budgets, whatever model they come from, is ready for the loss of a layer.
-- Assumes nothing.
use Rattle.std.specs.Prelude.{ℕ, ◌≤◌, List}
use Rattle.model.specs.Fraction.{Fraction}
use Rattle.model.specs.Chances.{Chances}
use Rattle.model.proofs.Chances.Laws.{layer_at_most_one}
use Rattle.kept.specs.declared.Kept.{Kept}
use Rattle.kept.specs.declared.Side.{Side}
use Rattle.kept.specs.declared.Side.TheVariants.{Low, High}
use Rattle.kept.specs.Accuracy.{BudgetFor}
use Rattle.steps.specs.Inputs.{working_assets, LayerInRange}
use Rattle.steps.specs.Budgets.{chance_budget, layer_budget, WithinBudget, WithinPlaces}
use Rattle.steps.proofs.Chances.Laws.{layer_kept}
use Rattle.steps.proofs.Promises.Laws.{row_enclosed}
use Rattle.chances.specs.Chances.{OnSides}
use Rattle.chances.specs.Chances.Ready.{steps_ready, enclosed_answerable}
use Rattle.layer_losses.specs.Layer.{LayerReady}

pub layer_ready : {b m g : ℕ} {r : Chances} {v : ℕ → Fraction} {entry : Side → ℕ → Kept} → WithinBudget b r v entry → WithinPlaces m r v → r.assets ≤ working_assets
    → BudgetFor g (layer_budget r.assets (chance_budget r.assets b)) → {low high : List Kept} → OnSides r.assets low high entry
    → (i j : ℕ) → LayerInRange r.assets i j → LayerReady r.assets low high i j
unfolding steps_ready
layer_ready {r} within placed works fine rows i j layer = record {
  low_ready = record { steps = steps_ready within placed works Low rows.on_low; layer = layer };
  high_ready = record { steps = steps_ready within placed works High rows.on_high; layer = layer };
  answerable =
      enclosed_answerable fine.positive (layer_kept Low r.assets _ i j) (layer_kept High r.assets _ i j) ((row_enclosed within fine).layers i j layer.to)
      (layer_at_most_one r within.complete i j);
}
