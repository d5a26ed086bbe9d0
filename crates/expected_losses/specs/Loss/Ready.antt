-- A row of entries within their budgets, whatever model they come from, is ready for tranche losses.
-- Assumes nothing.
use Rattle.std.specs.Prelude.{ℕ, ◌≤◌, ◌<◌, List, take}
use Rattle.model.specs.Fraction.{Fraction}
use Rattle.model.specs.Chances.{Chances}
use Rattle.model.proofs.Chances.Laws.{loss_at_most_one}
use Rattle.kept.specs.declared.Kept.{Kept}
use Rattle.kept.specs.declared.Side.{Side}
use Rattle.kept.specs.declared.Side.TheVariants.{Low, High}
use Rattle.kept.specs.Accuracy.{BudgetFor}
use Rattle.steps.specs.Inputs.{working_assets}
use Rattle.steps.specs.declared.Tranche.{Tranche}
use Rattle.steps.specs.Tranches.{tranche_places, TranchesInRange}
use Rattle.steps.specs.Budgets.{chance_budget, layer_budget, WithinBudget, WithinPlaces}
use Rattle.steps.proofs.Chances.Laws.{loss_kept}
use Rattle.steps.proofs.Promises.Laws.{row_enclosed}
use Rattle.chances.specs.Chances.{OnSides}
use Rattle.chances.specs.Chances.Ready.{steps_ready, enclosed_answerable}
use Rattle.expected_losses.specs.Loss.{TranchesReady}

module _
    {b m : ℕ} {r : Chances} {v : ℕ → Fraction} {entry : Side → ℕ → Kept} (within : WithinBudget b r v entry) (placed : WithinPlaces m r v)
    (works : r.assets ≤ working_assets) where
  pub tranches_ready : {g : ℕ} → BudgetFor g (layer_budget r.assets (chance_budget r.assets b)) → {low high : List Kept}
      → OnSides r.assets low high entry → 0 < r.assets → {ts : List Tranche} {count : ℕ} → count ≤ tranche_places → TranchesInRange (take count ts)
      → TranchesReady r.assets low high ts count
  unfolding steps_ready
  tranches_ready fine rows not_empty places tranches = record {
    low_ready = steps_ready within placed works Low rows.on_low;
    high_ready = steps_ready within placed works High rows.on_high;
    not_empty = not_empty;
    places = places;
    tranches = tranches;
    answerable = λ R A B B≤1 wide.
        enclosed_answerable fine.positive (loss_kept Low r.assets _ R A B wide) (loss_kept High r.assets _ R A B wide)
        ((row_enclosed within fine).losses R A B B≤1 wide) (loss_at_most_one r R A B wide within.complete);
  }
