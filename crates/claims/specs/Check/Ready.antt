-- A row of entries within their budgets, whatever model they come from, is ready for the check of a claim.
-- Assumes nothing.
use Rattle.std.specs.Prelude.{ℕ, ◌≤◌, ◌<◌, List, length}
use Rattle.model.specs.Fraction.{Fraction}
use Rattle.model.specs.Chances.{Chances}
use Rattle.model.proofs.Chances.Laws.{chance_at_most_one}
use Rattle.kept.specs.declared.Kept.{Kept}
use Rattle.kept.specs.declared.Side.{Side}
use Rattle.kept.specs.declared.Side.TheVariants.{Low, High}
use Rattle.kept.specs.Accuracy.{BudgetFor}
use Rattle.steps.specs.Inputs.{working_assets}
use Rattle.steps.specs.Budgets.{chance_budget, layer_budget, WithinBudget, WithinPlaces}
use Rattle.steps.proofs.Promises.Laws.{chances_bounded, row_enclosed}
use Rattle.chances.specs.Chances.{OnSides}
use Rattle.chances.specs.Chances.Ready.{steps_ready, enclosed_answerable}
use Rattle.claims.specs.Check.{CheckReady}

pub check_ready : {b m g : ℕ} {r : Chances} {v : ℕ → Fraction} {entry : Side → ℕ → Kept} → WithinBudget b r v entry → WithinPlaces m r v → r.assets ≤ working_assets
    → BudgetFor g (layer_budget r.assets (chance_budget r.assets b)) → {low high : List Kept} → OnSides r.assets low high entry
    → {claims : List ℕ} → r.assets < length claims → CheckReady r.assets low high claims
unfolding steps_ready
check_ready {r} within placed works fine rows claimed = record {
  low_ready = steps_ready within placed works Low rows.on_low;
  high_ready = steps_ready within placed works High rows.on_high;
  answerable = λ k l.
      enclosed_answerable fine.positive ((chances_bounded within).bound Low k l).kept ((chances_bounded within).bound High k l).kept ((row_enclosed within fine).chances l)
      (chance_at_most_one r within.complete l);
  claimed = claimed;
}
