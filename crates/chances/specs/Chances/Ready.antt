-- When two bounds can be answered from; and a row of entries within their budgets, whatever model they come from, is ready for steps 4 to 6, and for printing its column.
-- Assumes nothing.
use Rattle.std.specs.Prelude.{ℕ, suc, ◌≤◌, ◌<◌, List}
use Rattle.std.proofs.Common.{arith}
use Rattle.model.specs.Fraction.{Fraction, AtMost, certainty, integer}
use Rattle.model.specs.Fraction.Laws.{at_most_trans}
use Rattle.model.specs.Chances.{Chances}
use Rattle.model.proofs.Chances.Laws.{tail_at_most_one}
use Rattle.kept.specs.declared.Kept.{Kept}
use Rattle.kept.specs.declared.Side.{Side}
use Rattle.kept.specs.declared.Side.TheVariants.{Low}
use Rattle.kept.specs.Rounding.{IsKept}
use Rattle.steps.specs.Inputs.{working_assets}
use Rattle.steps.specs.Budgets.{WithinBudget, WithinPlaces}
use Rattle.steps.proofs.Chances.Laws.{tail_bound}
use Rattle.steps.proofs.Column.Laws.{printed_falls}
use Rattle.steps.specs.Enclosure.{Enclosed}
use Rattle.steps.proofs.Loss.Laws.{high_to_two}
use Rattle.steps.proofs.Promises.Laws.{chances_bounded, entries_ranged, steps_ranged}
use Rattle.working.specs.Working.{working_places, Entries}
use Rattle.chances.specs.Chances.{StepsReady, Answerable}
use Rattle.chances.specs.Tails.{ColumnReady}

certainty_at_most_two : AtMost certainty (integer 2)
unfolding certainty integer
certainty_at_most_two = omega arith

-- Bounds that enclose an exact value of at most one.
pub enclosed_answerable : {g : ℕ} {low high : Kept} {v : Fraction} → 0 < g → IsKept low → IsKept high → Enclosed g low high v → AtMost v certainty → Answerable low high
enclosed_answerable positive low_kept high_kept enclosed most = record {
  low_kept = low_kept;
  high_kept = high_kept;
  order = at_most_trans enclosed.from_below enclosed.from_above;
  most = high_to_two positive enclosed most;
}

module _
    {b m : ℕ} {r : Chances} {v : ℕ → Fraction} {entry : Side → ℕ → Kept} (within : WithinBudget b r v entry) (placed : WithinPlaces m r v)
    (works : r.assets ≤ working_assets) where
  unfoldable pub steps_ready : (side : Side) {row : List Kept} → Entries working_places (suc r.assets) row (entry side) → StepsReady side r.assets row
  steps_ready side entries = record {
    assets = works;
    entry = entry side;
    entries = entries;
    entry_ranged = entries_ranged within placed side;
    ranged = steps_ranged within placed side;
  }

  pub column_ready : {row : List Kept} → Entries working_places (suc r.assets) row (entry Low) → ColumnReady r.assets row
  unfolding steps_ready
  column_ready entries = record {
    steps = steps_ready Low entries;
    at_most_two = λ k.
        at_most_trans (tail_bound (chances_bounded within) Low k).order (at_most_trans (tail_at_most_one r within.complete k) certainty_at_most_two);
    falls = printed_falls (chances_bounded within) within.complete;
  }
