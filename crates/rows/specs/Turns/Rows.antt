-- From row 0 to row n by turns.
-- Assumes nothing.
use Rattle.std.specs.Prelude.{ℕ, suc, ◌+◌, ◌≤◌, ◌<◌, ◌≡◌, refl, List}
use Rattle.std.proofs.Common.{le_refl, le_trans, arith}
use Rattle.std.proofs.Math.Numerals.{add-one}
use Rattle.kept.specs.declared.Kept.{Kept}
use Rattle.kept.specs.declared.Side.{Side}
use Rattle.kept.specs.Rounding.{unity}
use Rattle.steps.specs.CorrelatedBinomial.Rows.{kept_weight, kept_row}
use Rattle.steps.specs.Inputs.{working_assets, InRange}
use Rattle.steps.proofs.Inputs.Laws.{range_below}
use Rattle.working.specs.Working.{working_places, Entries}
use Rattle.working.specs.Working.Laws.{entries_same}
use Rattle.working.specs.Slices.{SideStore, with_number, number_at, HasPlaces, Standing, Readable, Stored}
use Rattle.working.proofs.Slices.Laws.{stored_none, stored_more, stored_standing, stored_start}
use Rattle.rows.specs.declared.Recurrence.{Recurrence}
use Rattle.rows.specs.Turns.{recurrence, Continuable, Continued, MadeFrom, Turnable, Turned}

-- Row k stands from the place `at` on, the weights stand, and step 2 has reached k.
pub record AtRow (side : Side) (n p ρ k at : ℕ) (step : Recurrence) (weights h : SideStore) : Type 0 where
  pub range : InRange working_assets n p ρ
  pub within : k ≤ n
  pub step_is : step ≡ recurrence side p ρ k
  pub weight : Standing n 0 weights (kept_weight side p ρ)
  pub row : Standing (suc k) at h (kept_row side p ρ k)

-- Row 0 is one.
pub first_stored : (side : Side) (p ρ : ℕ) {h : SideStore} → HasPlaces 1 h → Stored (kept_row side p ρ 0) 1 0 h (with_number unity 0 h)
unfolding kept_row
first_stored side p ρ room = stored_more stored_none room refl

pub row_none : {side : Side} {n p ρ : ℕ} {step : Recurrence} {room weights h h' : SideStore} → InRange working_assets n p ρ
    → step ≡ recurrence side p ρ 0 → Stored (kept_weight side p ρ) n 0 room weights → h' ≡ with_number unity 0 h → HasPlaces 1 h
    → AtRow side n p ρ 0 0 step weights h'
row_none {side} {p} {ρ} range step_is weight first places = record {
  range = range;
  within = omega arith;
  step_is = step_is;
  weight = stored_start weight;
  row = rw first (stored_start (first_stored side p ρ places));
}

module _
    {side : Side} {n p ρ k at : ℕ} {step : Recurrence} {weights h : SideStore}
    (row : AtRow side n p ρ k at step weights h) where
  module _ (l : k < n) where
    row_made : MadeFrom side p ρ k at step weights h
    row_made = record {
      step_is = row.step_is;
      weight = record {
        room = record { significands = omega arith; exponents = omega arith };
        number = λ j b. row.weight.number j (le_trans b l);
      };
      row = row.row;
    }

    pub row_turnable : {to : ℕ} → HasPlaces (to + suc (suc k)) h → Turnable side k at to step weights h
    row_turnable room = record { p = p; ρ = ρ; range = range_below l (le_refl working_assets) row.range; made_from = row_made; room = room }

    pub row_continuable : Continuable side step
    row_continuable = record { p = p; ρ = ρ; k = k; range = range_below l (le_refl working_assets) row.range; is = row.step_is }

    module _ {to : ℕ} {h' : SideStore} (turned : Turned side k (suc (suc k)) at to step weights h h') where
      pub row_stored : Stored (kept_row side p ρ (k + 1)) (suc (k + 1)) to h h'
      row_stored = rw (add-one k) (turned.stored row_made)

      pub row_next : {step' : Recurrence} → Continued side step step' → HasPlaces (to + suc (suc k)) h
          → AtRow side n p ρ (k + 1) to step' weights h'
      row_next continued room = record {
        range = row.range;
        within = omega arith;
        step_is = rw (add-one k) (continued.next p ρ k row.step_is);
        weight = row.weight;
        row = stored_standing row_stored (record { significands = omega arith; exponents = omega arith });
      }

  -- Row n is read.
  module _ (last : k ≡ n) where
    pub row_readable : Readable (n + 1) at h
    unfolding working_places
    row_readable = rw (← last, add-one k) (record { places = omega (arith, row.range.assets); room = row.row.room })

    pub row_read : {r : List Kept} → Entries working_places (n + 1) r (λ j. number_at h (at + j)) → Entries working_places (suc n) r (kept_row side p ρ n)
    row_read entries = entries_same (rw (add-one n) at entries) (rw last at row.row.number)
