-- One turn of the table, from row k to row k + 1: what its functions ask and leave.
-- Assumes nothing.
use Rattle.std.specs.Prelude.{ℕ, suc, ◌+◌, ◌≡◌, List}
use Rattle.model.specs.Fraction.{complement}
use Rattle.model.specs.Passes.{passed}
use Rattle.kept.specs.declared.Kept.{Kept}
use Rattle.kept.specs.declared.Side.{Side}
use Rattle.steps.specs.CorrelatedBinomial.Rows.{constant, kept_conditional, kept_joint, kept_weight, kept_pass_step, kept_row}
use Rattle.steps.specs.Inputs.{working_assets, InRange}
use Rattle.working.specs.Working.{working_places, Entries}
use Rattle.working.specs.Slices.{SideStore, HasPlaces, Standing, Stored}
use Rattle.rows.specs.declared.Recurrence.{Recurrence}
pub mod Laws
pub mod Rows

-- ρ and q, p_(k+1) and m_(k+1), by steps 1 and 2.
unfoldable pub recurrence : (side : Side) (p ρ k : ℕ) → Recurrence
recurrence side p ρ k = record {
  correlation = constant side ρ;
  q = constant side (complement ρ);
  conditional = kept_conditional side p ρ k;
  joint = kept_joint side p ρ k;
}

-- What going on from k to k + 1 asks.
pub record Continuable (side : Side) (step : Recurrence) : Type 0 where
  pub p : ℕ
  pub ρ : ℕ
  pub k : ℕ
  pub range : InRange working_assets (suc k) p ρ
  pub is : step ≡ recurrence side p ρ k

-- What it leaves, in r where it was `step`.
pub record Continued (side : Side) (step r : Recurrence) : Type 0 where
  pub next : (p ρ k : ℕ) → step ≡ recurrence side p ρ k → r ≡ recurrence side p ρ (suc k)

-- What g_0 to g_(n−1) ask of the inputs and of the side that they go to.
pub record Weighable (n p ρ : ℕ) (h : SideStore) : Type 0 where
  pub range : InRange working_assets n p ρ
  pub room : HasPlaces n h

-- What the passes over row k ask: a pool in range, the kept correlation, and the row, which stands from a place on.
pub record Passable (side : Side) (k from : ℕ) (correlation : Kept) (h : SideStore) : Type 0 where
  pub p : ℕ
  pub ρ : ℕ
  pub range : InRange working_assets k p ρ
  pub correlation_is : correlation ≡ constant side ρ
  pub row : Standing (suc k) from h (kept_row side p ρ k)

-- What s passes leave in r.
pub record Passed (side : Side) (correlation : Kept) (k s from : ℕ) (h : SideStore) (r : List Kept) : Type 0 where
  pub entries : (f : ℕ → Kept) → Standing (suc k) from h f
      → Entries working_places (suc k) r (passed (kept_pass_step side correlation) (suc k) s f)

-- What row k + 1 is made from: the numbers of step 2, the weights, and row k, which stands from a place on.
pub record MadeFrom (side : Side) (p ρ k from : ℕ) (step : Recurrence) (weights h : SideStore) : Type 0 where
  pub step_is : step ≡ recurrence side p ρ k
  pub weight : Standing (suc k) 0 weights (kept_weight side p ρ)
  pub row : Standing (suc k) from h (kept_row side p ρ k)

-- What a turn asks: these, of a pool in range, and the places of row k + 1.
pub record Turnable (side : Side) (k from to : ℕ) (step : Recurrence) (weights h : SideStore) : Type 0 where
  pub p : ℕ
  pub ρ : ℕ
  pub range : InRange working_assets (suc k) p ρ
  pub made_from : MadeFrom side p ρ k from step weights h
  pub room : HasPlaces (to + suc (suc k)) h

-- What it leaves after m entries of row k + 1, in h' where it was h.
pub record Turned (side : Side) (k m from to : ℕ) (step : Recurrence) (weights h h' : SideStore) : Type 0 where
  pub stored : {p ρ : ℕ} → MadeFrom side p ρ k from step weights h → Stored (kept_row side p ρ (suc k)) m to h h'
