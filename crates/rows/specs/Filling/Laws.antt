-- The rows of one side of the store, one after the other.
-- Assumes nothing.
use Rattle.std.specs.Prelude.{ℕ, suc, ◌+◌, ◌≤◌, ◌<◌, ◌≡◌, refl, List}
use Rattle.std.proofs.Common.{suc-le-suc, ap₂, length-set}
use Rattle.std.proofs.Math.Nat.{add_assoc}
use native.Mathlib.Omega.{arith}
use Rattle.std.proofs.Math.Numerals.{add-one}
use Rattle.model.specs.Number.{triangle}
use Rattle.model.specs.Number.Laws.{triangle_mono}
use Rattle.kept.specs.declared.Kept.{Kept}
use Rattle.kept.specs.declared.Side.{Side}
use Rattle.kept.specs.Rounding.{unity}
use Rattle.steps.specs.CorrelatedBinomial.Rows.{kept_row}
use Rattle.steps.specs.Inputs.{working_assets}
use Rattle.working.specs.Working.{working_places, Entries}
use Rattle.working.specs.Slices.{SideStore, side_store, with_number, HasPlaces, SameLengths, Holding, Stored}
use Rattle.working.proofs.Slices.Laws.{holding_none}
use Rattle.rows.specs.Turns.Rows.{first_stored}
use Rattle.rows.specs.Store.{rows_before, stored, filled_side}
use Rattle.rows.specs.Filling.{Fillable, Filled}

pub fillable_first : {n p ρ : ℕ} {h : SideStore} → Fillable n p ρ h → HasPlaces 1 h
unfolding triangle
fillable_first fillable = record { significands = omega arith; exponents = omega arith }

-- Rows 0 to k are stored, row k from the place `at` on, in h' where row 0 was stored in h.
pub record Filling (side : Side) (n p ρ k at : ℕ) (h h' : SideStore) : Type 0 where
  pub room : HasPlaces (triangle (suc n)) h
  pub place : at ≡ triangle k
  pub lengths : SameLengths h h'
  pub holding : {old : SideStore} → Holding (rows_before side p ρ 1) 1 old h → Holding (rows_before side p ρ (suc k)) (at + suc k) old h'

pub filling_none : {side : Side} {n p ρ : ℕ} {old h : SideStore} → Fillable n p ρ old → h ≡ with_number unity 0 old → Filling side n p ρ 0 0 h h
unfolding triangle
filling_none fillable first = record {
  room = rw first (record { significands = rw length-set fillable.room.significands; exponents = rw length-set fillable.room.exponents });
  place = refl;
  lengths = record { significands = refl; exponents = refl };
  holding = λ first. first;
}

module _ {side : Side} {n p ρ k at : ℕ} {h h' : SideStore} (filling : Filling side n p ρ k at h h') where
  -- Row k + 1 has its places.
  pub filling_room : k < n → HasPlaces (at + k + 1 + suc (suc k)) h'
  unfolding triangle
  filling_room l = let below = triangle_mono (suc-le-suc l) in record { significands = omega arith; exponents = omega arith }

  pub filling_low : k ≤ working_assets → at ≤ triangle working_assets
  filling_low l = rw filling.place (triangle_mono l)

  pub filling_more : {to : ℕ} {h'' : SideStore} → to ≡ at + k + 1 → Stored (kept_row side p ρ (k + 1)) (suc (k + 1)) to h' h''
      → Filling side n p ρ (k + 1) to h h''
  unfolding rows_before triangle
  filling_more next stored = record {
    room = filling.room;
    place = rw (add-one k) (omega arith);
    lengths = record { significands = omega arith; exponents = omega arith };
    holding = λ first.
        stored.holding {numbers = rows_before side p ρ (k + 1)}
        (rw (next, add_assoc at k 1, add-one k) (filling.holding first));
  }

  pub filling_all : {old : SideStore} {row : List Kept} → Fillable n p ρ old → h ≡ with_number unity 0 old → k ≡ n
      → Entries working_places (suc n) row (kept_row side p ρ n) → Filled side n p ρ old h' row
  unfolding filled_side stored rows_before
  filling_all {old} fillable first all entries =
      let holding = filling.holding {old = old} (rw first ((first_stored side p ρ (fillable_first fillable)).holding holding_none)) in
      record { store_is = rw (← all) (ap₂ side_store holding.significands holding.exponents); last = entries }
