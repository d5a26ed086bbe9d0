-- What filling one side of the store asks and leaves.
-- Assumes nothing.
use Rattle.std.specs.Prelude.{ℕ, suc, ◌≡◌, List}
use Rattle.model.specs.Number.{triangle}
use Rattle.kept.specs.declared.Kept.{Kept}
use Rattle.kept.specs.declared.Side.{Side}
use Rattle.steps.specs.CorrelatedBinomial.Rows.{kept_row}
use Rattle.steps.specs.Inputs.{working_assets, InRange}
use Rattle.working.specs.Working.{working_places, Entries}
use Rattle.working.specs.Slices.{SideStore, HasPlaces}
use Rattle.rows.specs.Store.{filled_side}
pub mod Laws

-- What filling rows 0 to n of one side asks of its inputs and of the side.
pub record Fillable (n p ρ : ℕ) (h : SideStore) : Type 0 where
  pub range : InRange working_assets n p ρ
  pub room : HasPlaces (triangle (suc n)) h

-- What it leaves: the side, h' where it was h, and row n.
pub record Filled (side : Side) (n p ρ : ℕ) (h h' : SideStore) (row : List Kept) : Type 0 where
  pub store_is : h' ≡ filled_side side n p ρ h
  pub last : Entries working_places (suc n) row (kept_row side p ρ n)
