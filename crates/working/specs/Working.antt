-- The working row, the scope paper's term for the array of kept numbers in which one row at a time is worked out.
-- Assumes nothing.
use Rattle.std.specs.Prelude.{ℕ, suc, ◌≤◌, ◌<◌, ◌≡◌, List, length, get_or}
use Rattle.steps.specs.Inputs.{working_assets}
pub mod Laws

-- Of the places of a row, the first m hold f 0 to f (m − 1).
pub record Entries {A : Type 0} (places m : ℕ) (row : List A) (f : ℕ → A) : Type 0 where
  pub places_are : length row ≡ places
  pub entry : (d : A) (j : ℕ) → j < m → get_or row j d ≡ f j

-- Of the first m entries of w, those below j are those of f, and the others are still those of `row`.
pub record Changed {A : Type 0} (places m j : ℕ) (row w : List A) (f : ℕ → A) : Type 0 where
  pub new : Entries places j w f
  pub old : (d : A) (i : ℕ) → j ≤ i → i < m → get_or w i d ≡ get_or row i d

-- A working row has one place more than it has assets at most.
unfoldable pub working_places : ℕ
working_places = suc working_assets
