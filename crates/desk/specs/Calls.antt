-- What a desk's read promises.
-- Assumes nothing.
use Rattle.std.specs.Prelude.{ℕ, ◌≤◌, ◌≡◌, List, get_or, replicate}
use Rattle.model.specs.CorrelatedBinomial.{probability}
use Rattle.kept.specs.declared.Kept.{Kept}
use Rattle.kept.specs.declared.Side.{Side}
use Rattle.kept.specs.declared.Side.TheVariants.{Low, High}
use Rattle.kept.specs.Rounding.{nought}
use Rattle.steps.specs.CorrelatedBinomial.Rows.{kept_row}
use Rattle.steps.specs.Enclosure.{Enclosed}
use Rattle.steps.specs.Exponents.{Ranged}
use Rattle.steps.specs.Inputs.{largest_pool}
use Rattle.working.specs.Working.{working_places}
use Rattle.working.specs.Slices.{SideStore, number_at, entries_after}
use Rattle.grounds.specs.Grounds.{first_ground, desk_grounds}
use Rattle.steps.specs.declared.Pool.{Pool}
use Rattle.store.specs.Stores.{Store, lengths, side_of, place}
use Rattle.store.specs.Calls.{Fills}
use Rattle.desk.specs.declared.Request.{Request}
use Rattle.desk.specs.declared.DeskRow.{DeskRow}
use Rattle.grounds.specs.Refusals.{refusal_number}
pub mod Laws

unfoldable pub desk_refusal : (head : Pool) → Request → (ceiling : ℕ) → Store → ℕ
desk_refusal head request ceiling s =
    first_ground (desk_grounds largest_pool head.assets head.probability head.correlation request.probability request.correlation request.row ceiling (lengths s))

-- What an answer holds of a side.
unfoldable pub row_on : DeskRow → Side → List Kept
row_on answer Low = answer.low
row_on answer High = answer.high

-- Row k of one side, by the number of the refusal: entry j is the number at place k(k+1)/2 + j, and zeros stand behind the row; nothing but zeros on a refusal.
unfoldable pub row_handed : (refusal k : ℕ) → SideStore → List Kept
row_handed refusal k h = entries_after k (λ j. number_at h (place k j)) refusal (replicate working_places nought)

-- The same numbers in row k of two stores.
abbrev pub SameNumbers : ℕ → Store → Store → Type 0
SameNumbers k s t = (side : Side) (j : ℕ) → j ≤ k → number_at (side_of side s) (place k j) ≡ number_at (side_of side t) (place k j)

-- What holds of a row that is handed over: its numbers are those that the steps make on either side, which enclose P(j,k) and are at most one part in g apart.
pub record HoldsRow (g p ρ k : ℕ) (row : Side → List Kept) : Type 0 where
  pub made : (side : Side) (j : ℕ) → j ≤ k → get_or (row side) j nought ≡ kept_row side p ρ k j
  pub enclosed : (j : ℕ) → j ≤ k → Enclosed g (get_or (row Low) j nought) (get_or (row High) j nought) (probability p ρ j k)
  pub ranged : (side : Side) (j : ℕ) → j ≤ k → Ranged (get_or (row side) j nought)

pub record ReadsRow (head : Pool) (request : Request) (ceiling : ℕ) (s : Store) (answer : DeskRow) : Type 0 where
  pub refusal_is : refusal_number answer.outcome ≡ desk_refusal head request ceiling s
  pub rows_are : (side : Side) → row_on answer side ≡ row_handed (refusal_number answer.outcome) request.row (side_of side s)
  -- With the head that an accepted call handed back, from entries as that call left them in the row, whatever else was written since.
  pub of_filled : refusal_number answer.outcome ≡ 0 → {number : ℕ} {g : ℕ → ℕ} {pool came : Pool} {before after : Store} → Fills number g pool came before after 0 head
      → SameNumbers request.row s after → HoldsRow (g request.row) head.probability head.correlation request.row (row_on answer)
