-- The store of chances: four lent slices.
-- Assumes nothing.
use Rattle.std.specs.Prelude.{ℕ, zero, suc, ◌+◌, ◌*◌, ◌/◌, ◌≤◌, ◌≡◌, List, [], ◌∷◌, length, ℤ}
use Rattle.model.specs.CorrelatedBinomial.{probability}
use Rattle.kept.specs.declared.Side.{Side}
use Rattle.kept.specs.declared.Side.TheVariants.{Low, High}
use Rattle.steps.specs.CorrelatedBinomial.Rows.{kept_row}
use Rattle.steps.specs.Enclosure.{Enclosed}
use Rattle.steps.specs.Exponents.{Ranged}
use Rattle.working.specs.Slices.{SideStore, side_store, number_at}
use Rattle.rows.specs.Store.{filled_side}
pub mod Laws

pub record Store : Type 0 where
  pub low : SideStore
  pub high : SideStore

-- The slices in the order in which the calls take them.
unfoldable pub store : (low_significands high_significands : List ℕ) (low_exponents high_exponents : List ℤ) → Store
store ls hs le he = record { low = side_store ls le; high = side_store hs he }

unfoldable pub lengths : Store → List ℕ
lengths s = length s.low.significands ∷ length s.high.significands ∷ length s.low.exponents ∷ length s.high.exponents ∷ []

unfoldable pub side_of : Side → Store → SideStore
side_of Low s = s.low
side_of High s = s.high

-- Where entry j of row k stands.
unfoldable pub place : (k j : ℕ) → ℕ
place k j = k * (k + 1) / 2 + j

module _ (n p ρ : ℕ) where
  -- A store after a call that fills it: filled where the refusal is 0, untouched otherwise. Untouched slices have the content that they had.
  unfoldable pub store_after : (refusal : ℕ) → Store → Store
  store_after zero s = record { low = filled_side Low n p ρ s.low; high = filled_side High n p ρ s.high }
  store_after (suc r) s = s

  -- What a filled store holds, for every entry j of every row k up to n: the numbers that the steps make on either side, which enclose P(j,k) and are at most
  -- one part in g k apart, with exponents from −80,000 to 100.
  pub record HoldsEntries (g : ℕ → ℕ) (s : Store) : Type 0 where
    pub made : (side : Side) (j k : ℕ) → j ≤ k → k ≤ n → number_at (side_of side s) (place k j) ≡ kept_row side p ρ k j
    pub enclosed : (j k : ℕ) → j ≤ k → k ≤ n → Enclosed (g k) (number_at s.low (place k j)) (number_at s.high (place k j)) (probability p ρ j k)
    pub ranged : (side : Side) (j k : ℕ) → j ≤ k → k ≤ n → Ranged (number_at (side_of side s) (place k j))
