-- What a fill leaves in one side of the store.
-- Assumes nothing.
use Rattle.std.specs.Prelude.{ℕ, zero, suc, List, [], ◌++◌, map}
use Rattle.kept.specs.declared.Kept.{Kept}
use Rattle.kept.specs.declared.Side.{Side}
use Rattle.steps.specs.CorrelatedBinomial.Rows.{kept_row}
use Rattle.working.specs.Slices.{tabulate, overwritten, SideStore}
pub mod Laws

module _ (side : Side) (p ρ : ℕ) where
  -- Rows 0 to m − 1 one after the other, so that entry j of row k, which has k + 1 entries, stands at place T(k) + j.
  unfoldable pub rows_before : ℕ → List Kept
  rows_before zero = []
  rows_before (suc m) = rows_before m ++ tabulate (suc m) (kept_row side p ρ m)

  -- One field of rows 0 to n, the significands or the exponents.
  unfoldable pub stored : {A : Type 0} → (Kept → A) → ℕ → List A
  stored field n = map field (rows_before (suc n))

-- After a fill: rows 0 to n by steps 1 to 3, zero being 0 and 0; later places keep their content.
unfoldable pub filled_side : (side : Side) (n p ρ : ℕ) → SideStore → SideStore
filled_side side n p ρ h = record {
  significands = overwritten (stored side p ρ (λ x. x.significand) n) h.significands;
  exponents = overwritten (stored side p ρ (λ x. x.exponent) n) h.exponents;
}
