-- What a store is after a refusal, and what a filled one holds.
-- Assumes nothing.
use Prim.Native.Nat.{ℕ, zero, suc, ◌+◌, ◌≤◌}
use Rattle.std.specs.Prelude.{◌≡◌}
use Rattle.std.proofs.Math.Path.{refl}
use Rattle.std.proofs.Common.{arith}
use Rattle.model.specs.Number.{triangle}
use Rattle.model.specs.Number.Laws.{triangle_closed}
use Rattle.model.specs.Fraction.{Fraction}
use Rattle.kept.specs.declared.Kept.{Kept}
use Rattle.kept.specs.declared.Side.{Side}
use Rattle.kept.specs.declared.Side.TheVariants.{Low, High}
use Rattle.kept.specs.Rounding.{nought}
use Rattle.steps.specs.CorrelatedBinomial.Budgets.{BudgetsFor}
use Rattle.steps.specs.CorrelatedBinomial.Rows.{kept_row}
use Rattle.steps.specs.Enclosure.{Enclosed}
use Rattle.steps.specs.CorrelatedBinomial.Exponents.{is_entry, of_rows}
use Rattle.steps.proofs.CorrelatedBinomial.Theorems.{entries, exponents}
use Rattle.steps.specs.Inputs.{largest_pool, InRange}
use Rattle.steps.proofs.Inputs.Laws.{working_range}
use Rattle.working.specs.Slices.{SideStore, number_at}
use Rattle.rows.specs.Store.{filled_side}
use Rattle.rows.specs.Store.Laws.{filled_entry}
use Rattle.store.specs.Stores.{Store, side_of, place, store_after, HoldsEntries}

pub place_triangle : (k j : ℕ) → place k j ≡ triangle k + j
unfolding place
place_triangle k j = omega (arith, triangle_closed k)

-- Of numbers that are the same.
pub enclosed_same : {g : ℕ} {low high low' high' : Kept} {v : Fraction} → low ≡ low' → high ≡ high' → Enclosed g low' high' v → Enclosed g low high v
enclosed_same low_is high_is enclosed = rw (low_is, high_is) enclosed

module _ (n p ρ : ℕ) where
  pub store_untouched : (refusal : ℕ) (s : Store) → (refusal ≡ 0 → ⊥) → s ≡ store_after n p ρ refusal s
  unfolding store_after
  store_untouched zero s some = absurd (some refl)
  store_untouched (suc r) s some = refl

  number_filled : (side : Side) (h : SideStore) {j k : ℕ} → j ≤ k → k ≤ n → number_at (filled_side side n p ρ h) (place k j) ≡ kept_row side p ρ k j
  unfolding number_at filled_side nought
  number_filled side h {j} {k} l m =
      rw (
        place_triangle k j,
        filled_entry side p ρ (λ x. x.significand) n h.significands l m,
        filled_entry side p ρ (λ x. x.exponent) n h.exponents l m,
      ) refl

  side_filled : (side : Side) (s : Store) {j k : ℕ} → j ≤ k → k ≤ n → number_at (side_of side (store_after n p ρ 0 s)) (place k j) ≡ kept_row side p ρ k j
  unfolding side_of store_after
  side_filled Low s l m = number_filled Low s.low l m
  side_filled High s l m = number_filled High s.high l m

pub filled_holds : {g : ℕ → ℕ} {n p ρ : ℕ} (s : Store) → InRange largest_pool n p ρ → BudgetsFor g n → HoldsEntries n p ρ g (store_after n p ρ 0 s)
unfolding side_of
filled_holds {n} {p} {ρ} s range apart = record {
  made = λ side j k l m. side_filled n p ρ side s l m;
  enclosed = λ j k l m. enclosed_same (side_filled n p ρ Low s l m) (side_filled n p ρ High s l m) (entries range apart l m);
  ranged = λ side j k l m. rw (side_filled n p ρ side s l m) (exponents (working_range range) side (of_rows (is_entry k j m l)));
}
