-- What an accepted call's inputs give the functions below it.
-- Assumes nothing.
use Rattle.std.specs.Prelude.{ℕ, ◌≡◌, List}
use Rattle.std.proofs.Common.{ap₂, ◌∙◌}
use Rattle.kept.specs.declared.Kept.{Kept}
use Rattle.steps.specs.declared.Pool.{Pool}
use Rattle.working.specs.Slices.{SideStore}
use Rattle.kept.specs.declared.Side.{Side}
use Rattle.kept.specs.declared.Side.TheVariants.{Low, High}
use Rattle.steps.specs.Inputs.{largest_pool}
use Rattle.steps.proofs.Inputs.Laws.{working_range}
use Rattle.rows.specs.Filling.{Fillable, Filled}
use Rattle.grounds.specs.Grounds.{FillAccepted}
use Rattle.store.specs.Stores.{Store, lengths, side_of, store_after}
use Rattle.store.specs.Filling.{FilledBoth}

-- The two slices of a side are long enough for it.
pub fillable : (side : Side) {n p ρ : ℕ} (s : Store) → FillAccepted largest_pool n p ρ (lengths s) → Fillable n p ρ (side_of side s)
unfolding side_of lengths
fillable Low s ready =
    let places = ready.store in
    record { range = working_range ready.pool.range; room = record { significands = places.0; exponents = places.1.1.0 } }
fillable High s ready =
    let places = ready.store in
    record { range = working_range ready.pool.range; room = record { significands = places.1.0; exponents = places.1.1.1.0 } }

-- What filling each side leaves.
pub both_filled : {pool : Pool} {before after : Store} {low high low' high' : SideStore} {low_row high_row : List Kept}
    → Filled Low pool.assets pool.probability pool.correlation low low' low_row → Filled High pool.assets pool.probability pool.correlation high high' high_row
    → low ≡ before.low → high ≡ before.high → after.low ≡ low' → after.high ≡ high' → FilledBoth pool before after low_row high_row
unfolding store_after
both_filled {pool} {before} {after} low high low_is high_is low_left high_left = record {
  store_is =
      ap₂ (λ l h. record { low = l; high = h })
      (rw (← low_is) (low_left ∙ low.store_is)) (rw (← high_is) (high_left ∙ high.store_is));
  low_row = low.last;
  high_row = high.last;
}
