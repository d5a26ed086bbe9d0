-- What a function that fills the store hands on to the calls above it.
-- Assumes nothing.
use Rattle.std.specs.Prelude.{suc, ◌≡◌, List}
use Rattle.kept.specs.declared.Kept.{Kept}
use Rattle.kept.specs.declared.Side.{Side}
use Rattle.kept.specs.declared.Side.TheVariants.{Low, High}
use Rattle.steps.specs.CorrelatedBinomial.Rows.{kept_row}
use Rattle.working.specs.Working.{working_places, Entries}
use Rattle.steps.specs.declared.Pool.{Pool}
use Rattle.store.specs.Stores.{Store, store_after}
pub mod Laws

-- Row n of a side.
abbrev pub LastRow : Side → Pool → List Kept → Type 0
LastRow side pool row = Entries working_places (suc pool.assets) row (kept_row side pool.probability pool.correlation pool.assets)

-- The store is filled, and row n of either side is at hand.
pub record FilledBoth (pool : Pool) (before after : Store) (low high : List Kept) : Type 0 where
  pub store_is : after ≡ store_after pool.assets pool.probability pool.correlation 0 before
  pub low_row : LastRow Low pool low
  pub high_row : LastRow High pool high
