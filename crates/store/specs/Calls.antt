-- What every call that fills a store promises of its refusal and of the store, and what `row` promises.
-- Assumes nothing.
use Rattle.std.specs.Prelude.{ℕ, zero, suc, ◌+◌, ◌≤◌, ◌≡◌, List, [], length, get_or, take, drop}
use Rattle.model.specs.CorrelatedBinomial.{defaults}
use Rattle.kept.specs.declared.Side.{Side}
use Rattle.steps.specs.CorrelatedBinomial.{kept_defaults}
use Rattle.steps.specs.CorrelatedBinomial.Rows.{kept_row}
use Rattle.steps.specs.CorrelatedBinomial.Exponents.{PoolNumber}
use Rattle.steps.specs.Inputs.{largest_pool}
use Rattle.steps.specs.Promises.{HoldsSteps}
use Rattle.working.specs.Slices.{tabulate, overwritten}
use Rattle.rows.specs.Store.{stored}
use Rattle.grounds.specs.Grounds.{first_ground, fill_grounds, row_grounds}
use Rattle.steps.specs.declared.Pool.{Pool}
use Rattle.store.specs.Stores.{Store, lengths, place, store_after, HoldsEntries}

-- The refusal of `fill`. What it checks, every call that fills a store checks too.
unfoldable pub fill_refusal : Pool → Store → ℕ
fill_refusal pool s = first_ground (fill_grounds largest_pool pool.assets pool.probability pool.correlation (lengths s))

-- The head that a call which fills a store hands back: the pool where the refusal is 0, the head that came otherwise.
unfoldable pub head_after : (refusal : ℕ) (pool head : Pool) → Pool
head_after zero pool head = pool
head_after (suc r) pool head = head

-- Of every call that works the table out: it refuses by the number that its list of grounds gives, and leaves the store filled, or untouched on a refusal; `head` came and
-- `head'` is handed back. With what holds of a filled store, and of all that the steps make of the pool; bounds for k assets are at most one part in g k apart.
pub record Fills (number : ℕ) (g : ℕ → ℕ) (pool head : Pool) (before after : Store) (refusal : ℕ) (head' : Pool) : Type 0 where
  pub refusal_is : refusal ≡ number
  pub store_is : after ≡ store_after pool.assets pool.probability pool.correlation refusal before
  pub head_is : head' ≡ head_after refusal pool head
  pub accepted : refusal ≡ 0 → fill_refusal pool before ≡ 0
  pub holds : refusal ≡ 0 → HoldsEntries pool.assets pool.probability pool.correlation g after
  pub steps_hold : refusal ≡ 0
      → HoldsSteps (g pool.assets) (defaults pool.assets pool.probability pool.correlation)
      (λ side. kept_defaults side pool.assets pool.probability pool.correlation)
      (λ side. PoolNumber side pool.assets pool.probability pool.correlation)

-- ---- row

unfoldable pub row_refusal : (n k : ℕ) → List ℕ → ℕ
row_refusal n k significands = first_ground (row_grounds largest_pool n k (length significands))

-- The part of the caller's slice that holds row k, k + 1 entries; empty on a refusal.
unfoldable pub part_after : (refusal k : ℕ) → List ℕ → List ℕ
part_after zero k significands = take (k + 1) (drop (place k 0) significands)
part_after (suc r) k significands = []

pub record HandsRow (n k : ℕ) (significands part : List ℕ) : Type 0 where
  pub part_is : part ≡ part_after (row_refusal n k significands) k significands
  pub refused_empty : (row_refusal n k significands ≡ 0 → ⊥) → length part ≡ 0
  pub accepted_length : row_refusal n k significands ≡ 0 → length part ≡ k + 1
  pub entries : row_refusal n k significands ≡ 0 → (j : ℕ) → j ≤ k → get_or part j 0 ≡ get_or significands (place k j) 0
  -- From a slice as an accepted call for m assets left it, m not below n: the significands of row k.
  pub of_filled : row_refusal n k significands ≡ 0 → (side : Side) (p ρ m : ℕ) (old : List ℕ) → n ≤ m
      → significands ≡ overwritten (stored side p ρ (λ x. x.significand) m) old → part ≡ tabulate (suc k) (λ j. (kept_row side p ρ k j).significand)
