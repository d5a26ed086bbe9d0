-- The limits on the number of assets, how far bounds, printed rows and shifts may be off for so many, and what the inputs of a pool, of a tranche and of a layer are.
-- Assumes nothing.
use Rattle.std.specs.Prelude.{ℕ, ◌≤◌, ◌<◌, cond, ltb}
use Rattle.model.specs.Fraction.{whole}

-- x for up to `limit` assets, and y for more.
unfoldable pub up_to : {A : Type 0} (limit n : ℕ) (x y : A) → A
up_to limit n x y = cond (ltb limit n) y x

-- The most assets of a pool.
unfoldable pub largest_pool : ℕ
largest_pool = 100

-- The most assets of a pool in a shift list, and in the program `column`.
unfoldable pub report_pool : ℕ
report_pool = 64

-- The most assets whose bounds have the finer distance, and whose printed rows are the nearer ones.
unfoldable pub fine_pool : ℕ
fine_pool = 64

-- Bounds for n assets, those of row n of a store among them, are at most one part in so many apart.
unfoldable pub distance_for : ℕ → ℕ
distance_for n = up_to fine_pool n 100000 50000

-- The most assets of a pool on the quote screen, a product above the library for small pools.
unfoldable pub screen_pool : ℕ
screen_pool = 20

-- Bounds for such a pool of n assets are at most one part in so many apart.
unfoldable pub screen_distance : ℕ → ℕ
screen_distance n = 1000000

-- A printed row for n assets is less than so many tenths of a unit off.
unfoldable pub tenths_for : ℕ → ℕ
tenths_for n = up_to fine_pool n 15 20

-- A printed tail for n assets is less than so many tenths of a unit below the exact one.
unfoldable pub tail_tenths : ℕ → ℕ
tail_tenths n = up_to fine_pool n 8 13

-- An entry of a shift list is less than so many tenths of a unit off, and entries 1 to n add to less than that for each asset, above zero and below it.
unfoldable pub shift_tenths : ℕ
shift_tenths = 13

-- The most assets that a working row has places for.
unfoldable pub working_assets : ℕ
working_assets = 100

-- A pool of at most so many assets; default probability and correlation in basis points.
pub record InRange (most n p ρ : ℕ) : Type 0 where
  pub assets : n ≤ most
  pub probability : p ≤ whole
  pub correlation : ρ ≤ whole

-- A tranche from A to B with recovery R, in basis points.
pub record TrancheInRange (R A B : ℕ) : Type 0 where
  pub recovery : R ≤ whole
  pub upper : B ≤ whole
  pub lower : A < B

-- A layer from the i-th to the j-th default of n assets.
pub record LayerInRange (n i j : ℕ) : Type 0 where
  pub from : 1 ≤ i
  pub order : i ≤ j
  pub to : j ≤ n
