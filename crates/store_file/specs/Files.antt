-- The bytes of a store file, and what stands in them.
-- Assumes nothing.
use Rattle.std.specs.Prelude.{ℕ, ◌+◌, ◌*◌, List, [], ◌∷◌, ◌++◌, drop}
use Rattle.kept.specs.declared.Kept.{Kept}
use Rattle.kept.specs.declared.Side.{Side}
use Rattle.kept.specs.declared.Side.TheVariants.{Low, High}
use Rattle.working.specs.Slices.{number_at}
use Rattle.grounds.specs.Grounds.{store_places}
use Rattle.planes.specs.Planes.{laid, word_at}
use Rattle.planes.specs.Sides.{side_arrays, number_in, side_after}
use Rattle.steps.specs.declared.Pool.{Pool}
use Rattle.store.specs.Stores.{Store}
pub mod Laws

-- The arrays of a file. The head is three arrays of one number each, and a side is its significands and its exponents, m of each.
unfoldable pub file_arrays : (head : Pool) (m : ℕ) (low high : ℕ → Kept) → List (List ℕ)
file_arrays head m low high =
    (head.assets ∷ []) ∷ (head.probability ∷ []) ∷ (head.correlation ∷ []) ∷ (side_arrays m low ++ side_arrays m high)

-- The file of a head and of the first (n+1)(n+2)/2 places of the slices.
unfoldable pub file_of : (head : Pool) → Store → List ℕ
file_of head s = laid (file_arrays head (store_places head.assets) (number_at s.low) (number_at s.high))

-- The head of a file.
unfoldable pub head_in : (file : List ℕ) → Pool
head_in file = record { assets = word_at 1 file 0; probability = word_at 1 (drop 4 file) 0; correlation = word_at 1 (drop 8 file) 0 }

-- Entry i of m of either side of a file. The high side stands behind the eight bytes of each of the m numbers of the low side.
unfoldable pub entry_in : (m : ℕ) → Side → (file : List ℕ) → ℕ → Kept
entry_in m Low file = number_in m (drop 12 file)
entry_in m High file = number_in m (drop (12 + 8 * m) file)

-- The entries of each side of a file.
unfoldable pub entries_in : Side → (file : List ℕ) → ℕ → Kept
entries_in side file = entry_in (store_places (head_in file).assets) side file

-- A store into whose slices the entries of a file were written: later places keep their content.
unfoldable pub store_with : (file : List ℕ) → Store → Store
store_with file s =
    let m = store_places (head_in file).assets in
    record { low = side_after m (entries_in Low file) s.low; high = side_after m (entries_in High file) s.high }
