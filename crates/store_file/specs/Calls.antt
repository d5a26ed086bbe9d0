-- What writing and reading a store file promise.
-- Assumes nothing.
use Rattle.std.specs.Prelude.{ℕ, zero, suc, ◌<◌, ◌≡◌, List, length}
use Rattle.model.specs.Number.{triangle}
use Rattle.kept.specs.declared.Side.{Side}
use Rattle.kept.specs.declared.Side.TheVariants.{Low, High}
use Rattle.steps.specs.Inputs.{largest_pool}
use Rattle.working.specs.Slices.{number_at}
use Rattle.grounds.specs.Grounds.{store_places, file_bytes, first_ground, file_grounds, EachAtLeast, FillAccepted, AllKept}
use Rattle.planes.specs.Planes.{AreBytes}
use Rattle.planes.specs.Sides.{AllFit}
use Rattle.steps.specs.declared.Pool.{Pool}
use Rattle.store.specs.Stores.{Store, lengths, side_of, HoldsEntries}
use Rattle.store.specs.Calls.{head_after, Fills}
use Rattle.store_file.specs.Files.{file_of, head_in, entries_in, store_with}
pub mod Laws
pub mod Rooms
pub mod Demands

-- The refusal of `write`, by the head and the entries that are given, and that of `read`, by those of the file. What they check is the same.
unfoldable pub write_refusal : (head : Pool) → Store → (bytes : ℕ) → ℕ
write_refusal head s bytes =
    first_ground (file_grounds largest_pool head.assets head.probability head.correlation bytes (lengths s) (number_at s.low) (number_at s.high))

unfoldable pub read_refusal : (file : List ℕ) → Store → ℕ
read_refusal file s =
    let head = head_in file in
    first_ground (file_grounds largest_pool head.assets head.probability head.correlation (length file) (lengths s) (entries_in Low file) (entries_in High file))

-- The file after a write, and the store after a read: untouched on a refusal.
unfoldable pub file_after : (head : Pool) → Store → (refusal : ℕ) (before : List ℕ) → List ℕ
file_after head s zero before = file_of head s
file_after head s (suc r) before = before

unfoldable pub store_after_read : (file : List ℕ) (refusal : ℕ) → Store → Store
store_after_read file zero s = store_with file s
store_after_read file (suc r) s = s

-- What `write` leaves, and what `read` leaves: `head` came and `head'` is handed back. Entries and bytes fit their types, as all that stands in a slice does.
pub record WritesBytes (head : Pool) (s : Store) (before after : List ℕ) (refusal : ℕ) : Type 0 where
  pub refusal_is : refusal ≡ write_refusal head s (length before)
  pub file_is : after ≡ file_after head s refusal before
  pub fits : refusal ≡ 0 → (side : Side) → AllFit (store_places head.assets) (number_at (side_of side s))

pub record ReadsBytes (head : Pool) (file : List ℕ) (before after : Store) (refusal : ℕ) (head' : Pool) : Type 0 where
  pub refusal_is : refusal ≡ read_refusal file before
  pub store_is : after ≡ store_after_read file refusal before
  pub head_is : head' ≡ head_after refusal (head_in file) head
  pub bytes : AreBytes file

-- ---- what follows from it

-- A file is what is written from a head that a fill accepts and from four arrays of kept numbers.
pub record Written (head : Pool) (s : Store) (file : List ℕ) : Type 0 where
  pub fill : FillAccepted largest_pool head.assets head.probability head.correlation (lengths s)
  pub kept : (side : Side) → AllKept (triangle (suc head.assets)) (number_at (side_of side s))
  pub fits : (side : Side) → AllFit (triangle (suc head.assets)) (number_at (side_of side s))
  pub file_is : file ≡ file_of head s

-- The same numbers at the first m places of two stores.
pub record SameNumbers (m : ℕ) (s t : Store) : Type 0 where
  pub at : (side : Side) (i : ℕ) → i < m → number_at (side_of side s) i ≡ number_at (side_of side t) i

-- An accepted write leaves such a file. It is accepted with the head that an accepted call handed back, for slices that hold the entries of that call, and for a file of
-- the right length.
pub record WritesFile (head : Pool) (s : Store) (before after : List ℕ) (refusal : ℕ) : Type 0 where
  pub writes : WritesBytes head s before after refusal
  pub written : refusal ≡ 0 → Written head s after
  pub of_filled : {number : ℕ} {g : ℕ → ℕ} {pool came : Pool} {before₀ after₀ : Store} → Fills number g pool came before₀ after₀ 0 head
      → SameNumbers (triangle (suc pool.assets)) s after₀ → EachAtLeast (triangle (suc pool.assets)) (lengths s) → length before ≡ file_bytes pool.assets
      → refusal ≡ 0

-- Exactly such files are accepted into slices that are long enough, and give the head and the entries back. Of a file that was written from what an accepted call left, the
-- entries have the enclosure and the distance of that call.
pub record ReadsFile (head : Pool) (file : List ℕ) (before after : Store) (refusal : ℕ) (head' : Pool) : Type 0 where
  pub reads : ReadsBytes head file before after refusal head'
  pub written : refusal ≡ 0 → Written head' after file
  pub of_written : {head₀ : Pool} {s : Store} → Written head₀ s file → EachAtLeast (triangle (suc head₀.assets)) (lengths before)
      → (refusal ≡ 0) × (head' ≡ head₀) × SameNumbers (triangle (suc head₀.assets)) after s
  pub of_filled : {number : ℕ} {g : ℕ → ℕ} {pool came head₀ : Pool} {before₀ after₀ s : Store} {old : List ℕ} → Fills number g pool came before₀ after₀ 0 head₀
      → SameNumbers (triangle (suc pool.assets)) s after₀ → WritesFile head₀ s old file 0 → EachAtLeast (triangle (suc pool.assets)) (lengths before)
      → HoldsEntries pool.assets pool.probability pool.correlation g after
