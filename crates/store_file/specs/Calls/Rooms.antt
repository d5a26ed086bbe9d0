-- What the grounds of a file give the functions below the calls.
-- Assumes nothing.
use Rattle.std.specs.Prelude.{ℕ, suc, ◌+◌, ◌*◌, ◌≤◌, ◌≡◌, refl, List, [], ◌∷◌, ◌++◌, length, drop}
use Rattle.std.proofs.Common.{append_assoc, arith, length-drop}
use Rattle.kept.specs.declared.Kept.{Kept}
use Rattle.kept.specs.declared.Side.{Side}
use Rattle.model.specs.Number.Laws.{triangle_closed, triangle_mono}
use Rattle.steps.specs.Inputs.{largest_pool}
use Rattle.working.specs.Slices.{HasPlaces}
use Rattle.grounds.specs.Grounds.{store_places, file_bytes, FileFormAccepted}
use Rattle.grounds.specs.Grounds.Laws.{store_places_lem}
use Rattle.planes.specs.Planes.{planes, laid}
use Rattle.planes.specs.Sides.{side_arrays, HasSide}
use Rattle.steps.specs.declared.Pool.{Pool}
use Rattle.store.specs.Stores.{Store, lengths, side_of}
use Rattle.store.specs.Filling.Laws.{fillable}
use Rattle.buffer.specs.Stores.{HasRoom}
use Rattle.store_file.specs.Files.{file_arrays}
use Rattle.store_file.specs.Files.Laws.{laid_bytes}

-- Each slice of a store has a place for each entry.
pub form_room : {n p ρ bytes : ℕ} (side : Side) (s : Store) → FileFormAccepted largest_pool n p ρ bytes (lengths s) → HasPlaces (store_places n) (side_of side s)
form_room {n} side s form = rw (store_places_lem n) (fillable side s form.fill).room

-- 12 + 8 (n+1)(n+2) bytes are 12, and 16 for each place of the store.
pub file_places : (n : ℕ) → file_bytes n ≡ 12 + 16 * store_places n
unfolding file_bytes
file_places n = rw (store_places_lem n) (omega (arith, triangle_closed (suc n)))

-- A file has 82,428 bytes at most.
pub places_most : (n : ℕ) → n ≤ largest_pool → store_places n ≤ 5151
unfolding largest_pool
places_most n few =
    let rows : suc n ≤ 101 = omega arith in
    rw (store_places_lem n) (omega (arith, triangle_mono rows, triangle_closed 101))

pub sides_in : (n : ℕ) (file : List ℕ) → length file ≡ file_bytes n
    → HasSide (store_places n) (drop 12 file) × HasSide (store_places n) (drop (12 + 8 * store_places n) file)
sides_in n file long = (
  record { room = omega (arith, file_places n, length-drop 12 file) },
  record { room = omega (arith, file_places n, length-drop (12 + 8 * store_places n) file) },
)

-- The bytes of a file, one put after the other.
laid_both : (one other : List (List ℕ)) → laid (one ++ other) ≡ laid one ++ laid other
unfolding laid
laid_both [] other = refl
laid_both (xs ∷ one) other = rw (laid_both one other, append_assoc) refl

-- All of them.
abbrev pub file_chain : (head : Pool) (m : ℕ) (low high : ℕ → Kept) → List ℕ
file_chain head m low high =
    planes (head.assets ∷ []) ++ (planes (head.probability ∷ []) ++ (planes (head.correlation ∷ []) ++ (laid (side_arrays m low) ++ laid (side_arrays m high))))

pub file_bytes_lem : (head : Pool) (m : ℕ) (low high : ℕ → Kept) → laid (file_arrays head m low high) ≡ file_chain head m low high
unfolding file_arrays laid
file_bytes_lem head m low high = rw (laid_both (side_arrays m low) (side_arrays m high)) refl

pub chain_bytes : (head : Pool) (m : ℕ) (low high : ℕ → Kept) → length (file_chain head m low high) ≡ 12 + 16 * m
chain_bytes head m low high = rw (← file_bytes_lem head m low high) (laid_bytes head m low high)

pub chain_room : (head : Pool) (m : ℕ) (low high : ℕ → Kept) {file : List ℕ} → length file ≡ 12 + 16 * m → HasRoom (file_chain head m low high) 0 file
chain_room head m low high long = record { room = omega (arith, chain_bytes head m low high, long) }
