-- A store file for one asset, byte by byte, written and read; and what the contracts say of files, in full.
-- Assumes nothing.
use Rattle.std.specs.Prelude.{ℕ, suc, ◌<◌, ◌≡◌, refl, List, [], ◌∷◌, pos, negsuc, length}
use Rattle.std.proofs.Common.{subst}
use Rattle.model.specs.Number.{triangle}
use Rattle.kept.specs.declared.Side.{Side}
use Rattle.kept.specs.declared.Side.TheVariants.{Low, High}
use Rattle.working.specs.Slices.{tabulate, overwritten, number_at}
use Rattle.grounds.specs.Grounds.{store_places, file_bytes, EachAtLeast}
use Rattle.planes.specs.Planes.{byte_of, planes, word_at, laid, pattern, signed}
use Rattle.planes.specs.Sides.{word_of, array_of, side_arrays, number_in, side_after}
use Rattle.steps.specs.declared.Pool.{Pool}
use Rattle.store.specs.Stores.{Store, store, lengths, side_of, HoldsEntries}
use Rattle.store.specs.Calls.{Fills}
use Rattle.pool.specs.Demands.{number_from, from_complement, head_of, entry_from, entry_of}
use Rattle.store_file.specs.Files.{file_arrays, file_of, head_in, entry_in, entries_in, store_with}
use Rattle.store_file.specs.Calls.{Written, SameNumbers, WritesFile, ReadsFile}

abbrev one : Pool
one = record { assets = 1; probability = 258; correlation = 9999 }

-- Its three entries on either side, with one place behind them.
abbrev entries : Store
entries = store (2223211137 ∷ 2290583173 ∷ 0 ∷ 7 ∷ []) (2357955209 ∷ 2147483648 ∷ 4294967295 ∷ 8 ∷ [])
    (negsuc 30 ∷ pos 100 ∷ pos 0 ∷ pos 9 ∷ []) (negsuc 79999 ∷ negsuc 2147483647 ∷ pos 2147483647 ∷ negsuc 9 ∷ [])

-- The head; the low significands, the low exponents, the high significands and the high exponents, twelve bytes each.
abbrev file : List ℕ
file =
    1 ∷ 0 ∷ 0 ∷ 0 ∷ 2 ∷ 1 ∷ 0 ∷ 0 ∷ 15 ∷ 39 ∷ 0 ∷ 0
    ∷ 129 ∷ 133 ∷ 0 ∷ 130 ∷ 134 ∷ 0 ∷ 131 ∷ 135 ∷ 0 ∷ 132 ∷ 136 ∷ 0
    ∷ 225 ∷ 100 ∷ 0 ∷ 255 ∷ 0 ∷ 0 ∷ 255 ∷ 0 ∷ 0 ∷ 255 ∷ 0 ∷ 0
    ∷ 137 ∷ 0 ∷ 255 ∷ 138 ∷ 0 ∷ 255 ∷ 139 ∷ 0 ∷ 255 ∷ 140 ∷ 128 ∷ 255
    ∷ 128 ∷ 0 ∷ 255 ∷ 199 ∷ 0 ∷ 255 ∷ 254 ∷ 0 ∷ 255 ∷ 255 ∷ 128 ∷ 127
    ∷ []

pub written : file_of one entries ≡ file
unfolding file_of file_arrays side_arrays array_of word_of tabulate number_at store store_places laid planes byte_of pattern
written = refl

-- A store that held other numbers: those behind the entries stay.
abbrev before : Store
before = store (1 ∷ 2 ∷ 3 ∷ 7 ∷ []) (4 ∷ 5 ∷ 6 ∷ 8 ∷ []) (pos 1 ∷ pos 2 ∷ pos 3 ∷ pos 9 ∷ []) (pos 4 ∷ pos 5 ∷ pos 6 ∷ negsuc 9 ∷ [])

pub read : (head_in file ≡ one) × (store_with file before ≡ entries)
unfolding head_in store_with entries_in entry_in number_in side_after word_at signed tabulate overwritten store store_places
read = (refl, refl)

-- The same by the page.
pub on_the_page :
    (head_of file ≡ one)
    × (entry_of Low file 0 ≡ record { significand = 2223211137; exponent = negsuc 30 })
    × (entry_of Low file 1 ≡ record { significand = 2290583173; exponent = pos 100 })
    × (entry_of Low file 2 ≡ record { significand = 0; exponent = pos 0 })
    × (entry_of High file 0 ≡ record { significand = 2357955209; exponent = negsuc 79999 })
    × (entry_of High file 1 ≡ record { significand = 2147483648; exponent = negsuc 2147483647 })
    × (entry_of High file 2 ≡ record { significand = 4294967295; exponent = pos 2147483647 })
unfolding head_of entry_of entry_from number_from from_complement
on_the_page = (refl, refl, refl, refl, refl, refl, refl)

-- The contracts in full. Which files are accepted, and what comes back.
pub exactly : {head head' : Pool} {file : List ℕ} {left right : Store} {refusal : ℕ} → ReadsFile head file left right refusal head'
    → (refusal ≡ 0 → Written head' right file)
    × ((head₀ : Pool) (s : Store) → Written head₀ s file → EachAtLeast (triangle (suc head₀.assets)) (lengths left)
    → (refusal ≡ 0) × (head' ≡ head₀) × ((side : Side) (i : ℕ) → i < triangle (suc head₀.assets) → number_at (side_of side right) i ≡ number_at (side_of side s) i))
exactly reads = (reads.written, λ head₀ s written room. let all = reads.of_written written room in (all.0, all.1, all.2.at))

-- Filled, written and read back.
pub back : {number : ℕ} {g : ℕ → ℕ} {pool came head other head' : Pool} {old new left right : Store} {bytes file : List ℕ} {w r : ℕ}
    → Fills number g pool came old new 0 head → EachAtLeast (triangle (suc pool.assets)) (lengths new) → length bytes ≡ file_bytes pool.assets
    → WritesFile head new bytes file w → ReadsFile other file left right r head' → EachAtLeast (triangle (suc pool.assets)) (lengths left)
    → (w ≡ 0) × HoldsEntries pool.assets pool.probability pool.correlation g right
back {head = head} {new = new} {bytes = bytes} {file} fills room long writes reads free =
    let own : SameNumbers _ new new = record { at = λ side i l. refl } in
    let none = writes.of_filled fills own room long in
    (none, reads.of_filled fills own (subst (λ (w : ℕ). WritesFile head new bytes file w) none writes) free)
