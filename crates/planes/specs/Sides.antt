-- One side of a store in a file: its significands in planes, and then its exponents, in two's complement, in planes.
-- Assumes nothing.
use Rattle.std.specs.Prelude.{ℕ, ◌+◌, ◌*◌, ◌^◌, ◌≤◌, ◌<◌, List, [], ◌∷◌, map, length, drop}
use Rattle.std.specs.Int.{w32}
use Rattle.std.proofs.Common.{SFits}
use Rattle.kept.specs.declared.Kept.{Kept}
use Rattle.working.specs.Slices.{tabulate, overwritten, SideStore, side_store}
use Rattle.planes.specs.declared.words.Part.{Part}
use Rattle.planes.specs.declared.words.Part.TheVariants.{Significand, Exponent}
use Rattle.planes.specs.Planes.{word_at, pattern, signed}
pub mod Laws

-- What an array holds of a kept number.
unfoldable pub word_of : Part → Kept → ℕ
word_of Significand x = x.significand
word_of Exponent x = pattern x.exponent

-- Of each of f 0 to f (m − 1).
unfoldable pub array_of : Part → (m : ℕ) (f : ℕ → Kept) → List ℕ
array_of part m f = tabulate m (λ i. word_of part (f i))

unfoldable pub side_arrays : (m : ℕ) (f : ℕ → Kept) → List (List ℕ)
side_arrays m f = array_of Significand m f ∷ array_of Exponent m f ∷ []

-- The way back: kept number i of m of a side that starts with the bytes.
unfoldable pub number_in : (m : ℕ) (bytes : List ℕ) (i : ℕ) → Kept
number_in m bytes i = record { significand = word_at m bytes i; exponent = signed (word_at m (drop (4 * m) bytes) i) }

-- One side of a store into whose first places f 0 to f (m − 1) were written: later places keep their content.
unfoldable pub side_after : (m : ℕ) (f : ℕ → Kept) → SideStore → SideStore
side_after m f h =
    side_store (overwritten (map (λ x. x.significand) (tabulate m f)) h.significands) (overwritten (map (λ x. x.exponent) (tabulate m f)) h.exponents)

-- A significand and an exponent fit their types, u32 and i32.
pub record FitsTypes (x : Kept) : Type 0 where
  pub significand : x.significand < 2 ^ 32
  pub exponent : SFits w32 x.exponent

-- Each of f 0 to f (m − 1) does.
pub record AllFit (m : ℕ) (f : ℕ → Kept) : Type 0 where
  pub at : (i : ℕ) → i < m → FitsTypes (f i)

-- m numbers of a side stand at the start of the bytes.
pub record HasSide (m : ℕ) (bytes : List ℕ) : Type 0 where
  pub room : 8 * m ≤ length bytes
