-- Numbers of four bytes in planes, arrays of them one after the other, and the way back.
-- Assumes nothing.
use Rattle.std.specs.Prelude.{ℕ, suc, ◌+◌, ◌*◌, ◌-◌, ◌/◌, ◌%◌, ◌^◌, ◌<◌, cond, List, [], ◌∷◌, ◌++◌, map, ltb, ℤ, pos, negsuc, get_or, drop}
use Rattle.std.specs.Int.{w32}
use Rattle.std.proofs.Common.{SFits}
use Rattle.working.specs.Slices.{tabulate}
pub mod Laws
pub mod Theorems

-- Byte k of a number, from the lowest.
unfoldable pub byte_of : (k x : ℕ) → ℕ
byte_of k x = x / 2 ^ (8 * k) % 256

-- Numbers in planes: the lowest bytes of all of them, then the next of all, up to the highest. One number is in its bytes from the lowest to the highest.
unfoldable pub planes : List ℕ → List ℕ
planes xs = map (byte_of 0) xs ++ (map (byte_of 1) xs ++ (map (byte_of 2) xs ++ map (byte_of 3) xs))

-- Byte k of number i of m that stand in planes from the start of the bytes.
abbrev pub byte_in : (m : ℕ) (bytes : List ℕ) (i k : ℕ) → ℕ
byte_in m bytes i k = get_or bytes (k * m + i) 0

-- That number.
unfoldable pub word_at : (m : ℕ) (bytes : List ℕ) (i : ℕ) → ℕ
word_at m bytes i = byte_in m bytes i 0 + 2 ^ 8 * byte_in m bytes i 1 + 2 ^ 16 * byte_in m bytes i 2 + 2 ^ 24 * byte_in m bytes i 3

-- All of them: the way back.
unfoldable pub words : (m : ℕ) (bytes : List ℕ) → List ℕ
words m bytes = tabulate m (word_at m bytes)

-- Arrays in planes, one after the other.
unfoldable pub laid : List (List ℕ) → List ℕ
laid [] = []
laid (xs ∷ arrays) = planes xs ++ laid arrays

-- The arrays of so many numbers each: the way back.
unfoldable pub arrays_in : (sizes : List ℕ) (bytes : List ℕ) → List (List ℕ)
arrays_in [] bytes = []
arrays_in (m ∷ sizes) bytes = words m bytes ∷ arrays_in sizes (drop (4 * m) bytes)

-- A number of an i32 in two's complement.
unfoldable pub pattern : ℤ → ℕ
pattern (pos x) = x
pattern (negsuc x) = 2 ^ 32 - suc x

-- The way back.
unfoldable pub signed : ℕ → ℤ
signed w = cond (ltb w (2 ^ 31)) (pos w) (negsuc (2 ^ 32 - suc w))

-- Each is a byte, fits a word, fits an i32.
pub record AreBytes (bytes : List ℕ) : Type 0 where
  pub at : (i : ℕ) → get_or bytes i 0 < 256

pub record AreWords (xs : List ℕ) : Type 0 where
  pub at : (i : ℕ) → get_or xs i 0 < 2 ^ 32

pub record AreIntegers (zs : List ℤ) : Type 0 where
  pub at : (i : ℕ) → SFits w32 (get_or zs i (pos 0))
