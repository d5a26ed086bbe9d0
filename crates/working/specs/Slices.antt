-- What is written to slices, and one side of a store.
-- Assumes nothing.
use Rattle.std.specs.Prelude.{ℕ, zero, suc, ◌+◌, ◌≤◌, ◌<◌, ◌≡◌, List, [], ◌∷◌, ◌++◌, map, length, get_or, set, drop, ℤ, pos}
use Rattle.kept.specs.declared.Kept.{Kept}
use Rattle.working.specs.Working.{working_places}

-- f 0, f 1, … f (m − 1)
unfoldable pub tabulate : {A : Type 0} → ℕ → (ℕ → A) → List A
tabulate zero f = []
tabulate (suc m) f = tabulate m f ++ (f m ∷ [])

-- A slice into which `new` was written from its start: later places keep their content.
unfoldable pub overwritten : {A : Type 0} → (new old : List A) → List A
overwritten new old = new ++ drop (length new) old

-- A slice after a call that writes f 0 to f n to its start: later places keep their content. On a refusal it is untouched, the scope paper's term for a slice that
-- keeps all of it.
unfoldable pub entries_after : {A : Type 0} (n : ℕ) (f : ℕ → A) (refusal : ℕ) → List A → List A
entries_after n f zero old = overwritten (tabulate (suc n) f) old
entries_after n f (suc r) old = old

-- ---- one side

-- One side of a store: a slice of significands and one of exponents.
pub record SideStore : Type 0 where
  pub significands : List ℕ
  pub exponents : List ℤ

abbrev pub side_store : List ℕ → List ℤ → SideStore
side_store s e = record { significands = s; exponents = e }

-- The kept number at a place of one side.
unfoldable pub number_at : SideStore → ℕ → Kept
number_at h i = record { significand = get_or h.significands i 0; exponent = get_or h.exponents i (pos 0) }

-- One side with x at a place.
abbrev pub with_number : Kept → ℕ → SideStore → SideStore
with_number x i h = record { significands = set h.significands i x.significand; exponents = set h.exponents i x.exponent }

-- Each slice has that many places at least.
pub record HasPlaces (m : ℕ) (h : SideStore) : Type 0 where
  pub significands : m ≤ length h.significands
  pub exponents : m ≤ length h.exponents

-- Each slice is as long as it was.
pub record SameLengths (h h' : SideStore) : Type 0 where
  pub significands : length h'.significands ≡ length h.significands
  pub exponents : length h'.exponents ≡ length h.exponents

-- h where it was `old` and `numbers` were written from its start; `at` is the place after them.
pub record Holding (numbers : List Kept) (at : ℕ) (old h : SideStore) : Type 0 where
  pub place : length numbers ≡ at
  pub significands : h.significands ≡ overwritten (map (λ x. x.significand) numbers) old.significands
  pub exponents : h.exponents ≡ overwritten (map (λ x. x.exponent) numbers) old.exponents

-- f 0 to f (m − 1) stand from a place on.
pub record Standing (m from : ℕ) (h : SideStore) (f : ℕ → Kept) : Type 0 where
  pub room : HasPlaces (from + m) h
  pub number : (j : ℕ) → j < m → number_at h (from + j) ≡ f j

-- What reading m numbers from a place on into a working row asks.
pub record Readable (m from : ℕ) (h : SideStore) : Type 0 where
  pub places : m ≤ working_places
  pub room : HasPlaces (from + m) h

-- What putting f 0 to f (m − 1) from a place on leaves, in h' where it was h: they follow the numbers that end at that place.
pub record Stored (f : ℕ → Kept) (m at : ℕ) (h h' : SideStore) : Type 0 where
  pub lengths : SameLengths h h'
  pub holding : {numbers : List Kept} {old : SideStore} → Holding numbers at old h → Holding (numbers ++ tabulate m f) (at + m) old h'
