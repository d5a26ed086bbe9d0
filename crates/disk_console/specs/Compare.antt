-- What the comparison of two stores decides.
-- Assumes nothing.
use Rattle.std.specs.Prelude.{ℕ, ◌≤◌, ◌≡◌, List, length, take}
use Rattle.store.specs.declared.Store.{Store}
pub mod Laws

-- Two lists have so many places, and the same numbers in them.
pub record Same {A : Type 0} (count : ℕ) (xs ys : List A) : Type 0 where
  pub room : count ≤ length xs
  pub other_room : count ≤ length ys
  pub numbers : take count xs ≡ take count ys

-- So have the slices of two stores.
pub record SameEntries (count : ℕ) (a b : Store) : Type 0 where
  pub low_significands : Same count a.low_significands.now b.low_significands.now
  pub high_significands : Same count a.high_significands.now b.high_significands.now
  pub low_exponents : Same count a.low_exponents.now b.low_exponents.now
  pub high_exponents : Same count a.high_exponents.now b.high_exponents.now
