-- Rows of Pascal's triangle made in place, with any one and any sum.
-- Assumes nothing.
use Rattle.std.specs.Prelude.{ℕ, suc, ◌-◌, ◌^◌, ◌≤◌, ◌<◌, ◌≡◌, List}
use Rattle.model.specs.Number.{pascal_row}
use Rattle.working.specs.Working.{working_places, Entries, Changed}
use prog.Memory.{size}
use denote.RattleType.{RattleType}
use denote.Param.{layout}
pub mod Laws

-- A value of the type takes fewer than 2^32 bytes, so that the way to a place of a row, in bytes, fits a word.
abbrev pub TakesLittle : RattleType → Type 0
TakesLittle R = size (layout R) < 2 ^ 32

-- Row k of Pascal's triangle at every place: past k it is one.
abbrev pub Pascal : {A : Type 0} (one : A) (plus : A → A → A) (k : ℕ) → List A → Type 0
Pascal one plus k row = Entries working_places working_places row (pascal_row one plus k)

-- Row k is made row k + 1 below j; `before` is what stood before entry j.
pub record PascalBelow {A : Type 0} (one : A) (plus : A → A → A) (k j : ℕ) (row w : List A) (before : A) : Type 0 where
  pub start : Pascal one plus k row
  pub changed : Changed working_places working_places j row w (pascal_row one plus (suc k))
  pub from : 1 ≤ j
  pub within : j ≤ suc k
  pub neighbour : before ≡ pascal_row one plus k (j - 1)

-- ---- with a sum that is a function of the code, by when it may be called and what it then gives

-- It gives x plus y.
abbrev pub Gives : {A : Type 0} (post : A → A → A → Type 0) (plus : A → A → A) → Type 0
Gives {A} post plus = (x y r : A) → post x y r → r ≡ plus x y

-- It gives some plus, and may be called at the entries of every row before row n.
pub record RowsSummed {A : Type 0} (pre : A → A → Type 0) (post : A → A → A → Type 0) (one : A) (n : ℕ) : Type 0 where
  pub plus : A → A → A
  pub gives : Gives post plus
  pub callable : (k j : ℕ) → k < n → 1 ≤ j → j ≤ k → pre (pascal_row one plus k (j - 1)) (pascal_row one plus k j)

-- What stands in the end: row n, by any plus that it gives.
pub record RowMade {A : Type 0} (post : A → A → A → Type 0) (one : A) (n : ℕ) (row : List A) : Type 0 where
  pub row_is : (plus : A → A → A) → Gives post plus → Entries working_places (suc n) row (pascal_row one plus n)
