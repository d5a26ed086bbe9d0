-- The first number that passes a test.
-- Assumes nothing.
use Rattle.std.specs.Prelude.{ℕ, zero, suc, ◌<◌, ◌≡◌, Bool, true, false, cond}

-- What is made of the first of so many numbers from k on that passes a test, and `none` where none does.
unfoldable pub first_from : {A : Type 0} (test : ℕ → Bool) (made : ℕ → A) (none : A) (many k : ℕ) → A
first_from test made none zero k = none
first_from test made none (suc many) k = cond (test k) (made k) (first_from test made none many (suc k))

-- No number below `end` passes.
pub record NonePasses (test : ℕ → Bool) (end : ℕ) : Type 0 where
  pub fails : (i : ℕ) → i < end → test i ≡ false

-- k is the first below `end` that does.
pub record IsFirst (test : ℕ → Bool) (end k : ℕ) : Type 0 where
  pub within : k < end
  pub passes : test k ≡ true
  pub before : NonePasses test k
