-- The passes over a row of entries, for entries of any kind.
-- Assumes nothing.
use Rattle.std.specs.Prelude.{ℕ, zero, suc, ◌-◌, cond, ltb}

module _ {A : Type 0} (step : A → A → A) where
  -- One pass over entries 0 to m − 1: entry j becomes `step` of old entry j and old entry j + 1. The others stay.
  unfoldable pub pass : ℕ → (ℕ → A) → ℕ → A
  pass m f j = cond (ltb j m) (step (f j) (f (suc j))) (f j)

  -- A row of k entries after passes 1 to s. Pass s is over entries 0 to k − 1 − s.
  unfoldable pub passed : ℕ → ℕ → (ℕ → A) → ℕ → A
  passed k zero f = f
  passed k (suc s) f = pass (k - suc s) (passed k s f)

  -- Entry j after s passes that each reach it.
  unfoldable pub folded : ℕ → (ℕ → A) → ℕ → A
  folded zero f j = f j
  folded (suc s) f j = step (folded s f j) (folded s f (suc j))
