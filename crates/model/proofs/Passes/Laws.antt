-- What the passes leave in each entry.
-- Assumes nothing.
use Prim.Native.Nat.{ℕ, zero, suc, ◌+◌, ◌-◌, min}
use Rattle.std.specs.Prelude.{◌≡◌}
use Rattle.std.proofs.Math.Path.{refl}
use native.Mathlib.Omega.{arith}
use Rattle.std.proofs.Math.Nat.{zero-min}
use Rattle.std.proofs.Math.Decide.{dec_le}
use Rattle.std.proofs.Common.{lt-ltb, le-ltb}
use Rattle.model.specs.Passes.{pass, passed, folded}

module _ {A : Type 0} (step : A → A → A) (f : ℕ → A) where
  -- After s passes over k entries, entry j has been reached by s of them, but by no more than k − 1 − j.
  pub passed_folded : (k s j : ℕ) → passed step k s f j ≡ folded step (min s (k - suc j)) f j
  unfolding passed folded pass
  passed_folded k zero j = rw (zero-min (k - suc j))
  passed_folded k (suc s) j = elim (dec_le (k - suc s) j) [
    | yes l ↦
        let stays : min s (k - suc j) ≡ min (suc s) (k - suc j) = omega arith in
        rw (le-ltb j (k - suc s) l, passed_folded k s j, stays)
    | no l ↦
        let here : min s (k - suc j) ≡ s = omega arith in
        let next : min s (k - suc (suc j)) ≡ s = omega arith in
        let all : min (suc s) (k - suc j) ≡ suc s = omega arith in
        rw (lt-ltb j (k - suc s) (omega arith), passed_folded k s j, passed_folded k s (suc j), here, next, all) refl
  ]

  -- After all k passes over k + 1 entries, d = k − j of them have reached entry j.
  pub passed_all : (k j d : ℕ) → j + d ≡ k → passed step (suc k) k f j ≡ folded step d f j
  passed_all k j d e = let reached : min k (suc k - suc j) ≡ d = omega arith in rw (passed_folded (suc k) k j, reached)
