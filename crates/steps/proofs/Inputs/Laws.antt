-- Up to a limit and beyond it, fewer assets, no correlation, and the limits against each other.
-- Assumes nothing.
use Rattle.std.specs.Prelude.{ℕ, ◌+◌, ◌≤◌, ◌<◌}
use Rattle.std.proofs.Math.Decide.{dec_le}
use Rattle.std.proofs.Common.{le_refl, le_trans, arith, lt-ltb, le-ltb, lit≤}
use Rattle.steps.specs.Inputs.{up_to, largest_pool, report_pool, fine_pool, tenths_for, tail_tenths, working_assets, InRange}

-- What holds of x and v for few assets, and of y and w for more, holds of what is taken of either pair.
pub up_to_both : {A B : Type 0} {x y : A} {v w : B} (P : A → B → Type 0) (limit n : ℕ) → (n ≤ limit → P x v) → (limit < n → P y w)
    → P (up_to limit n x y) (up_to limit n v w)
unfolding up_to
up_to_both P limit n few more = elim (dec_le n limit) [
  | yes l ↦ rw (le-ltb limit n l) (few l)
  | no l ↦ rw (lt-ltb limit n (omega arith)) (more (omega arith))
]

pub up_to_lem : {A : Type 0} {x y : A} (P : A → Type 0) (limit n : ℕ) → (n ≤ limit → P x) → (limit < n → P y) → P (up_to limit n x y)
up_to_lem {x} {y} P limit n few more = up_to_both {x = x} {y = y} {v = x} {w = y} (λ taken _. P taken) limit n few more

-- Half a unit, and how far a printed tail can be below the exact one, are within how far a row can be off.
pub tail_tenths_within : (n : ℕ) → 5 + tail_tenths n ≤ tenths_for n
unfolding tail_tenths tenths_for
tail_tenths_within n = up_to_both (λ tail row. 5 + tail ≤ row) fine_pool n (λ _. lit≤ tt) (λ _. lit≤ tt)

-- Of fewer assets, and with a higher limit.
pub range_below : {most most' k n p ρ : ℕ} → k ≤ n → most ≤ most' → InRange most n p ρ → InRange most' k p ρ
range_below l m range = record {
  assets = le_trans l (le_trans range.assets m);
  probability = range.probability;
  correlation = range.correlation;
}

-- The same pool without correlation.
pub range_uncorrelated : {most n p ρ : ℕ} → InRange most n p ρ → InRange most n p 0
range_uncorrelated range = record { assets = range.assets; probability = range.probability; correlation = omega arith }

-- A working row has places for the largest pool.
pub pool_works : largest_pool ≤ working_assets
unfolding largest_pool working_assets
pool_works = lit≤ tt

-- A pool in a report is one of the library.
pub report_range : {n p ρ : ℕ} → InRange report_pool n p ρ → InRange largest_pool n p ρ
unfolding report_pool largest_pool
report_range {n} range = range_below (le_refl n) (lit≤ tt) range

pub working_range : {n p ρ : ℕ} → InRange largest_pool n p ρ → InRange working_assets n p ρ
working_range {n} range = range_below (le_refl n) pool_works range
