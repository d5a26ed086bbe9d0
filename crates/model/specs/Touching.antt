-- A pool that is cut into touching tranches, and what it loses as a whole.
-- Assumes nothing.
use Rattle.std.specs.Prelude.{ℕ, suc, ◌*◌, ◌-◌, ◌<◌, ◌≡◌}
use Rattle.model.specs.Fraction.{Fraction, integer, times, fraction_sum, whole, complement, over}

-- Tranches 0 to m − 1, of which the i-th is from A i to B i with the recovery R i, touch from 0 to 10,000 with one recovery: there is a first one, and its A is 0; each B
-- is the next A; the last B is 10,000; every R is that of the first.
pub record Touching (m : ℕ) (R A B : ℕ → ℕ) : Type 0 where
  pub some : 0 < m
  pub first : A 0 ≡ 0
  pub next : (i : ℕ) → suc i < m → A (suc i) ≡ B i
  pub last : B (m - 1) ≡ whole
  pub one_recovery : (i : ℕ) → i < m → R i ≡ R 0

-- What they lose together, in basis points of the pool: the sum of the losses, each times B − A.
unfoldable pub total_loss : (m : ℕ) (A B : ℕ → ℕ) (loss : (i : ℕ) → i < m → Fraction) → Fraction
total_loss m A B loss = fraction_sum m (λ i l. times (integer (B i - A i)) (loss i l))

-- What a pool of default probability p loses at recovery R, in basis points: p × (10,000 − R) / 10,000.
unfoldable pub pool_loss : (p R : ℕ) → Fraction
pool_loss p R = over (p * complement R) 1
