-- A claimed column, in units, held against the bounds of the chances: which row passes, what a check answers, and what its answer means. c are the kept chances of both
-- sides, of any row of chances.
-- Assumes nothing.
use Rattle.std.specs.Prelude.{ℕ, zero, suc, ◌≤◌, ◌<◌, ◌≡◌, Bool, cond, ◌&&◌, List, get_or}
use Rattle.model.specs.Fraction.{Fraction, AtMost, at_most, integer, plus}
use Rattle.kept.specs.declared.Kept.{Kept}
use Rattle.kept.specs.declared.Side.{Side}
use Rattle.kept.specs.declared.Side.TheVariants.{Low, High}
use Rattle.kept.specs.Rounding.{value}
use Rattle.steps.specs.Column.{exact_units, half, AtMostApart}

-- ---- one row

-- A claimed row passes: some number from low to high, in units, is at most half a unit from the claim.
pub record Passes (low high : Kept) (claim : ℕ) : Type 0 where
  pub number : Fraction
  pub from_low : AtMost (exact_units (value low)) number
  pub to_high : AtMost number (exact_units (value high))
  pub near : AtMostApart half (integer claim) number

-- The test for it: 100,000 × low ≤ claim + 1/2, and claim ≤ 100,000 × high + 1/2.
unfoldable pub passes : (low high : Kept) (claim : ℕ) → Bool
passes low high claim = at_most (exact_units (value low)) (plus (integer claim) half) && at_most (integer claim) (plus (exact_units (value high)) half)

-- ---- the answer

-- What a check of a claimed column answers: the number of a refusal; that every row passes; or the first row that fails.
pub data VerdictAnswer : Type 0 where
  refused_by : (number : ℕ) → VerdictAnswer
  all_pass : VerdictAnswer
  fails_at : (k : ℕ) → VerdictAnswer

-- The first of so many rows from k on that fails a test.
unfoldable pub first_to_fail : (test : ℕ → Bool) (rows k : ℕ) → VerdictAnswer
first_to_fail test zero k = all_pass
first_to_fail test (suc rows) k = cond (test k) (first_to_fail test rows (suc k)) (fails_at k)

-- The number of a refusal, or 0.
unfoldable pub refusal_in : VerdictAnswer → ℕ
refusal_in (refused_by number) = number
refusal_in all_pass = 0
refusal_in (fails_at k) = 0

-- Row k of a claim by the bounds of its chance.
module _ (c : Side → ℕ → Kept) (claims : List ℕ) where
  abbrev pub row_passes : ℕ → Bool
  row_passes k = passes (c Low k) (c High k) (get_or claims k 0)

  abbrev pub RowPasses : ℕ → Type 0
  RowPasses k = Passes (c Low k) (c High k) (get_or claims k 0)

module _ (n : ℕ) (c : Side → ℕ → Kept) (claims : List ℕ) where
  -- Rows 0 to n of the claim: the first that fails.
  unfoldable pub verdict_on : VerdictAnswer
  verdict_on = first_to_fail (row_passes c claims) (suc n) 0

  -- What a call answers, by the number of its refusal.
  unfoldable pub verdict_after : (refusal : ℕ) → VerdictAnswer
  verdict_after zero = verdict_on
  verdict_after (suc refusal) = refused_by (suc refusal)

  -- What an answer means, by the number that the grounds of the call give. Refused: that number, which is not 0. Passed: it is 0, and every row from 0 to n passes. Fails: it
  -- is 0, and row k is the first of them that does not pass.
  pub record MeansRefused (number refusal : ℕ) : Type 0 where
    pub number_is : refusal ≡ number
    pub some : number ≡ 0 → ⊥

  pub record MeansPassed (number : ℕ) : Type 0 where
    pub none : number ≡ 0
    pub every : (k : ℕ) → k ≤ n → RowPasses c claims k

  pub record MeansFails (number k : ℕ) : Type 0 where
    pub none : number ≡ 0
    pub within : k ≤ n
    pub fails : RowPasses c claims k → ⊥
    pub before : (i : ℕ) → i < k → RowPasses c claims i

  abbrev pub Means : (number : ℕ) → VerdictAnswer → Type 0
  Means number (refused_by refusal) = MeansRefused number refusal
  Means number all_pass = MeansPassed number
  Means number (fails_at k) = MeansFails number k
