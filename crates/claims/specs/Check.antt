-- The check of claimed rows over working rows.
-- Assumes nothing.
use Rattle.std.specs.Prelude.{ℕ, ◌≤◌, ◌<◌, ◌≡◌, List, length, Option, None, Some}
use Rattle.kept.specs.declared.Kept.{Kept}
use Rattle.kept.specs.declared.Side.{Side}
use Rattle.kept.specs.declared.Side.TheVariants.{Low, High}
use Rattle.steps.specs.Chances.{kept_chances}
use Rattle.steps.specs.Claims.{verdict_on, VerdictAnswer, all_pass, fails_at}
use Rattle.steps.specs.Inputs.{working_assets}
use Rattle.chances.specs.Chances.{StepsReady, OnSides, Answerable}
pub mod Laws
pub mod Ready

-- The verdict that a check stands for: the first row that fails, if one does.
abbrev pub verdict_of : Option ℕ → VerdictAnswer
verdict_of None = all_pass
verdict_of (Some k) = fails_at k

module _ (n : ℕ) (low high : List Kept) (claims : List ℕ) where
  -- What the first row to fail asks of the chances of either side, and of the claim.
  pub record RowsReady : Type 0 where
    pub assets : n ≤ working_assets
    pub bounds : Side → ℕ → Kept
    pub chances : OnSides n low high bounds
    pub answerable : (k : ℕ) → k ≤ n → Answerable (bounds Low k) (bounds High k)
    pub claimed : n < length claims

  -- What it leaves: the verdict.
  pub record RowsChecked (verdict : VerdictAnswer) : Type 0 where
    pub verdict_is : (c : Side → ℕ → Kept) → OnSides n low high c → verdict ≡ verdict_on n c claims

  -- What the check asks of row n of either side, and of the claim.
  pub record CheckReady : Type 0 where
    pub low_ready : StepsReady Low n low
    pub high_ready : StepsReady High n high
    pub answerable : (k : ℕ) → k ≤ n → Answerable (kept_chances Low n low_ready.entry k) (kept_chances High n high_ready.entry k)
    pub claimed : n < length claims

  -- What it leaves.
  pub record Checked (verdict : VerdictAnswer) : Type 0 where
    pub verdict_is : (entry : Side → ℕ → Kept) → OnSides n low high entry → verdict ≡ verdict_on n (λ side. kept_chances side n (entry side)) claims
