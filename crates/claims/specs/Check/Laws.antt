-- The check of claimed rows, one after the other.
-- Assumes nothing.
use Prim.Native.Nat.{ℕ, suc, ◌+◌, ◌-◌, ◌≤◌}
use Rattle.std.specs.Prelude.{◌≡◌, Bool, true, false, List, get_or}
use Rattle.std.proofs.Math.Path.{refl, sym, ap}
use Rattle.std.proofs.Common.{◌∙◌, add-one}
use Rattle.std.proofs.Math.Bool.{cond}
use Rattle.std.proofs.Math.Nat.{sub-zero}
use native.Mathlib.Omega.{arith}
use Rattle.kept.specs.declared.Kept.{Kept}
use Rattle.kept.specs.declared.Side.{Side}
use Rattle.kept.specs.declared.Side.TheVariants.{Low, High}
use Rattle.steps.specs.Chances.{kept_chances}
use Rattle.steps.specs.Claims.{passes, first_to_fail, row_passes, verdict_on, VerdictAnswer, all_pass, fails_at}
use Rattle.chances.specs.Chances.{ChancesMade, OnSides, Answerable}
use Rattle.claims.specs.Check.{RowsReady, RowsChecked, CheckReady, Checked}

-- Rows 0 to k − 1 pass: the verdict is that on what is left.
pub record RowsBelow (n : ℕ) (low high : List Kept) (claims : List ℕ) (k : ℕ) : Type 0 where
  pub ready : RowsReady n low high claims
  pub within : k ≤ suc n
  pub left : (c : Side → ℕ → Kept) → OnSides n low high c → verdict_on n c claims ≡ first_to_fail (row_passes c claims) (suc n - k) k

module _ {n : ℕ} {low high : List Kept} {claims : List ℕ} where
  pub rows_none : RowsReady n low high claims → RowsBelow n low high claims 0
  unfolding verdict_on
  rows_none ready = record { ready = ready; within = omega arith; left = λ c on. rw (sub-zero (suc n)) refl }

  module _ {k : ℕ} (done : RowsBelow n low high claims k) where
    -- Row k.
    module _ (l : k ≤ n) (d : Kept) where
      pub row_answerable : Answerable (get_or low k d) (get_or high k d)
      row_answerable =
          rw (done.ready.chances.on_low.entry d k (omega arith), done.ready.chances.on_high.entry d k (omega arith)) (done.ready.answerable k l)

      row_left : (c : Side → ℕ → Kept) → OnSides n low high c → (t : Bool) → passes (get_or low k d) (get_or high k d) (get_or claims k 0) ≡ t
          → verdict_on n c claims ≡ cond t (first_to_fail (row_passes c claims) (n - k) (suc k)) (fails_at k)
      unfolding first_to_fail
      row_left c on t test =
          let one_less : suc n - k ≡ suc (n - k) = omega arith in
          let is : row_passes c claims k ≡ t = rw (on.on_low.entry d k (omega arith), on.on_high.entry d k (omega arith)) at test in
          done.left c on ∙ ap (λ m. first_to_fail (row_passes c claims) m k) one_less
          ∙ ap (λ (u : Bool). cond u (first_to_fail (row_passes c claims) (n - k) (suc k)) (fails_at k)) is

      pub row_more : passes (get_or low k d) (get_or high k d) (get_or claims k 0) ≡ true → RowsBelow n low high claims (k + 1)
      row_more passed =
          let rest : suc n - (k + 1) ≡ n - k = omega arith in
          record { ready = done.ready; within = omega arith; left = λ c on. row_left c on true passed ∙ rw (rest, add-one k) refl }

      pub row_fails : passes (get_or low k d) (get_or high k d) (get_or claims k 0) ≡ false → RowsChecked n low high claims (fails_at k)
      row_fails failed = record { verdict_is = λ c on. sym (row_left c on false failed) }

    pub rows_all : k ≡ suc n → RowsChecked n low high claims all_pass
    unfolding first_to_fail
    rows_all all =
        let none : suc n - k ≡ 0 = omega arith in
        record { verdict_is = λ c on. sym (done.left c on ∙ ap (λ m. first_to_fail (row_passes c claims) m k) none) }

-- ---- from row n of either side: c and h are what step 4 makes of it

module _ {n : ℕ} {low high c h : List Kept} (of_low : ChancesMade Low n low c) (of_high : ChancesMade High n high h) where
  on_chances : {entry : Side → ℕ → Kept} → OnSides n low high entry → OnSides n c h (λ side. kept_chances side n (entry side))
  on_chances on = record { on_low = of_low.chances _ on.on_low; on_high = of_high.chances _ on.on_high }

  pub rows_ready : {claims : List ℕ} → CheckReady n low high claims → RowsReady n c h claims
  rows_ready ready =
      let entry : Side → ℕ → Kept = λ side. elim side [ Low ↦ ready.low_ready.entry | High ↦ ready.high_ready.entry ] in
      record {
        assets = ready.low_ready.assets;
        bounds = λ side. kept_chances side n (entry side);
        chances = on_chances (record { on_low = ready.low_ready.entries; on_high = ready.high_ready.entries });
        answerable = ready.answerable;
        claimed = ready.claimed;
      }

  pub rows_checked : {claims : List ℕ} {verdict : VerdictAnswer} → RowsChecked n c h claims verdict → Checked n low high claims verdict
  rows_checked checked = record { verdict_is = λ entry on. checked.verdict_is _ (on_chances on) }
