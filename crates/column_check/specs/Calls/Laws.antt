-- What the check promises, from what the steps give; what an accepted call's inputs give the functions below it; that the contract leaves one outcome, in which rows behind the
-- last of the claim play no part.
-- Assumes nothing.
use Rattle.std.specs.Prelude.{Result, Option, ℕ, suc, ◌+◌, ◌<◌, ◌≡◌, Bool, List, [], ◌∷◌, ◌++◌, ltb, length, take}
use Rattle.std.proofs.Common.{sym, ◌∙◌, le_refl, arith, lt-ltb, le-ltb, length-take}
use Rattle.std.proofs.Math.Path.{ap, subst}
use Rattle.std.proofs.Math.Decide.{dec_le}
use Rattle.model.specs.Chances.{Chances}
use Rattle.model.specs.CorrelatedBinomial.{defaults}
use Rattle.kept.specs.declared.Kept.{Kept}
use Rattle.kept.specs.declared.Side.{Side}
use Rattle.steps.specs.Claims.{refusal_in, verdict_on, verdict_after, Means, VerdictAnswer, refused_by}
use Rattle.steps.proofs.Claims.Laws.{verdict_refused, verdict_number, verdict_means, verdict_alone}
use Rattle.steps.specs.Inputs.{largest_pool, InRange}
use Rattle.steps.proofs.Inputs.Laws.{working_range}
use Rattle.steps.specs.Promises.{RowEnclosed}
use Rattle.steps.proofs.Promises.Laws.{chances_ordered, verdict_holds}
use Rattle.steps.specs.CorrelatedBinomial.{kept_defaults}
use Rattle.steps.specs.CorrelatedBinomial.Budgets.{defaults_budget, pool_budget}
use Rattle.steps.specs.CorrelatedBinomial.Rows.{kept_row}
use Rattle.steps.proofs.CorrelatedBinomial.Theorems.{within, placed, pool_budgets, steps_hold}
use Rattle.chances.specs.Chances.{OnSides}
use Rattle.claims.specs.Check.{CheckReady}
use Rattle.claims.specs.Check.Ready.{check_ready}
use Rattle.grounds.specs.declared.refusal.Refusal.{Refusal}
use Rattle.grounds.specs.Grounds.{first_ground, fill_grounds, entries_ground, entries_grounds, column_grounds, FillAccepted}
use Rattle.steps.specs.declared.Pool.{Pool}
use Rattle.store.specs.Stores.{Store, lengths, store_after}
use Rattle.store.proofs.Calls.Laws.{fills_untouched, fills_filled, fills_once}
use Rattle.pool.specs.Calls.{column_refusal}
use Rattle.column_check.specs.Answers.{verdict_in}
use Rattle.column_check.specs.Answers.Laws.{one_answer}
use Rattle.column_check.specs.Calls.{ChecksRow, Checks}

-- ---- a row of chances in general

module _ {r : Chances} {c : Side → ℕ → Kept} {claims : List ℕ} where
  -- A refused call, and one that answers.
  pub row_refused : {refusal number : ℕ} → (refusal ≡ 0 → ⊥) → refusal ≡ number → ChecksRow r c claims number (refused_by refusal)
  row_refused {refusal} {number} some is =
      let not_none : number ≡ 0 → ⊥ = λ none. some (is ∙ none) in
      record {
        verdict_is = ap refused_by is ∙ verdict_refused r.assets c claims number not_none;
        means = record { number_is = is; some = not_none };
        holds_verdict = λ none. absurd (not_none none);
      }

  pub row_checked : {g number : ℕ} {verdict : VerdictAnswer} → RowEnclosed g r c → 0 ≡ number → verdict ≡ verdict_on r.assets c claims → ChecksRow r c claims number verdict
  unfolding verdict_after
  row_checked {verdict} enclosed none is = record {
    verdict_is = is ∙ ap (verdict_after r.assets c claims) none;
    means = subst (λ number. Means r.assets c claims number verdict) none (rw is (verdict_means r.assets c claims (chances_ordered enclosed)));
    holds_verdict = λ _. verdict_holds enclosed is;
  }

-- ---- for the pools of the call

pub check_is_ready : {n p ρ : ℕ} → InRange largest_pool n p ρ → {low high : List Kept} {claims : List ℕ} → OnSides n low high (λ side. kept_row side p ρ n) → n < length claims
    → CheckReady n low high claims
unfolding defaults pool_budget defaults_budget
check_is_ready {n} range rows claimed =
    check_ready (within range) (placed range) (working_range range).assets ((pool_budgets range.assets).budget (le_refl n)) rows claimed

-- ---- the call

module _ {pool head : Pool} {claims : List ℕ} {before : Store} where
  pub checks_refused : {refusal : ℕ} → (refusal ≡ 0 → ⊥) → refusal ≡ column_refusal pool before claims → Checks pool head claims before before (refused_by refusal) head
  unfolding refusal_in
  checks_refused some is = record { fills = fills_untouched some is; checks = row_refused some is }

  pub checks_answered : {after : Store} {verdict : VerdictAnswer} {head' : Pool}
      → FillAccepted largest_pool pool.assets pool.probability pool.correlation (lengths before) → 0 ≡ column_refusal pool before claims
      → after ≡ store_after pool.assets pool.probability pool.correlation 0 before
      → verdict ≡ verdict_on pool.assets (λ side. kept_defaults side pool.assets pool.probability pool.correlation) claims
      → head' ≡ pool → Checks pool head claims before after verdict head'
  unfolding defaults
  checks_answered {verdict} given none filled is new =
      let range = given.pool.range in
      let accepted : refusal_in verdict ≡ 0 = ap refusal_in is ∙ verdict_number pool.assets _ claims in
      record {
        fills = rw accepted (fills_filled given none filled new);
        checks = row_checked (steps_hold range (pool_budgets range.assets)).enclosed none is;
      }

-- ---- one outcome

-- Claims that agree on rows 0 to n are both too short or neither is.
short_alike : (n : ℕ) (a b : List ℕ) → take (suc n) a ≡ take (suc n) b → ltb (length a) (n + 1) ≡ ltb (length b) (n + 1)
short_alike n a b alike =
    let same = sym (length-take (suc n) a) ∙ ap length alike ∙ length-take (suc n) b in
    elim (dec_le (n + 1) (length a)) [
      | yes l ↦ le-ltb (length a) (n + 1) l ∙ sym (le-ltb (length b) (n + 1) (omega arith))
      | no l ↦ lt-ltb (length a) (n + 1) (omega arith) ∙ sym (lt-ltb (length b) (n + 1) (omega arith))
    ]

refusal_alike : (pool : Pool) (s : Store) (claims other : List ℕ) → take (suc pool.assets) claims ≡ take (suc pool.assets) other
    → column_refusal pool s claims ≡ column_refusal pool s other
unfolding column_refusal column_grounds entries_grounds entries_ground
refusal_alike pool s claims other alike =
    ap
    (λ (short : Bool).
    first_ground
    (fill_grounds largest_pool pool.assets pool.probability pool.correlation (lengths s) ++ (record { number = 8; applies = short } ∷ [])))
    (short_alike pool.assets claims other alike)

-- What meets the contract for the same inputs is the same, whatever stands behind row n of the claim: the verdict, the store and the head, and with the verdict the answer.
pub verdicts_alone : {pool head head₁ head₂ : Pool} {claims other : List ℕ} {before after after' : Store} {verdict verdict' : VerdictAnswer}
    → take (suc pool.assets) claims ≡ take (suc pool.assets) other → Checks pool head claims before after verdict head₁
    → Checks pool head other before after' verdict' head₂ → (verdict ≡ verdict') × (after ≡ after') × (head₁ ≡ head₂)
unfolding defaults
verdicts_alone {pool} {claims} {other} {before} alike one two =
    let number = refusal_alike pool before claims other alike in
    let same = fills_once number one.fills two.fills in (
      one.checks.verdict_is ∙ verdict_alone pool.assets _ claims other alike _
          ∙ ap (verdict_after pool.assets _ other) number ∙ sym two.checks.verdict_is,
      same.1,
      same.2,
    )

pub checks_alone : {pool head head₁ head₂ : Pool} {claims other : List ℕ} {before after after' : Store} {answer answer' : Result (Option ℕ) Refusal}
    → take (suc pool.assets) claims ≡ take (suc pool.assets) other → Checks pool head claims before after (verdict_in answer) head₁
    → Checks pool head other before after' (verdict_in answer') head₂ → (answer ≡ answer') × (after ≡ after') × (head₁ ≡ head₂)
checks_alone {answer} {answer'} alike one two =
    let same = verdicts_alone alike one two in (one_answer answer answer' same.0, same.1, same.2)
