-- The contract of the check implies what is demanded of it.
-- Assumes nothing.
use Rattle.std.specs.Prelude.{Result, Ok, Err, Option, None, Some, ℕ, ◌+◌, ◌-◌, ◌*◌, ◌/◌, ◌≡◌, refl, List}
use Rattle.std.proofs.Common.{sym, ◌∙◌, arith}
use Rattle.std.proofs.Math.Decide.{dec_le}
use Rattle.std.proofs.Math.Nat.{div-eq_of_lt}
use Rattle.model.specs.Fraction.{Fraction, AtMost, plus, minus}
use Rattle.model.specs.Fraction.Laws.{at_most_refl, at_most_trans, plus_mono}
use Rattle.model.specs.Chances.{Chances, Complete, chance}
use Rattle.model.proofs.Chances.Laws.{chance_at_most_one}
use Rattle.model.specs.CorrelatedBinomial.{defaults}
use Rattle.kept.specs.declared.Kept.{Kept}
use Rattle.kept.specs.declared.Side.{Side}
use Rattle.kept.specs.declared.Side.TheVariants.{Low, High}
use Rattle.kept.specs.Whole.{whole_of}
use Rattle.steps.specs.Column.{units_of_certainty, exact_units, half, to_nearest, AtMostApart}
use Rattle.steps.specs.Claims.{Passes, refusal_in, Means, VerdictAnswer, refused_by, all_pass, fails_at}
use Rattle.steps.specs.Inputs.{largest_pool, up_to, fine_pool, distance_for}
use Rattle.steps.specs.Promises.{RowEnclosed, HoldsVerdict}
use Rattle.steps.proofs.CorrelatedBinomial.Theorems.{within}
use Rattle.grounds.specs.Grounds.{column_grounds}
use Rattle.grounds.specs.declared.refusal.Refusal.{Refusal}
use Rattle.steps.specs.declared.Pool.{Pool}
use Rattle.store.specs.Stores.{Store, lengths}
use Rattle.store.proofs.Calls.Laws.{fills_accepted}
use Rattle.pool.specs.Calls.{column_refusal}
use Rattle.pool.specs.Demands.{parts_for, one_half, NoFurther, ClaimPasses, nearest_to, verdict_told, refusal_of, VerdictSays, VerdictDemands, CheckDemands}
use Rattle.pool.proofs.Demands.Theorems.{slices, store_kept, store_meets}
use Rattle.column_check.specs.Answers.{verdict_in}
use Rattle.column_check.specs.Calls.{Checks}
use Rattle.column_check.proofs.Calls.Distance.{off_within}

-- At most so far apart, and a row that passes, with the numbers of the page and without.
apart_meets : {off x y : Fraction} → AtMostApart off x y → NoFurther off x y
apart_meets apart = record { not_above = apart.not_above; not_below = apart.not_below }

apart_of : {off x y : Fraction} → NoFurther off x y → AtMostApart off x y
apart_of apart = record { not_above = apart.not_above; not_below = apart.not_below }

passes_meet : {low high : Kept} {claim : ℕ} → Passes low high claim → ClaimPasses low high claim
unfolding units_of_certainty exact_units half one_half
passes_meet passes = record { number = passes.number; from_low = passes.from_low; to_high = passes.to_high; near = apart_meets passes.near }

passes_of : {low high : Kept} {claim : ℕ} → ClaimPasses low high claim → Passes low high claim
unfolding units_of_certainty exact_units half one_half
passes_of passes = record { number = passes.number; from_low = passes.from_low; to_high = passes.to_high; near = apart_of passes.near }

-- Rounding to nearest, in one division.
nearest_meets : (side : Side) (x : Fraction) → nearest_to side x ≡ to_nearest side x
unfolding nearest_to to_nearest whole_of plus minus half
nearest_meets High x =
    let above : x.num * 2 + 1 * x.den ≡ 2 * x.num + x.den = omega arith in
    let below : x.den * 2 ≡ 2 * x.den = omega arith in
    rw (above, below) refl
nearest_meets Low x =
    let below : x.den * 2 ≡ 2 * x.den = omega arith in
    elim (dec_le x.den (2 * x.num)) [
      | yes l ↦
          let above : x.num * 2 - 1 * x.den + (2 * x.den - 1) ≡ 2 * x.num + x.den - 1 = omega (arith, x.positive) in
          rw (below, above) refl
      | no l ↦
          let none : x.num * 2 - 1 * x.den + (2 * x.den - 1) ≡ 2 * x.den - 1 = omega (arith, x.positive) in
          let left : (2 * x.num + x.den - 1) / (2 * x.den) ≡ 0 = div-eq_of_lt (omega (arith, x.positive)) in
          let right : (2 * x.den - 1) / (2 * x.den) ≡ 0 = div-eq_of_lt (omega (arith, x.positive)) in
          rw (below, none) (left ∙ sym right)
    ]

-- What an answer tells.
told_meets : (answer : Result (Option ℕ) Refusal) → verdict_in answer ≡ verdict_told answer
told_meets (Err refusal) = refl
told_meets (Ok None) = refl
told_meets (Ok (Some k)) = refl

-- The number of a refusal.
refusal_meets : (verdict : VerdictAnswer) → refusal_in verdict ≡ refusal_of verdict
unfolding refusal_in
refusal_meets (refused_by number) = refl
refusal_meets all_pass = refl
refusal_meets (fails_at k) = refl

apart_weaken : {off off' x y : Fraction} → AtMost off off' → AtMostApart off x y → AtMostApart off' x y
apart_weaken l apart = record {
  not_above = at_most_trans apart.not_above (plus_mono at_most_refl l);
  not_below = at_most_trans apart.not_below (plus_mono at_most_refl l);
}

-- The verdict on the claims of any row, at the distances of the library.
module _ {r : Chances} {c : Side → ℕ → Kept} {claims : List ℕ} {number : ℕ} (none : number ≡ 0) where
  says_meets : (verdict : VerdictAnswer) → Means r.assets c claims number verdict → HoldsVerdict r c claims verdict → VerdictSays r.assets c (chance r) claims verdict
  unfolding units_of_certainty exact_units half one_half
  says_meets (refused_by refusal) means holds = absurd (means.some none)
  says_meets all_pass means holds = λ k l. passes_meet (means.every k l)
  says_meets (fails_at k) means holds = record {
    row = means.within;
    fails = λ passed. means.fails (passes_of passed);
    before = λ i l. passes_meet (means.before i l);
    far = λ near. means.fails (holds.near_row k means.within (apart_of near));
  }

  verdict_meets : (verdict : VerdictAnswer) → Complete r → RowEnclosed (distance_for r.assets) r c → Means r.assets c claims number verdict → HoldsVerdict r c claims verdict
      → VerdictDemands r.assets c (chance r) claims verdict
  unfolding units_of_certainty exact_units half one_half
  verdict_meets verdict complete enclosed means holds = record {
    says = says_meets verdict means holds;
    near_row = λ k l near. passes_meet (holds.near_row k l (apart_of near));
    near = λ every. holds.near_column (λ k l. apart_of (every k l));
    rounded = λ side every. holds.rounded_column side (λ k l. every k l ∙ nearest_meets (side k) (exact_units (chance r k)));
    passed = λ k l passed. apart_meets (holds.passed_row k l (passes_of passed));
    passed_units = λ k l passed.
        apart_meets (apart_weaken (off_within r.assets (enclosed.chances l) (chance_at_most_one r complete l)) (holds.passed_row k l (passes_of passed)));
  }

pub check_meets : {pool head head' : Pool} {claims : List ℕ} {before after : Store} (answer : Result (Option ℕ) Refusal)
    → Checks pool head claims before after (verdict_in answer) head' → CheckDemands pool head claims (slices before) (slices after) answer head'
unfolding defaults column_refusal column_grounds lengths largest_pool up_to fine_pool distance_for parts_for
check_meets answer is =
    let verdict = verdict_told answer in
    let checks = rw (told_meets answer) at is in
    let fills = rw (refusal_meets verdict) at checks.fills in
    record {
      one = record { number = fills.refusal_is; untouched = store_kept fills };
      store = store_meets fills;
      answer = λ none.
          let zero = sym fills.refusal_is ∙ none in
          verdict_meets zero verdict (within (fills_accepted fills none).pool.range).complete (fills.steps_hold none).enclosed checks.checks.means
          (checks.checks.holds_verdict zero);
    }
