-- The high bound alone decides whether a loss meets a target, in whole basis points; what an answer means; and that it is the first ground of all which refuses.
-- Assumes nothing.
use Prim.Native.Nat.{ℕ, zero, suc, ◌≤◌, ◌<◌}
use Rattle.std.specs.Prelude.{◌≡◌, Bool, false, leb}
use Rattle.std.proofs.Math.Path.{refl, sym}
use Rattle.std.proofs.Common.{◌∙◌, inl, inr, true≢false, lit≤}
use Rattle.std.proofs.Math.Bool.{true, cond}
use native.Mathlib.Omega.{arith}
use Rattle.model.specs.Fraction.{Fraction, AtMost, Less, at_most, integer, times, whole, over}
use Rattle.model.specs.Fraction.Laws.{at_most_true, true_at_most, at_most_by, at_most_of_same, at_most_trans, same_sym}
use Rattle.kept.specs.declared.Kept.{Kept}
use Rattle.kept.specs.declared.Side.{Side}
use Rattle.kept.specs.declared.Side.TheVariants.{High}
use Rattle.kept.specs.Rounding.{IsKept, scaled, value}
use Rattle.kept.specs.Binary64.{least_shown}
use Rattle.kept.specs.Whole.{whole_of}
use Rattle.kept.specs.Whole.Laws.{whole_is, whole_at_most}
use Rattle.steps.specs.First.{first_from, NonePasses}
use Rattle.steps.proofs.First.Laws.{first_holds, first_map}
use Rattle.steps.specs.Loss.{LossAnswer, loss_answer}
use Rattle.steps.proofs.Loss.Laws.{answer_high}
use Rattle.steps.specs.Attachments.{AttachmentAnswer, refused, lowest, refusal_number, MeetsTarget, meets_target, loss_from, attachment_meets, attachment_on, attachment_after, Means}

-- ---- the target

-- A basis point or more is not below 2^−800.
least_shown_part : {target : ℕ} → 1 ≤ target → AtMost least_shown (over target 1)
unfolding least_shown scaled over whole
least_shown_part {target} some =
    let one : AtMost least_shown (over 1 1) = record { cross = lit≤ tt } in
    at_most_trans one (record { cross = omega arith })

-- A target that is not below a number above zero is not 0.
part_above : {x : Fraction} {target : ℕ} → Less (integer 0) x → AtMost x (over target 1) → 1 ≤ target
unfolding integer over whole
part_above {x = x} {target = zero} above most = absurd (omega (arith, above.cross, most.cross))
part_above {x = x} {target = suc target} above most = omega arith

module _ (low : Kept) {high : Kept} (kept : IsKept high) (order : AtMost (value low) (value high)) (most : AtMost (value high) (integer 2)) (target : ℕ) where
  high_of_met : MeetsTarget target (loss_answer low high) → AtMost (value high) (over target 1)
  high_of_met meets = elim (answer_high low kept order most) [
    | inl same ↦ at_most_trans (at_most_of_same (same_sym same)) meets
    | inr faint ↦ at_most_trans faint.below (at_most_trans (at_most_of_same (same_sym faint.number_is)) meets)
  ]

  met_by_high : AtMost (value high) (over target 1) → MeetsTarget target (loss_answer low high)
  met_by_high within = elim (answer_high low kept order most) [
    | inl same ↦ at_most_trans (at_most_of_same same) within
    | inr faint ↦ at_most_trans (at_most_of_same faint.number_is) (least_shown_part (part_above faint.above within))
  ]

  -- 10,000 × high, rounded up, is at most the target.
  pub target_whole : leb (whole_of High (times (integer whole) (value high))) target ≡ meets_target target (loss_answer low high)
  unfolding meets_target times integer over whole
  target_whole =
      let points : Fraction = times (integer whole) (value high) in
      at_most_by (whole_of High points) target
      (λ l.
      let few : AtMost (integer (whole_of High points)) (integer target) = record { cross = omega arith } in
      met_by_high (record { cross = omega (arith, (at_most_trans (whole_is High points).on_side few).cross) }))
      (λ meets. whole_at_most High {x = points} {n = target} (record { cross = omega (arith, (high_of_met meets).cross) }))

-- ---- the answer

meets_true : (target : ℕ) (loss : LossAnswer) → meets_target target loss ≡ true → MeetsTarget target loss
unfolding meets_target
meets_true target loss test = at_most_true test

meets_false : (target : ℕ) (loss : LossAnswer) → meets_target target loss ≡ false → MeetsTarget target loss → ⊥
unfolding meets_target
meets_false target loss test meets = true≢false (sym (true_at_most meets) ∙ test)

module _ (n : ℕ) (c : Side → ℕ → Kept) (R B target : ℕ) where
  none_meets : {end : ℕ} → NonePasses (attachment_meets n c R B target) end → (A : ℕ) → A < end → MeetsTarget target (loss_from n c R B A) → ⊥
  none_meets none A l = meets_false target (loss_from n c R B A) (none.fails A l)

  -- What the answer means where nothing refuses before the search.
  pub attachment_means : Means n c R B target 0 (attachment_on n c R B target)
  unfolding attachment_on
  attachment_means =
      first_holds _ _ _ (Means n c R B target 0) B
      (λ A first. record {
        none = refl;
        within = first.within;
        loss_is = refl;
        meets = meets_true target (loss_from n c R B A) first.passes;
        least = none_meets first.before;
      })
      (λ every. record { before = λ some. absurd (some refl); last = λ _. refl; none_meets = λ _. none_meets every })

  -- A call that is refused before the search.
  pub attachment_refused : (number : ℕ) → (number ≡ 0 → ⊥) → refused number ≡ attachment_after n c R B target number
  unfolding attachment_after
  attachment_refused zero some = absurd (some refl)
  attachment_refused (suc number) some = refl

  -- The number of the refusal: that of the ground before the search, or 20 where none of the attachments meets the target.
  pub attachment_number : (number : ℕ) → (number ≡ 0 → refusal_number (attachment_after n c R B target number) ≡ cond (first_from (attachment_meets n c R B target) (λ _. false) true B 0) 20 0)
      × ((number ≡ 0 → ⊥) → refusal_number (attachment_after n c R B target number) ≡ number)
  unfolding attachment_after attachment_on refusal_number
  attachment_number zero = (
    λ _.
        first_map refusal_number (attachment_meets n c R B target) (λ A. lowest A (loss_from n c R B A)) (refused 20) B 0
        ∙ sym (first_map (λ (t : Bool). cond t 20 0) (attachment_meets n c R B target) (λ _. false) true B 0),
    λ some. absurd (some refl),
  )
  attachment_number (suc number) = (λ none. absurd (omega arith), λ _. refl)
