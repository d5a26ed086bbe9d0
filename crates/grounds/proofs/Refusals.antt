-- A check that refuses is the first of those it stands before; one that does not leaves it to them.
-- Assumes nothing.
use Rattle.std.specs.Prelude.{ℕ, suc, ◌+◌, ◌<◌, ◌≡◌, List, ◌++◌, Bool, true, false, cond, eqb, length, get_or, drop, Result, Ok, Err, is_err}
use Rattle.std.proofs.Math.Path.{refl, sym}
use Rattle.std.proofs.Common.{◌∙◌, ap, add-one, arith, true≢false}
use Rattle.grounds.specs.declared.refusal.Refusal.{Refusal}
use Rattle.grounds.specs.declared.refusal.Refusal.TheVariants.{Assets, Probability, Correlation, Recovery, UpperAttachment, Attachments, Store, Column, Row, Shifts, ScreenAssets}
use Rattle.grounds.specs.declared.refusal.Refusal.TheVariants.{FullCorrelation, TrancheCount, Layer, Head, Ceiling, FileLength, UnkeptEntry}
use Rattle.grounds.specs.Grounds.{Ground, first_of, first_ground, tranche_grounds, tranches_grounds}
use Rattle.grounds.specs.Grounds.Laws.{first_append, tranches_from}
use Rattle.grounds.specs.Refusals.{number_of, refusal_number}
use Rattle.steps.specs.declared.Tranche.{Tranche}

first_number : (refusal : Refusal) (b : ℕ) → number_of refusal ≡ first_of (number_of refusal) b
unfolding first_of
first_number Assets b = refl
first_number Probability b = refl
first_number Correlation b = refl
first_number Recovery b = refl
first_number UpperAttachment b = refl
first_number Attachments b = refl
first_number Store b = refl
first_number Column b = refl
first_number Row b = refl
first_number Shifts b = refl
first_number ScreenAssets b = refl
first_number FullCorrelation b = refl
first_number TrancheCount b = refl
first_number Layer b = refl
first_number Head b = refl
first_number Ceiling b = refl
first_number FileLength b = refl
first_number UnkeptEntry b = refl

-- A refusal has a number.
pub refusal_some : (refusal : Refusal) → number_of refusal ≡ 0 → ⊥
unfolding first_of
refusal_some refusal none = let some : number_of refusal ≡ first_of (number_of refusal) 1 = first_number refusal 1 in absurd (omega (arith, rw none at some))

pub refused_first : (refusal : Refusal) {a : ℕ} (b : ℕ) → number_of refusal ≡ a → number_of refusal ≡ first_of a b
refused_first refusal b is = rw (← is) (first_number refusal b)

pub accepted_first : {a b r : ℕ} → 0 ≡ a → r ≡ b → r ≡ first_of a b
unfolding first_of
accepted_first none rest = rw (← none, rest) refl

-- The same of lists of grounds.
module _ (a b : List Ground) where
  pub refused_append : (refusal : Refusal) → number_of refusal ≡ first_ground a → number_of refusal ≡ first_ground (a ++ b)
  refused_append refusal is = refused_first refusal (first_ground b) is ∙ first_append a b

  pub accepted_append : {r : ℕ} → 0 ≡ first_ground a → r ≡ first_ground b → r ≡ first_ground (a ++ b)
  accepted_append none rest = accepted_first none rest ∙ first_append a b

-- What is left of tranches at place i: the tranche there refuses, or it does not and those behind it are left.
module _ (ts : List Tranche) {i whole : ℕ} (d : Tranche) (left : whole ≡ first_ground (tranches_grounds (drop i ts))) (within : i < length ts) where
  pub next_refused : (refusal : Refusal) → number_of refusal ≡ first_ground (tranche_grounds (get_or ts i d).recovery (get_or ts i d).lower (get_or ts i d).upper) → number_of refusal ≡ whole
  next_refused refusal is =
      refused_append _ (tranches_grounds (drop (suc i) ts)) refusal is ∙ sym (left ∙ ap first_ground (tranches_from ts d within))

  pub next_accepted : 0 ≡ first_ground (tranche_grounds (get_or ts i d).recovery (get_or ts i d).lower (get_or ts i d).upper) → whole ≡ first_ground (tranches_grounds (drop (i + 1) ts))
  next_accepted none =
      rw add-one (left ∙ ap first_ground (tranches_from ts d within) ∙ sym (accepted_append _ (tranches_grounds (drop (suc i) ts)) none refl))

-- A check's answer is known by its number.
outcome_of : ℕ → Result (Unit {0}) Refusal
outcome_of n =
    cond (eqb n 1) (Err Assets) (
    cond (eqb n 2) (Err Probability) (
    cond (eqb n 3) (Err Correlation) (
    cond (eqb n 4) (Err Recovery) (
    cond (eqb n 5) (Err UpperAttachment) (
    cond (eqb n 6) (Err Attachments) (
    cond (eqb n 7) (Err Store) (
    cond (eqb n 8) (Err Column) (
    cond (eqb n 9) (Err Row) (
    cond (eqb n 10) (Err Shifts) (
    cond (eqb n 11) (Err ScreenAssets) (
    cond (eqb n 12) (Err FullCorrelation) (
    cond (eqb n 13) (Err TrancheCount) (
    cond (eqb n 14) (Err Layer) (
    cond (eqb n 15) (Err Head) (
    cond (eqb n 16) (Err Ceiling) (
    cond (eqb n 17) (Err FileLength) (
    cond (eqb n 18) (Err UnkeptEntry) (
    Ok tt))))))))))))))))))

outcome_back : (x : Result (Unit {0}) Refusal) → outcome_of (refusal_number x) ≡ x
unfolding outcome_of
outcome_back (Ok tt) = refl
outcome_back (Err Assets) = refl
outcome_back (Err Probability) = refl
outcome_back (Err Correlation) = refl
outcome_back (Err Recovery) = refl
outcome_back (Err UpperAttachment) = refl
outcome_back (Err Attachments) = refl
outcome_back (Err Store) = refl
outcome_back (Err Column) = refl
outcome_back (Err Row) = refl
outcome_back (Err Shifts) = refl
outcome_back (Err ScreenAssets) = refl
outcome_back (Err FullCorrelation) = refl
outcome_back (Err TrancheCount) = refl
outcome_back (Err Layer) = refl
outcome_back (Err Head) = refl
outcome_back (Err Ceiling) = refl
outcome_back (Err FileLength) = refl
outcome_back (Err UnkeptEntry) = refl

pub one_outcome : (x y : Result (Unit {0}) Refusal) → refusal_number x ≡ refusal_number y → x ≡ y
one_outcome x y same = sym (outcome_back x) ∙ ap outcome_of same ∙ outcome_back y

-- What is known of a check's answer where it was asked whether it is one that refuses.
pub err_some : (x : Result (Unit {0}) Refusal) {asked : Bool} → asked ≡ is_err x → asked ≡ true → refusal_number x ≡ 0 → ⊥
err_some (Ok done) is so = absurd (true≢false (sym so ∙ is))
err_some (Err refusal) is so = refusal_some refusal

pub ok_none : (x : Result (Unit {0}) Refusal) {asked : Bool} → asked ≡ is_err x → asked ≡ false → refusal_number x ≡ 0
ok_none (Ok done) is so = refl
ok_none (Err refusal) is so = absurd (true≢false (sym is ∙ so))
