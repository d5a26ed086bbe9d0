-- The answer of a check is known by its verdict.
-- Assumes nothing.
use Rattle.std.specs.Prelude.{Result, Ok, Err, Option, None, Some, ℕ, ◌≡◌}
use Rattle.std.proofs.Math.Path.{refl, sym}
use Rattle.std.proofs.Common.{◌∙◌, ap}
use Rattle.grounds.specs.declared.refusal.Refusal.{Refusal}
use Rattle.grounds.proofs.Refusals.{refusal_some, one_outcome}
use Rattle.steps.specs.Claims.{VerdictAnswer, refused_by, all_pass, fails_at, refusal_in}
use Rattle.column_check.specs.Answers.{verdict_in}

-- The row that a verdict names.
row_in : VerdictAnswer → Option ℕ
row_in (refused_by number) = None
row_in all_pass = None
row_in (fails_at k) = Some k

row_back : (failing : Option ℕ) → row_in (verdict_in (Ok failing)) ≡ failing
unfolding row_in
row_back None = refl
row_back (Some k) = refl

-- An outcome that refuses, as the answer of a check.
refused : Result (Unit {0}) Refusal → Result (Option ℕ) Refusal
refused (Ok done) = Ok None
refused (Err refusal) = Err refusal

-- One that does not refuse has the number 0.
none_refused : (failing : Option ℕ) → refusal_in (verdict_in (Ok failing)) ≡ 0
unfolding refusal_in
none_refused None = refl
none_refused (Some k) = refl

pub one_answer : (x y : Result (Option ℕ) Refusal) → verdict_in x ≡ verdict_in y → x ≡ y
unfolding refused refusal_in
one_answer (Ok x) (Ok y) same = ap Ok (sym (row_back x) ∙ ap row_in same ∙ row_back y)
one_answer (Ok x) (Err refusal) same = absurd (refusal_some refusal (sym (ap refusal_in same) ∙ none_refused x))
one_answer (Err refusal) (Ok y) same = absurd (refusal_some refusal (ap refusal_in same ∙ none_refused y))
one_answer (Err refusal) (Err other) same = ap refused (one_outcome (Err refusal) (Err other) (ap refusal_in same))
