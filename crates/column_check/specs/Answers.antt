-- What the answer of a check tells.
-- Assumes nothing.
use Rattle.std.specs.Prelude.{ℕ, Option, Result, Ok, Err}
use Rattle.grounds.specs.declared.refusal.Refusal.{Refusal}
use Rattle.grounds.specs.Refusals.{number_of}
use Rattle.steps.specs.Claims.{VerdictAnswer, refused_by}
use Rattle.claims.specs.Check.{verdict_of}
pub mod Laws

abbrev pub verdict_in : Result (Option ℕ) Refusal → VerdictAnswer
verdict_in (Ok failing) = verdict_of failing
verdict_in (Err refusal) = refused_by (number_of refusal)
