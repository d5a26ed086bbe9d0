-- The answer of a loss call is known by the number of its refusal and what its losses are.
-- Assumes nothing.
use Rattle.std.specs.Prelude.{◌≡◌, List, refl, Result}
use Rattle.std.proofs.Common.{ap₂}
use Rattle.grounds.specs.declared.refusal.Refusal.{Refusal}
use Rattle.grounds.specs.Refusals.{refusal_number}
use Rattle.grounds.proofs.Refusals.{one_outcome}
use Rattle.expected_losses.specs.declared.Loss.{Loss}
use Rattle.expected_losses.specs.Loss.{losses_in}
use Rattle.expected_losses.specs.Loss.Laws.{same_losses}
use Rattle.pool.specs.declared.losses.Answer.{Answer}

pub one_answer : (x y : Answer) → refusal_number x.outcome ≡ refusal_number y.outcome → losses_in x.losses ≡ losses_in y.losses → x ≡ y
one_answer x y number losses =
    ap₂ (λ (o : Result (Unit {0}) Refusal) (l : List Loss). record { outcome = o; losses = l })
    (one_outcome x.outcome y.outcome number) (same_losses x.losses y.losses losses)
