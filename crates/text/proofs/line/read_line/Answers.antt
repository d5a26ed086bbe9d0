-- `read_line` meets its contract: a line can only have the fields that were found, and nothing after them.
use Prim.Native.Char.{code}
use Rattle.std.proofs.Common.{ℕ, ◌≡◌, List, [], ◌∷◌, length, ap, arith, lit<}
use Rattle.std.proofs.lemmas.Bool.Decides.{nat_tests}
use Rattle.text.specs.Line.{Accepts}
use Rattle.text.specs.Line.Fields.{Begins}
use Rattle.text.specs.Line.Laws.{Fields, fields, after, no_field_first, nothing_after}
use Rattle.text.proofs.line.read_line.Goals as goal

module _ {input first_rest : List ℕ} {assets n p ρ : ℕ} (first : Begins (code " ") input assets first_rest) (line : Accepts input n p ρ) where
  past_first : Fields (code " " ∷ code "\n" ∷ []) (p ∷ ρ ∷ []) first_rest
  past_first = (after (lit< tt) first (fields line)).1

  module _ {probability : ℕ} {second_rest : List ℕ} (second : Begins (code " ") first_rest probability second_rest) where
    past_second : Fields (code "\n" ∷ []) (ρ ∷ []) second_rest
    past_second = (after (lit< tt) second past_first).1

    past_third : {correlation : ℕ} {rest : List ℕ} → Begins (code "\n") second_rest correlation rest → rest ≡ []
    past_third third = nothing_after (after (lit< tt) third past_second).1

pub returns-in_err-assets : goal.returns-in_err-assets
returns-in_err-assets c = rw c.from_residual.ensures (λ n p ρ line. no_field_first c.in_err-assets.ensures (fields line))

pub returns-in_err-probability : goal.returns-in_err-probability
returns-in_err-probability c = rw c.from_residual-in_err-probability.ensures (λ n p ρ line.
    no_field_first c.in_err-probability.ensures (past_first c.in_ok-assets.ensures line))

pub returns-in_err-correlation : goal.returns-in_err-correlation
returns-in_err-correlation c = rw c.from_residual-in_err-correlation.ensures (λ n p ρ line.
    no_field_first c.in_err-correlation.ensures (past_second c.in_ok-assets.ensures line c.in_ok-probability.ensures))

pub returns-then-not-is_empty : goal.returns-then-not-is_empty
returns-then-not-is_empty c = λ n p ρ line.
    let nothing = ap length (past_third c.in_ok-assets.ensures line c.in_ok-probability.ensures c.in_ok-correlation.ensures) in
    grind (arith, nat_tests)
