-- `column` meets its contract.
use Rattle.std.proofs.Common.{ℕ, ◌≡◌, sym, ◌∙◌, rules}
use Rattle.model.specs.ClosedForm.{defaults_by}
use Rattle.model.specs.BetaBinomial.{beta_defaults}
use Rattle.steps.specs.BetaBinomial.{kept_beta_defaults}
use Rattle.steps.proofs.BetaBinomial.Theorems.{beta_column_lem}
use Rattle.steps.specs.Inputs.{largest_pool}
use Rattle.grounds.specs.Grounds.Laws.{beta_column_accepted}
use Rattle.grounds.specs.Refusals.{number_of, refusal_number}
use Rattle.grounds.proofs.Refusals.{refusal_some}
use Rattle.pool.specs.Calls.Laws.{row_untouched, row_printed}
use Rattle.beta_binomial.specs.Calls.{beta_column_refusal}
use Rattle.beta_binomial.specs.Calls.Laws.{column_is_ready, holds_beta}
use Rattle.beta_binomial.proofs.printing.column.Goals as goal

pub returns-in_err-beta_column_refusal : goal.returns-in_err-beta_column_refusal
unfolding beta_column_refusal largest_pool
returns-in_err-beta_column_refusal c =
    let refusal = c.in_err-beta_column_refusal.field-0.0 in
    let is : refusal_number c.from_residual.result ≡ refusal_number c.beta_column_refusal.result = search rules in
    let number : refusal_number c.from_residual.result ≡ number_of refusal = search rules in
    let some : refusal_number c.from_residual.result ≡ 0 → ⊥ = λ none. refusal_some refusal (sym number ∙ none) in
    record { refusal_is = is ∙ c.beta_column_refusal.ensures; holds = λ none. absurd (some none); prints = row_untouched some }

pub row-low-requires-clause-range : goal.row-low-requires-clause-range
unfolding largest_pool
row-low-requires-clause-range c =
    let none : refusal_number c.beta_column_refusal.result ≡ 0 = search rules in
    (beta_column_accepted _ _ _ _ _ c.beta_column_refusal.ensures none).pool.pool.range

pub row-low-requires-clause-correlation : goal.row-low-requires-clause-correlation
unfolding largest_pool
row-low-requires-clause-correlation c =
    let none : refusal_number c.beta_column_refusal.result ≡ 0 = search rules in
    (beta_column_accepted _ _ _ _ _ c.beta_column_refusal.ensures none).pool.below

pub print_column-requires-clause-ready : goal.print_column-requires-clause-ready
unfolding largest_pool
print_column-requires-clause-ready c =
    let none : refusal_number c.beta_column_refusal.result ≡ 0 = search rules in
    let pool = (beta_column_accepted _ _ _ _ _ c.beta_column_refusal.ensures none).pool in
    column_is_ready pool.pool.range pool.below c.row-low.ensures

pub print_column-requires-clause-places : goal.print_column-requires-clause-places
unfolding largest_pool
print_column-requires-clause-places c =
    let none : refusal_number c.beta_column_refusal.result ≡ 0 = search rules in
    (beta_column_accepted _ _ _ _ _ c.beta_column_refusal.ensures none).entries

pub returns : goal.returns
unfolding beta_column_refusal largest_pool beta_defaults defaults_by kept_beta_defaults
returns c =
    let none : refusal_number c.beta_column_refusal.result ≡ 0 = search rules in
    let number = c.beta_column_refusal.ensures in
    let pool = (beta_column_accepted _ _ _ _ _ number none).pool in
    record {
      refusal_is = sym none ∙ number;
      holds = λ _. holds_beta pool.pool.range pool.below;
      prints = row_printed _ (beta_column_lem pool.pool.range pool.below) (c.print_column.ensures.units_are _ c.row-low.ensures);
    }
