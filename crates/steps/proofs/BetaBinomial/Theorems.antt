-- Demands 2 and 3 of the steps by the beta-binomial model, for every pool of up to 100 assets, every default probability p from 0 to 10,000 and every correlation ρ
-- below 10,000, every recovery R and every tranche with B ≤ 10,000 whose width (B − A) × n is above zero. The exact value of P(j,n) is the closed form. The range of
-- the exponents is taken from the products of quotients, whose denominators are far smaller than those of the closed form.
-- Assumes nothing.
use Rattle.std.specs.Prelude.{ℕ, ◌*◌, ◌≤◌, ◌<◌, ◌≡◌, List}
use Rattle.std.proofs.Common.{arith}
use Rattle.std.proofs.Math.Dec.{lit<, lit≤}
use Rattle.model.specs.Fraction.{integer, times, whole}
use Rattle.model.specs.Chances.{share, chance}
use Rattle.model.specs.ClosedForm.{defaults_by}
use Rattle.model.specs.BetaBinomial.{beta_probability, beta_defaults, quotient_product, quotient_defaults}
use Rattle.model.proofs.BetaBinomial.Theorems.{products_at_most, beta_product, defaults_same, products_complete, beta_mean}
use Rattle.kept.specs.declared.Kept.{Kept}
use Rattle.kept.specs.declared.Side.{Side}
use Rattle.kept.specs.declared.Side.TheVariants.{Low, High}
use Rattle.kept.specs.Accuracy.{precision, BudgetFor}
use Rattle.kept.specs.Accuracy.Laws.{budget_for_weaken}
use Rattle.steps.specs.Budgets.{chance_budget, tail_budget, layer_budget, WithinBudget, WithinPlaces}
use Rattle.steps.proofs.Counts.Laws.{count_budget_most}
use Rattle.steps.specs.Column.{half, printed_tail, printed_row, tenths, PrintsTails, PrintsColumn}
use Rattle.steps.specs.Enclosure.{Enclosed}
use Rattle.steps.proofs.Enclosure.Laws.{bound_enclosed}
use Rattle.steps.specs.Exponents.{Ranged}
use Rattle.steps.specs.Inputs.{largest_pool, fine_pool, distance_for, tenths_for, tail_tenths, InRange}
use Rattle.steps.proofs.Inputs.Laws.{up_to_lem}
use Rattle.steps.specs.declared.Tranche.{Tranche}
use Rattle.steps.specs.Loss.{LossAnswer}
use Rattle.steps.specs.Tranches.{TranchesInRange, tranche_losses}
use Rattle.steps.specs.Promises.{HoldsSteps, HoldsLosses}
use Rattle.steps.proofs.Promises.Laws.{steps_ranged, row_tails, tails_column, row_enclosed, losses_hold, within_same}
use Rattle.steps.specs.BetaBinomial.{kept_entry, kept_beta_defaults, BetaNumber, is_quotient, is_product, of_steps, quotients_budget}
use Rattle.steps.proofs.BetaBinomial.Laws.{quotients_bound, products_digits, quotient_ranged, quotients_ranged}

module _ {n p ρ : ℕ} (range : InRange largest_pool n p ρ) (ρ<1 : ρ < whole) where
  few : n ≤ 100
  unfolding largest_pool
  few = omega (arith, range.assets)

  -- The products of quotients are within their budget, and their denominators are few places long.
  pub products_within : WithinBudget (quotients_budget n) (quotient_defaults ρ<1 n p) (λ j. quotient_product ρ<1 p j n) (λ side. kept_entry side n p ρ)
  unfolding quotient_defaults quotient_product kept_entry chance share times integer layer_budget tail_budget chance_budget quotients_budget precision
  products_within = record {
    complete = products_complete p range.probability ρ<1 n;
    entries = λ side j l. quotients_bound side p ρ<1 j n;
    counted = λ j l. omega arith;
    parts = omega (arith, few, count_budget_most n);
    assets = few;
  }

  pub products_placed : WithinPlaces (34 * n) (quotient_defaults ρ<1 n p) (λ j. quotient_product ρ<1 p j n)
  unfolding quotient_defaults quotient_product
  products_placed = record {
    at_most_one = λ j l. products_at_most p ρ range.probability j n;
    denominators = λ j l. products_digits range.correlation n few;
    denominator = products_digits range.correlation n few;
    places = omega (arith, few);
  }

  -- The same against the closed form.
  pub beta_within : WithinBudget (quotients_budget n) (beta_defaults n p ρ) (λ j. beta_probability p ρ j n) (λ side. kept_entry side n p ρ)
  unfolding beta_defaults defaults_by
  beta_within =
      within_same (λ j. beta_probability p ρ j n) (defaults_same p range.probability ρ<1 n) (λ j l. beta_product p range.probability ρ<1 l) products_within

  -- Every number that the steps make has an exponent from −80,000 to 100.
  pub beta_exponents : (side : Side) {x : Kept} → BetaNumber side n p ρ x → Ranged x
  unfolding quotient_defaults
  beta_exponents side (is_quotient j t l m) = quotient_ranged side few range.probability ρ<1 j m
  beta_exponents side (is_product j k l m) = quotients_ranged side few range.probability ρ<1 j m
  beta_exponents side (of_steps number) = steps_ranged products_within products_placed side number

  -- The budget of a layer, the largest, is one for the distance.
  pub beta_budget : BudgetFor (distance_for n) (layer_budget n (chance_budget n (quotients_budget n)))
  unfolding distance_for layer_budget tail_budget chance_budget quotients_budget precision
  beta_budget =
      let most : BudgetFor (distance_for n) 600 =
      up_to_lem (λ g. BudgetFor g 600) fine_pool n (λ _. record { positive = lit< tt; small = lit≤ tt }) (λ _. record { positive = lit< tt; small = lit≤ tt }) in
      budget_for_weaken (omega (arith, few, count_budget_most n)) most

  -- Both bounds of entry j, with P(j,n) by its closed form.
  pub beta_entries : {j : ℕ} → j ≤ n → Enclosed (distance_for n) (kept_entry Low n p ρ j) (kept_entry High n p ρ j) (beta_probability p ρ j n)
  unfolding beta_defaults defaults_by layer_budget tail_budget chance_budget
  beta_entries {j} l = bound_enclosed (budget_for_weaken (omega arith) beta_budget) (λ side. beta_within.entries side j l)

  -- Both bounds of every chance, tail and loss, and the exponents of all numbers.
  pub beta_steps_hold : HoldsSteps (distance_for n) (beta_defaults n p ρ) (λ side. kept_beta_defaults side n p ρ) (λ side. BetaNumber side n p ρ)
  unfolding beta_defaults defaults_by kept_beta_defaults
  beta_steps_hold = record { enclosed = row_enclosed beta_within beta_budget; ranged = beta_exponents }

  -- What holds of the losses that are answered.
  pub beta_answers : {ts : List Tranche} {losses : List LossAnswer} → 0 < n → TranchesInRange ts → losses ≡ tranche_losses n (λ side. kept_beta_defaults side n p ρ) ts
      → HoldsLosses (distance_for n) p (beta_defaults n p ρ) (λ side. kept_beta_defaults side n p ρ) ts losses
  unfolding beta_defaults defaults_by kept_beta_defaults
  beta_answers = losses_hold beta_within beta_budget (beta_mean p range.probability ρ<1 n)

  -- The printed tails are at most half a unit above the exact ones and less than 0.8 units below them; above 64 assets less than 1.3.
  pub beta_printed : PrintsTails half (tenths (tail_tenths n)) (beta_defaults n p ρ) (printed_tail n (kept_beta_defaults Low n p ρ))
  unfolding beta_defaults defaults_by kept_beta_defaults tail_budget chance_budget quotients_budget
  beta_printed = row_tails beta_within (λ _. omega (arith, few, count_budget_most n)) (λ _. omega (arith, few, count_budget_most n))

  -- The printed rows add to 100,000, none is below zero, and each is less than 1.5 units from the exact chance; above 64 assets less than 2.
  pub beta_column_lem : PrintsColumn (tenths (tenths_for n)) (beta_defaults n p ρ) (printed_tail n (kept_beta_defaults Low n p ρ)) (printed_row n (kept_beta_defaults Low n p ρ))
  unfolding beta_defaults defaults_by
  beta_column_lem = tails_column (kept_beta_defaults Low n p ρ) beta_printed
