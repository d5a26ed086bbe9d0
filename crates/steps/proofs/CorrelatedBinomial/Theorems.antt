-- Demands 2 and 3 of the steps, for every pool of up to 100 assets, every default probability p and correlation ρ from 0 to 10,000, every recovery R and every
-- tranche with B ≤ 10,000 whose width (B − A) × n is above zero, which `tranche-wide` gives for A < B and a pool that is not empty, and every layer up to the j-th
-- default with j ≤ n. What the steps make is within the budgets of the model's row, so that the promises of a row in general hold of it, at every distance that these budgets give.
-- Assumes nothing.
use Rattle.std.specs.Prelude.{ℕ, ◌*◌, ◌≤◌, ◌<◌, ◌≡◌, refl, List, get_or, ℤ, pos}
use Rattle.std.proofs.Common.{arith, le_refl, le_trans, lit<, lit≤}
use Rattle.model.specs.Number.{triangle}
use Rattle.model.specs.Number.Laws.{triangle_mono}
use Rattle.model.specs.Fraction.{integer, plus, times, whole, over, certainty}
use Rattle.model.specs.Fraction.Laws.{same_sym, same_trans, whole_digits}
use Rattle.model.specs.Chances.{share, chance}
use Rattle.model.specs.CorrelatedBinomial.{probability, defaults}
use Rattle.model.proofs.CorrelatedBinomial.Theorems.{probability_at_most_one, defaults_complete, defaults_mean, defaults_tails_total}
use Rattle.kept.specs.declared.Kept.{Kept}
use Rattle.kept.specs.declared.Side.{Side}
use Rattle.kept.specs.declared.Side.TheVariants.{Low, High}
use Rattle.kept.specs.Accuracy.{precision, BudgetFor}
use Rattle.kept.specs.Accuracy.Laws.{budget_for_weaken}
use Rattle.steps.specs.Budgets.{chance_budget, tail_budget, layer_budget, WithinBudget, WithinPlaces}
use Rattle.steps.specs.Counts.{exact_assets, count_budget}
use Rattle.steps.proofs.Counts.Laws.{count_budget_mono, count_budget_most}
use Rattle.steps.specs.CorrelatedBinomial.Budgets.{row_budget, defaults_budget, pool_budget, BudgetsFor, FewAssets}
use Rattle.steps.specs.CorrelatedBinomial.Rows.{kept_row}
use Rattle.steps.proofs.CorrelatedBinomial.Rows.Laws.{entry_bound}
use Rattle.steps.specs.Enclosure.{Enclosed}
use Rattle.steps.proofs.Enclosure.Laws.{bound_enclosed}
use Rattle.steps.specs.Column.{half, printed_tail, printed_row, tenths, PrintsTails, PrintsColumn}
use Rattle.steps.specs.Shifts.{tail_shift}
use Rattle.steps.specs.Exponents.{Ranged}
use Rattle.steps.proofs.CorrelatedBinomial.Exponents.Laws.{rows_ranged}
use Rattle.steps.specs.declared.Tranche.{Tranche}
use Rattle.steps.specs.Loss.{LossAnswer}
use Rattle.steps.specs.Tranches.{TranchesInRange, tranche_losses}
use Rattle.steps.specs.Layers.{loss_of_layer}
use Rattle.steps.specs.Attachments.{AttachmentAnswer, attachment_on}
use Rattle.steps.specs.Promises.{HoldsSteps, HoldsShifts, HoldsLosses, HoldsLayer, HoldsAttachment}
use Rattle.steps.proofs.Promises.Laws.{steps_ranged, row_tails, tails_column, row_enclosed, losses_hold, layer_holds, attachment_holds, shifts_hold}
use Rattle.steps.specs.Inputs.{up_to, largest_pool, report_pool, fine_pool, distance_for, screen_pool, screen_distance, tenths_for, tail_tenths, shift_tenths, working_assets, InRange}
use Rattle.steps.proofs.Inputs.Laws.{up_to_lem, range_uncorrelated, pool_works, report_range}
use Rattle.steps.specs.CorrelatedBinomial.{kept_defaults}
use Rattle.steps.specs.CorrelatedBinomial.Exponents.{PoolNumber, of_rows, of_steps}

-- ---- with the number of assets left open

module _ {most n p ρ : ℕ} (range : InRange most n p ρ) (few : FewAssets n) where
  -- The rows of the model are within their budgets, and their denominators are few places long.
  pool_within : WithinBudget (row_budget n) (defaults n p ρ) (λ j. probability p ρ j n) (λ side. kept_row side p ρ n)
  unfolding defaults chance share probability times integer over layer_budget tail_budget chance_budget row_budget triangle
  pool_within = record {
    complete = defaults_complete p ρ range.probability range.correlation n;
    entries = λ side j l. entry_bound side p ρ range.probability range.correlation l;
    counted = λ j l. omega arith;
    parts = omega (arith, few.parts, count_budget_most n);
    assets = few.assets;
  }

  pool_placed : WithinPlaces (14 * triangle n) (defaults n p ρ) (λ j. probability p ρ j n)
  unfolding defaults probability over certainty triangle
  pool_placed = record {
    at_most_one = λ j l. omega (arith, (probability_at_most_one p ρ range.probability range.correlation l).cross);
    denominators = λ j l. whole_digits (triangle n);
    denominator = whole_digits (triangle n);
    places = omega (arith, few.places);
  }

  pub pool_ranged : (side : Side) {x : Kept} → PoolNumber side n p ρ x → Ranged x
  unfolding defaults
  pool_ranged side (of_rows number) = rows_ranged side few range.probability range.correlation number
  pool_ranged side (of_steps number) = steps_ranged pool_within pool_placed side number

-- ---- for the pools of the calls

pub few_assets : {n : ℕ} → n ≤ working_assets → FewAssets n
unfolding row_budget precision working_assets triangle
few_assets few = let most = triangle_mono few in record { parts = omega arith; places = omega arith; assets = omega arith }

-- Where the budget of so many assets is one for a distance, that of every smaller pool is too.
budget_for : {most g k : ℕ} → BudgetFor g (pool_budget most) → k ≤ most → BudgetFor g (pool_budget k)
unfolding pool_budget defaults_budget layer_budget tail_budget chance_budget row_budget
budget_for most_fits few = budget_for_weaken (omega (arith, triangle_mono few, count_budget_mono few)) most_fits

-- The budgets at the limits, each for its distance.
limits : BudgetFor (distance_for fine_pool) (pool_budget fine_pool) × BudgetFor (distance_for largest_pool) (pool_budget largest_pool)
    × BudgetFor (screen_distance screen_pool) (pool_budget screen_pool)
unfolding up_to fine_pool largest_pool screen_pool distance_for screen_distance pool_budget defaults_budget layer_budget tail_budget chance_budget exact_assets count_budget row_budget precision triangle
limits = (record { positive = lit< tt; small = lit≤ tt }, record { positive = lit< tt; small = lit≤ tt }, record { positive = lit< tt; small = lit≤ tt })

pub pool_budgets : {n : ℕ} → n ≤ largest_pool → BudgetsFor distance_for n
unfolding up_to fine_pool largest_pool distance_for
pool_budgets few = record { budget = λ {k} l. up_to_lem (λ g. BudgetFor g (pool_budget k)) fine_pool k (budget_for limits.0) (λ _. budget_for limits.1 (le_trans l few)) }

pub screen_budgets : {n : ℕ} → n ≤ screen_pool → BudgetsFor screen_distance n
unfolding screen_distance
screen_budgets few = record { budget = λ l. budget_for limits.2 (le_trans l few) }

module _ {n p ρ : ℕ} where
  -- Every number that the steps make has an exponent from −80,000 to 100.
  pub exponents : InRange working_assets n p ρ → (side : Side) {x : Kept} → PoolNumber side n p ρ x → Ranged x
  exponents range = pool_ranged range (few_assets range.assets)

  module _ (range : InRange largest_pool n p ρ) where
    -- What the promises of its row rest on.
    pub within : WithinBudget (row_budget n) (defaults n p ρ) (λ j. probability p ρ j n) (λ side. kept_row side p ρ n)
    within = pool_within range (few_assets (le_trans range.assets pool_works))

    pub placed : WithinPlaces (14 * triangle n) (defaults n p ρ) (λ j. probability p ρ j n)
    placed = pool_placed range (few_assets (le_trans range.assets pool_works))

    module _ {g : ℕ → ℕ} (apart : BudgetsFor g n) where
      -- Both bounds of entry j of row k, with P(j,k) by its closed form.
      pub entries : {j k : ℕ} → j ≤ k → k ≤ n → Enclosed (g k) (kept_row Low p ρ k j) (kept_row High p ρ k j) (probability p ρ j k)
      unfolding pool_budget defaults_budget layer_budget tail_budget chance_budget
      entries l m =
          bound_enclosed (budget_for_weaken (omega arith) (apart.budget m)) (λ side. entry_bound side p ρ range.probability range.correlation l)

      -- Both bounds of every chance, tail and loss, and the exponents of all numbers.
      pub steps_hold : HoldsSteps (g n) (defaults n p ρ) (λ side. kept_defaults side n p ρ) (λ side. PoolNumber side n p ρ)
      unfolding defaults kept_defaults pool_budget defaults_budget
      steps_hold = record {
        enclosed = row_enclosed within (apart.budget (le_refl n));
        ranged = pool_ranged range (few_assets (le_trans range.assets pool_works));
      }

      -- What holds of the losses of tranches that are answered, of that of a layer, and of that of a search for an attachment.
      pub answers : {ts : List Tranche} {losses : List LossAnswer} → 0 < n → TranchesInRange ts → losses ≡ tranche_losses n (λ side. kept_defaults side n p ρ) ts
          → HoldsLosses (g n) p (defaults n p ρ) (λ side. kept_defaults side n p ρ) ts losses
      unfolding defaults kept_defaults pool_budget defaults_budget
      answers = losses_hold within (apart.budget (le_refl n)) (defaults_mean p ρ range.probability range.correlation n)

      pub layer_answers : (i j : ℕ) → j ≤ n → {loss : LossAnswer} → loss ≡ loss_of_layer n (λ side. kept_defaults side n p ρ) i j
          → HoldsLayer (g n) (defaults n p ρ) (λ side. kept_defaults side n p ρ) i j loss
      unfolding defaults kept_defaults pool_budget defaults_budget
      layer_answers = layer_holds within (apart.budget (le_refl n))

      pub attachment_answers : (R B target : ℕ) → B ≤ whole → 0 < n → {answer : AttachmentAnswer} → answer ≡ attachment_on n (λ side. kept_defaults side n p ρ) R B target
          → HoldsAttachment (g n) (defaults n p ρ) (λ side. kept_defaults side n p ρ) R B answer
      unfolding defaults kept_defaults pool_budget defaults_budget
      attachment_answers = attachment_holds within (apart.budget (le_refl n))

    -- The printed tails are at most half a unit above the exact ones and less than 0.8 units below them; above 64 assets less than 1.3.
    pub printed : PrintsTails half (tenths (tail_tenths n)) (defaults n p ρ) (printed_tail n (kept_defaults Low n p ρ))
    unfolding defaults kept_defaults tail_budget chance_budget row_budget fine_pool largest_pool triangle
    printed =
        row_tails within (λ few. omega (arith, triangle_mono few, count_budget_most n))
        (λ _. omega (arith, triangle_mono range.assets, count_budget_most n))

    -- The printed rows add to 100,000, none is below zero, and each is less than 1.5 units from the exact chance; above 64 assets less than 2.
    pub column : PrintsColumn (tenths (tenths_for n)) (defaults n p ρ) (printed_tail n (kept_defaults Low n p ρ)) (printed_row n (kept_defaults Low n p ρ))
    unfolding defaults
    column = tails_column (kept_defaults Low n p ρ) printed

-- A printed tail of a report is less than 0.8 units below the exact one.
report_tenths : {n p ρ : ℕ} → InRange report_pool n p ρ → tail_tenths n ≤ 8
unfolding tail_tenths fine_pool report_pool
report_tenths {n} range = up_to_lem (λ t. t ≤ 8) fine_pool n (λ _. lit≤ tt) (λ more. absurd (omega (arith, range.assets)))

-- The shifts of the printed tails against those of the same pool without correlation. The exact tails at 1 to n add to n × p at either correlation.
pub shifts : {n p ρ : ℕ} → InRange report_pool n p ρ → 0 < n → {shifts : List ℤ}
    → ((k : ℕ) → k ≤ n → get_or shifts k (pos 0) ≡ tail_shift n (kept_defaults Low n p ρ) (kept_defaults Low n p 0) k)
    → HoldsShifts (tenths shift_tenths) (defaults n p ρ) (defaults n p 0) (kept_defaults Low n p ρ) (kept_defaults Low n p 0) shifts
unfolding defaults plus half tenths shift_tenths
shifts {n} {p} {ρ} range some stand =
    let pool = report_range range in
    let base = range_uncorrelated pool in
    let total = defaults_tails_total p ρ range.probability range.correlation n in
    let base_total = defaults_tails_total p 0 base.probability base.correlation n in
    shifts_hold (printed pool) (printed base) refl (same_trans total (same_sym base_total)) some (record { cross = omega (arith, report_tenths range) }) stand
