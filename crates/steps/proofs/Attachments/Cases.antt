-- Searches for an attachment in figures: two assets with p = 5000 and ρ = 0, whose losses are exact, and one asset with p = 1000, whose bounds lie on either side of a tenth. The
-- numbers were worked out in exact fractions by tools/steps_figures.py.
-- Assumes nothing.
use Rattle.std.specs.Prelude.{ℕ, zero, suc, ◌≡◌, refl, true, false, cond}
use Rattle.std.proofs.Math.Decide.{dec_lt}
use Rattle.std.specs.Float.Ieee as Ieee
use Rattle.model.specs.Number.{choose, raise}
use Rattle.model.specs.Fraction.{integer, plus, times, divided, at_most, whole, complement, over}
use Rattle.model.specs.Passes.{pass, passed}
use Rattle.model.specs.Chances.{loss_above, loss_units}
use Rattle.kept.specs.Rounding.{scaled, nought, unity, increment, carry, round, rounded_product, rounded_sum, rounded_quotient, of_integer, of_basis_points}
use Rattle.kept.specs.Binary64.{least_shown, below_shown, to_binary64, exact_value}
use Rattle.steps.specs.First.{first_from}
use Rattle.steps.specs.CorrelatedBinomial.Rows.{constant, kept_conditional, kept_joint, kept_power, kept_weight, kept_pass_step, kept_row}
use Rattle.steps.specs.CorrelatedBinomial.{kept_defaults}
use Rattle.steps.specs.Inputs.{up_to}
use Rattle.steps.specs.Counts.{exact_assets, kept_count}
use Rattle.steps.specs.Chances.{kept_total, kept_chance, kept_chances, kept_term, kept_loss}
use Rattle.steps.specs.Loss.{LossAnswer, untouched, faint, shown, kept_least_shown, raised_to_shown, loss_answer, carried}
use Rattle.steps.specs.Tranches.{tranche_loss}
use Rattle.steps.specs.Attachments.{AttachmentAnswer, refused, lowest, refusal_number, meets_target, attachment_on, attachment_after}
use Rattle.steps.proofs.Cases.{figure}

-- So many assets without correlation.
abbrev found : (n p R B target : ℕ) → AttachmentAnswer
found n p R B target = attachment_on n (λ side. kept_defaults side n p 0) R B target

-- s × 2^−(low + 1) and t × 2^−(high + 1), as bounds.
abbrev between : (s low t high : ℕ) → LossAnswer
between s low t high = shown (to_binary64 (figure s low)) (to_binary64 (figure t high))

abbrev half : LossAnswer
half = between 2147483648 31 2147483648 31

abbrev quarter : LossAnswer
quarter = between 2147483648 32 2147483648 32

-- The recursion, for every test.
pub first_rule : {A : Type 0} (made : ℕ → A) (none : A) (many k : ℕ) → (first_from (λ _. true) made none (suc many) k ≡ made k) × (first_from (λ _. true) made none 0 k ≡ none)
    × (first_from (λ _. false) made none (suc many) k ≡ first_from (λ _. false) made none many (suc k))
unfolding first_from
first_rule made none many k = (refl, refl, refl)

pub cases :
    -- The losses from 0 and from 1 are 1/2 and 1/4. A bound that is exactly the target meets it.
    (found 2 5000 9998 2 10000 ≡ lowest 0 half)
    × (found 2 5000 9998 2 5000 ≡ lowest 0 half)
    × (found 2 5000 9998 2 4999 ≡ lowest 1 quarter)
    × (found 2 5000 9998 2 2500 ≡ lowest 1 quarter)
    × (found 2 5000 9998 2 2499 ≡ refused 20)
    -- From 0 it is 1/4, and from 1 on nothing is lost. B itself is not tried.
    × (found 2 5000 9999 2 0 ≡ lowest 1 untouched)
    × (found 2 5000 9999 2 2499 ≡ lowest 1 untouched)
    × (found 2 5000 9999 3 0 ≡ lowest 1 untouched)
    × (found 2 5000 9999 1 0 ≡ refused 20)
    × (found 2 0 0 1 0 ≡ lowest 0 untouched)
    -- The exact loss is 1/10; the low bound is below it, and the high one above.
    × (found 1 1000 0 1 1000 ≡ refused 20)
    × (found 1 1000 0 1 1001 ≡ lowest 0 (between 3435973836 34 3435973837 34))
    -- A faint loss counts by its number, which no target but 0 is below.
    × (meets_target 0 (loss_answer nought (figure 2147483648 900)) ≡ false)
    × (meets_target 1 (loss_answer nought (figure 2147483648 900)) ≡ true)
    × (meets_target 0 (loss_answer nought (figure 2147483648 800)) ≡ false)
    × (meets_target 1 (loss_answer nought (figure 2147483648 800)) ≡ true)
    × (meets_target 0 untouched ≡ true)
    -- A refusal has its number, and an answer has none.
    × (attachment_after 2 (λ side. kept_defaults side 2 5000 0) 9998 2 5000 6 ≡ refused 6)
    × (attachment_after 2 (λ side. kept_defaults side 2 5000 0) 9998 2 5000 0 ≡ lowest 0 half)
    × (refusal_number (refused 6) ≡ 6)
    × (refusal_number (lowest 7 untouched) ≡ 0)
unfolding scaled nought unity increment carry round rounded_product rounded_sum rounded_quotient of_integer of_basis_points Ieee.size choose raise integer plus times divided at_most whole complement over pass passed loss_above loss_units constant kept_conditional kept_joint kept_power kept_weight kept_pass_step kept_row kept_total up_to exact_assets kept_count kept_chance kept_chances kept_term kept_loss kept_defaults least_shown below_shown kept_least_shown raised_to_shown loss_answer to_binary64 exact_value Ieee.round Ieee.units Ieee.odd tranche_loss carried dec_lt first_from refusal_number meets_target attachment_on attachment_after
cases = (refl, refl, refl, refl, refl, refl, refl, refl, refl, refl, refl, refl, refl, refl, refl, refl, refl, refl, refl, refl, refl)
