-- The pool of 3 assets with p = 1000 and ρ = 3000 by the beta-binomial model, digit for digit: its entries, a chance, a tail, a tranche loss, and its column. The digits
-- were worked out in exact fractions by tools/steps_figures.py.
-- Assumes nothing.
use Rattle.std.specs.Prelude.{ℕ, ◌-◌, ◌*◌, ◌<◌, ◌≡◌, refl}
use Rattle.std.proofs.Common.{lit<}
use Rattle.std.specs.Float.Ieee.{size}
use Rattle.model.specs.Number.{choose, raise}
use Rattle.model.specs.Fraction.{integer, plus, minus, times, divided, whole, complement}
use Rattle.model.specs.Chances.{loss_above, loss_units}
use Rattle.model.specs.BetaBinomial.{quotient_numerator, quotient_denominator}
use Rattle.kept.specs.declared.Kept.{Kept}
use Rattle.kept.specs.declared.Side.{Side}
use Rattle.kept.specs.declared.Side.TheVariants.{Low}
use Rattle.kept.specs.Rounding.{scaled, nought, unity, increment, carry, round, rounded_product, rounded_sum, rounded_quotient, of_integer, of_ratio}
use Rattle.kept.specs.Whole.{whole_of}
use Rattle.steps.specs.Inputs.{up_to}
use Rattle.steps.specs.Counts.{exact_assets, kept_count}
use Rattle.steps.specs.Chances.{kept_total, kept_chance, kept_chances, kept_tail, kept_term, kept_loss}
use Rattle.steps.specs.Column.{units_of_certainty, exact_units, half, to_nearest, in_units, printed_tail, printed_row}
use Rattle.steps.proofs.Cases.{Digits}
use Rattle.steps.specs.BetaBinomial.{kept_product, kept_quotient, kept_entry, kept_beta_defaults}

abbrev beta_tail : ℕ → (side : Side) → Kept
beta_tail k side = kept_tail side 3 (kept_beta_defaults side 3 1000 3000) k

abbrev beta_row : ℕ → ℕ
beta_row k = printed_row 3 (kept_beta_defaults Low 3 1000 3000) k

-- With recovery 4000.
abbrev beta_loss : (A B : ℕ) → 0 < (B - A) * 3 → (side : Side) → Kept
beta_loss A B wide side = kept_loss side 3 (kept_beta_defaults side 3 1000 3000) 4000 A B wide

pub cases :
    -- The order of the products shows in the last digit of entries 0, 2 and 3.
    Digits (λ side. kept_entry side 3 1000 3000 0) 3401316753 3401316757 31
    × Digits (λ side. kept_entry side 3 1000 3000 1) 3097133953 3097133958 35
    × Digits (λ side. kept_entry side 3 1000 3000 2) 2464386156 2464386161 36
    × Digits (λ side. kept_entry side 3 1000 3000 3) 2620855118 2620855123 36
    × Digits (λ side. kept_beta_defaults side 3 1000 3000 1) 2322850464 2322850469 33
    × Digits (beta_tail 1) 3574602162 3574602170 33
    × Digits (beta_loss 1000 3000 (lit< tt)) 2413176928 2413176936 33
    × (beta_row 0 ≡ 79193)
    × (beta_row 1 ≡ 13521)
    × (beta_row 2 ≡ 5379)
    × (beta_row 3 ≡ 1907)
unfolding scaled nought unity increment carry round rounded_product rounded_sum rounded_quotient of_integer of_ratio size choose raise integer plus minus times divided whole complement loss_above loss_units quotient_numerator quotient_denominator kept_product kept_quotient kept_entry kept_beta_defaults kept_total up_to exact_assets kept_count kept_chance kept_chances kept_tail kept_term kept_loss units_of_certainty exact_units half whole_of to_nearest in_units printed_tail printed_row
cases = ((refl, refl), (refl, refl), (refl, refl), (refl, refl), (refl, refl), (refl, refl), (refl, refl), refl, refl, refl, refl)
