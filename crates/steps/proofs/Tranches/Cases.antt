-- Three touching tranches with recovery 4000, of 3 assets with p = 1000 and ρ = 3000: what their losses carry, against the 600 basis points that the pool loses; and what
-- a shown, a faint and an untouched loss carry. The numbers were worked out in exact fractions by tools/steps_figures.py.
-- Assumes nothing.
use Rattle.std.specs.Prelude.{ℕ, zero, suc, ◌+◌, ◌*◌, ◌^◌, ◌<◌, ◌≡◌, refl, true, false, List, [], ◌∷◌, pos, negsuc}
use Rattle.std.proofs.Common.{arith, lit<}
use Rattle.std.proofs.Math.Decide.{dec_lt}
use Rattle.std.specs.Float.Ieee as Ieee
use Rattle.std.specs.Float.{nan, inf, fin}
use Rattle.model.specs.Number.{choose, raise}
use Rattle.model.specs.Fraction.{Same, integer, plus, times, divided, fraction_sum, whole, complement, over}
use Rattle.model.specs.Passes.{pass, passed}
use Rattle.model.specs.Chances.{loss_above, loss_units}
use Rattle.model.specs.Touching.{total_loss, pool_loss}
use Rattle.kept.specs.declared.Side.{Side}
use Rattle.kept.specs.declared.Side.TheVariants.{Low, High}
use Rattle.kept.specs.Rounding.{scaled, nought, unity, increment, carry, round, rounded_product, rounded_sum, rounded_quotient, of_integer, of_basis_points}
use Rattle.kept.specs.Binary64.{least_shown, below_shown, to_binary64, exact_value}
use Rattle.steps.specs.declared.Tranche.{Tranche}
use Rattle.steps.specs.CorrelatedBinomial.Rows.{constant, kept_conditional, kept_joint, kept_power, kept_weight, kept_pass_step, kept_row}
use Rattle.steps.specs.CorrelatedBinomial.{kept_defaults}
use Rattle.steps.specs.Inputs.{up_to}
use Rattle.steps.specs.Counts.{exact_assets, kept_count}
use Rattle.steps.specs.Chances.{kept_total, kept_chance, kept_chances, kept_term, kept_loss}
use Rattle.steps.specs.Loss.{LossAnswer, untouched, faint, shown, loss_answer, carried}
use Rattle.steps.specs.Tranches.{tranche_places, recoveries, lowers, uppers, TranchesTouch, tranche_loss, tranche_losses, carried_total}
use Rattle.steps.proofs.Cases.{figure}

abbrev tranche : (A B : ℕ) → Tranche
tranche A B = record { recovery = 4000; lower = A; upper = B }

abbrev pub three : List Tranche
three = tranche 0 1000 ∷ tranche 1000 3000 ∷ tranche 3000 10000 ∷ []

next_meets : (i : ℕ) → suc i < 3 → lowers three (suc i) ≡ uppers three i
next_meets zero l = refl
next_meets (suc zero) l = refl
next_meets (suc (suc i)) l = absurd (omega arith)

all_alike : (i : ℕ) → i < 3 → recoveries three i ≡ 4000
all_alike zero l = refl
all_alike (suc zero) l = refl
all_alike (suc (suc zero)) l = refl
all_alike (suc (suc (suc i))) l = absurd (omega arith)

pub touch : TranchesTouch three
unfolding whole
touch = record { some = lit< tt; first = refl; next = next_meets; last = refl; one_recovery = all_alike }

-- What losses at the three places carry on a side and add to: s × 2^−(n+1).
abbrev three_total : Side → List LossAnswer → (s n : ℕ) → Type 0
three_total side losses s n = Same (carried_total side three losses) (scaled s (negsuc n))

abbrev answered : List LossAnswer
answered = tranche_losses 3 (λ side. kept_defaults side 3 1000 3000) three

-- One half to one, at most 2^−770, and nothing.
abbrev mixed : List LossAnswer
mixed = shown (to_binary64 (figure 2147483648 31)) (to_binary64 (figure 2147483648 30)) ∷ faint (to_binary64 (figure 2147483648 800)) ∷ untouched ∷ []

pub cases :
    Same (pool_loss 1000 4000) (integer 600)
    × three_total Low answered 10307921488625 33
    × three_total High answered 2576980383625 31
    × three_total Low mixed 1000 0
    × three_total High mixed (1000 * 2 ^ 770 + 2000) 769
    -- What no answer carries: an f64 that is below zero, or not finite.
    × (exact_value (fin true 1 (pos 0)) ≡ integer 0)
    × (exact_value (inf false) ≡ integer 0)
    × (exact_value nan ≡ integer 0)
unfolding scaled nought unity increment carry round rounded_product rounded_sum rounded_quotient of_integer of_basis_points Ieee.size choose raise integer plus times divided fraction_sum whole complement over pass passed loss_above loss_units constant kept_conditional kept_joint kept_power kept_weight kept_pass_step kept_row kept_total up_to exact_assets kept_count kept_chance kept_chances kept_term kept_loss kept_defaults least_shown below_shown loss_answer to_binary64 exact_value Ieee.round Ieee.units Ieee.odd tranche_places tranche_loss tranche_losses carried carried_total total_loss pool_loss dec_lt
cases = (record { cross = refl }, record { cross = refl }, record { cross = refl }, record { cross = refl }, record { cross = refl }, refl, refl, refl)
