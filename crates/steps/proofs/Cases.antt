-- Pools of 3 assets and of 2 by the steps, with layers, digit for digit; for p = 1000 and ρ = 3000 the column that the scope paper prints, and the shift list; verdicts on claims.
-- The digits were worked out in exact fractions by tools/steps_figures.py.
-- Assumes nothing.
use Rattle.std.specs.Prelude.{ℕ, ◌-◌, ◌*◌, ◌≤◌, ◌<◌, ◌≡◌, refl, List, [], ◌∷◌, ℤ, pos, negsuc}
use Rattle.std.proofs.Common.{arith, lit<}
use Rattle.std.specs.Float.Ieee.{size}
use Rattle.model.specs.Number.{choose, pascal_row, raise}
use Rattle.model.specs.Fraction.{at_most, integer, plus, minus, times, divided, whole, complement, over}
use Rattle.model.specs.Passes.{pass, passed}
use Rattle.model.specs.Chances.{loss_above, loss_units}
use Rattle.kept.specs.declared.Kept.{Kept}
use Rattle.kept.specs.declared.Side.{Side}
use Rattle.kept.specs.declared.Side.TheVariants.{Low, High}
use Rattle.kept.specs.Rounding.{scaled, nought, unity, increment, carry, round, rounded_product, rounded_sum, rounded_quotient, of_integer, of_basis_points}
use Rattle.kept.specs.Whole.{whole_of}
use Rattle.kept.specs.Binary64.{least_shown, below_shown, to_binary64}
use Rattle.steps.specs.CorrelatedBinomial.Rows.{constant, kept_conditional, kept_joint, kept_power, kept_weight, kept_pass_step, kept_row}
use Rattle.steps.specs.Inputs.{up_to}
use Rattle.steps.proofs.Inputs.Laws.{up_to_lem}
use Rattle.steps.specs.Counts.{exact_assets, summed_count, kept_count}
use Rattle.steps.specs.Chances.{kept_total, kept_chance, kept_chances, kept_tail, kept_term, kept_loss, kept_layer}
use Rattle.steps.specs.Column.{units_of_certainty, exact_units, half, to_nearest, in_units, printed_tail, printed_row}
use Rattle.steps.specs.Shifts.{tail_shift}
use Rattle.steps.specs.CorrelatedBinomial.{kept_defaults}
use Rattle.steps.specs.Loss.{untouched, faint, shown, kept_least_shown, raised_to_shown, loss_answer}
use Rattle.steps.specs.Claims.{passes, first_to_fail, refusal_in, verdict_on, verdict_after, VerdictAnswer, refused_by, all_pass, fails_at}
pub mod Rules

-- s × 2^−(n+1)
abbrev pub figure : (s n : ℕ) → Kept
figure s n = record { significand = s; exponent = negsuc n }

-- The significands of the low and the high side, at one exponent.
abbrev pub Digits : (Side → Kept) → (low high n : ℕ) → Type 0
Digits x low high n = (x Low ≡ figure low n) × (x High ≡ figure high n)

-- The tail at k of n assets, what is printed for it, and the printed row.
abbrev tail_of : (n p ρ k : ℕ) → (side : Side) → Kept
tail_of n p ρ k side = kept_tail side n (kept_defaults side n p ρ) k

abbrev printed_of : (n p ρ k : ℕ) → ℕ
printed_of n p ρ k = printed_tail n (kept_defaults Low n p ρ) k

abbrev row_of : (n p ρ k : ℕ) → ℕ
row_of n p ρ k = printed_row n (kept_defaults Low n p ρ) k

-- The layer from the i-th to the j-th default.
abbrev layer_of : (n p ρ i j : ℕ) → (side : Side) → Kept
layer_of n p ρ i j side = kept_layer side n (kept_defaults side n p ρ) i j

-- Of three assets with p = 1000 and ρ = 3000: a tranche with recovery 4000, and the printed tail at k less that without correlation.
abbrev three_loss : (A B : ℕ) → 0 < (B - A) * 3 → (side : Side) → Kept
three_loss A B wide side = kept_loss side 3 (kept_defaults side 3 1000 3000) 4000 A B wide

abbrev three_shift : ℕ → ℤ
three_shift k = tail_shift 3 (kept_defaults Low 3 1000 3000) (kept_defaults Low 3 1000 0) k

-- The verdict on claimed rows.
abbrev verdict_for : (n p ρ : ℕ) → List ℕ → VerdictAnswer
verdict_for n p ρ = verdict_on n (λ side. kept_defaults side n p ρ)

pub cases :
    Digits (λ side. kept_row side 1000 3000 1 0) 3865470566 3865470567 31
    × Digits (λ side. kept_row side 1000 3000 1 1) 3435973836 3435973837 34
    × Digits (λ side. kept_row side 1000 3000 2 0) 3594887625 3594887628 31
    × Digits (λ side. kept_row side 1000 3000 2 1) 2164663516 2164663519 34
    × Digits (λ side. kept_row side 1000 3000 2 2) 2542620637 2542620641 35
    × Digits (λ side. kept_row side 1000 3000 3 0) 3394385664 3394385672 31
    × Digits (λ side. kept_row side 1000 3000 3 1) 3208031329 3208031338 35
    × Digits (λ side. kept_row side 1000 3000 3 2) 2242591400 2242591408 36
    × Digits (λ side. kept_row side 1000 3000 3 3) 2842649870 2842649879 36
    × Digits (λ side. kept_defaults side 3 1000 3000 0) 3394385664 3394385672 31
    × Digits (λ side. kept_defaults side 3 1000 3000 1) 2406023496 2406023504 33
    × Digits (λ side. kept_defaults side 3 1000 3000 2) 3363887100 3363887112 35
    × Digits (λ side. kept_defaults side 3 1000 3000 3) 2842649870 2842649879 36
    × Digits (tail_of 3 1000 3000 1) 3602326504 3602326517 33
    × Digits (tail_of 3 1000 3000 2) 2392606017 2392606026 34
    × Digits (tail_of 3 1000 3000 3) 2842649870 2842649879 36
    × Digits (three_loss 1000 3000 (lit< tt)) 2399314755 2399314766 33
    × (row_of 3 1000 3000 0 ≡ 79032)
    × (row_of 3 1000 3000 1 ≡ 14005)
    × (row_of 3 1000 3000 2 ≡ 4895)
    × (row_of 3 1000 3000 3 ≡ 2068)
    × (printed_of 3 1000 3000 0 ≡ 100000)
    × (printed_of 3 1000 3000 1 ≡ 20968)
    × (printed_of 3 1000 3000 2 ≡ 6963)
    × (printed_of 3 1000 3000 3 ≡ 2068)
    × (three_shift 0 ≡ pos 0)
    × (three_shift 1 ≡ negsuc 6131)
    × (three_shift 2 ≡ pos 4163)
    × (three_shift 3 ≡ pos 1968)
    × Digits (layer_of 3 1000 3000 1 3) 3435973829 3435973844 34
    × Digits (layer_of 3 1000 3000 2 3) 3103268484 3103268496 35
    × Digits (layer_of 3 1000 3000 3 3) 2842649870 2842649879 36
    -- Here the order of the sums shows in the last digit.
    × Digits (tail_of 3 500 500 1) 2337669897 2337669905 33
    × Digits (layer_of 3 500 500 1 3) 3435973830 3435973846 35
    -- A tranche that defaults reach, one that none reaches, and a high bound of 2^−870 with a low bound of zero.
    × (loss_answer (three_loss 1000 3000 (lit< tt) Low) (three_loss 1000 3000 (lit< tt) High) ≡ shown (to_binary64 (figure 2399314755 33)) (to_binary64 (figure 2399314766 33)))
    × (loss_answer (three_loss 6000 10000 (lit< tt) Low) (three_loss 6000 10000 (lit< tt) High) ≡ untouched)
    × (loss_answer nought (figure 2147483648 900) ≡ faint (to_binary64 kept_least_shown))
    -- The same with a high bound of 2^−770.
    × (loss_answer nought (figure 2147483648 800) ≡ faint (to_binary64 (figure 2147483648 800)))
    -- Here one quotient by the width shows in the last digit: by B − A and then by n it would be another.
    × Digits (three_loss 0 7000 (lit< tt)) 2945120426 2945120438 34
    -- A tail of 17/64, 26,562.5 units, on both sides; one of 2.5 units, with less on the low side; one of 69.53 units.
    × Digits (tail_of 2 5000 625 2) 2281701376 2281701376 32
    × (printed_of 2 5000 625 2 ≡ 26563)
    × (printed_of 2 50 0 2 ≡ 2)
    × (printed_of 3 500 500 3 ≡ 70)
    -- A row of 1,253.91 units, the difference of its tails.
    × (row_of 3 500 500 2 ≡ 1253)
    -- The row 1, 4, 6, 4, 1 by sums.
    × Digits (λ side. summed_count side 4 0) 2147483648 2147483648 30
    × Digits (λ side. summed_count side 4 1) 2147483648 2147483648 28
    × Digits (λ side. summed_count side 4 2) 3221225472 3221225472 28
    × Digits (λ side. summed_count side 4 3) 2147483648 2147483648 28
    × Digits (λ side. summed_count side 4 4) 2147483648 2147483648 30
    -- Zero is 0 and 0, and one is 2^31 and −31: the entries of row 1 where no asset defaults.
    × (kept_row Low 0 3000 1 1 ≡ record { significand = 0; exponent = pos 0 })
    × (kept_row High 0 3000 1 1 ≡ record { significand = 0; exponent = pos 0 })
    × Digits (λ side. kept_row side 0 3000 1 0) 2147483648 2147483648 30
    -- Chances of 17/64, 26,562.5 units, and of 46,875: claims half a unit off, above and below; one and a half off; one off, above and below. With three rows wrong the first is named.
    × (verdict_for 2 5000 625 (26562 ∷ 46875 ∷ 26563 ∷ []) ≡ all_pass)
    × (verdict_for 2 5000 625 (26563 ∷ 46875 ∷ 26562 ∷ []) ≡ all_pass)
    × (verdict_for 2 5000 625 (26562 ∷ 46875 ∷ 26564 ∷ []) ≡ fails_at 2)
    × (verdict_for 2 5000 625 (26562 ∷ 46876 ∷ 26562 ∷ []) ≡ fails_at 1)
    × (verdict_for 2 5000 625 (26562 ∷ 46874 ∷ 26562 ∷ []) ≡ fails_at 1)
    × (verdict_for 2 5000 625 (26561 ∷ 46876 ∷ 26561 ∷ []) ≡ fails_at 0)
    -- The column that is printed, where it passes and where it fails; the chances of the second rounded to nearest, with one number too many.
    × (verdict_for 3 1000 3000 (79032 ∷ 14005 ∷ 4895 ∷ 2068 ∷ []) ≡ all_pass)
    × (verdict_for 3 500 500 (86393 ∷ 12284 ∷ 1253 ∷ 70 ∷ []) ≡ fails_at 2)
    × (verdict_for 3 500 500 (86393 ∷ 12284 ∷ 1254 ∷ 70 ∷ 4294967295 ∷ []) ≡ all_pass)
    -- A refusal has its number.
    × (verdict_after 3 (λ side. kept_defaults side 3 500 500) [] 8 ≡ refused_by 8)
    × (refusal_in (refused_by 8) ≡ 8)
unfolding scaled nought unity increment carry round rounded_product rounded_sum rounded_quotient of_integer of_basis_points size choose raise integer plus times divided whole complement over pascal_row pass passed loss_above loss_units constant kept_conditional kept_joint kept_power kept_weight kept_pass_step kept_row kept_total up_to exact_assets summed_count kept_count kept_chance kept_chances kept_tail kept_term kept_loss kept_layer units_of_certainty exact_units half whole_of to_nearest in_units printed_tail printed_row tail_shift kept_defaults least_shown below_shown kept_least_shown raised_to_shown loss_answer minus at_most passes first_to_fail refusal_in verdict_on verdict_after
cases = (
  (refl, refl),
  (refl, refl),
  (refl, refl),
  (refl, refl),
  (refl, refl),
  (refl, refl),
  (refl, refl),
  (refl, refl),
  (refl, refl),
  (refl, refl),
  (refl, refl),
  (refl, refl),
  (refl, refl),
  (refl, refl),
  (refl, refl),
  (refl, refl),
  (refl, refl),
  refl,
  refl,
  refl,
  refl,
  refl,
  refl,
  refl,
  refl,
  refl,
  refl,
  refl,
  refl,
  (refl, refl),
  (refl, refl),
  (refl, refl),
  (refl, refl),
  (refl, refl),
  refl,
  refl,
  refl,
  refl,
  (refl, refl),
  (refl, refl),
  refl,
  refl,
  refl,
  refl,
  (refl, refl),
  (refl, refl),
  (refl, refl),
  (refl, refl),
  (refl, refl),
  refl,
  refl,
  (refl, refl),
  refl,
  refl,
  refl,
  refl,
  refl,
  refl,
  refl,
  refl,
  refl,
  refl,
  refl,
)

-- Up to 64 assets a count is worked out exactly and rounded, above 64 it is made by sums. At 63, 64 and 65 the two differ in bits for j from 9 to n − 9.
pub count_rules : (side : Side) (n j : ℕ) → (n ≤ 64 → kept_count side n j ≡ of_integer side (choose n j)) × (64 < n → kept_count side n j ≡ summed_count side n j)
unfolding kept_count exact_assets
count_rules side n j = (
  λ few. up_to_lem (λ x. x ≡ of_integer side (choose n j)) exact_assets n (λ _. refl) (λ more. absurd (omega arith)),
  λ more. up_to_lem (λ x. x ≡ summed_count side n j) exact_assets n (λ few. absurd (omega arith)) (λ _. refl),
)
