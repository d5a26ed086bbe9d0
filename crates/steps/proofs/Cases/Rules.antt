-- The rule of each step, for all inputs; and the numbers whose exponents are held to their range, among which every number of the steps is.
-- Assumes nothing.
use Rattle.std.specs.Prelude.{ℕ, suc, ◌+◌, ◌-◌, ◌*◌, ◌≤◌, ◌<◌, ◌≡◌}
use Rattle.std.proofs.Math.Path.{refl}
use Rattle.std.proofs.Common.{arith, le_refl, lt-ltb, le-ltb}
use Rattle.model.specs.Number.{pascal_row}
use Rattle.model.specs.Number.Laws.{pascal_inside, pascal_past}
use Rattle.model.specs.Fraction.{whole, complement}
use Rattle.model.specs.Passes.{passed}
use Rattle.model.specs.Chances.{loss_units, layer_wide}
use Rattle.model.specs.BetaBinomial.{quotient_numerator, quotient_denominator}
use Rattle.kept.specs.declared.Kept.{Kept}
use Rattle.kept.specs.declared.Side.{Side}
use Rattle.kept.specs.Rounding.{nought, unity, rounded_product, rounded_sum, rounded_quotient, of_integer, of_basis_points, of_ratio}
use Rattle.steps.specs.CorrelatedBinomial.Rows.{constant, kept_conditional, kept_joint, kept_power, kept_weight, kept_pass_step, kept_row}
use Rattle.steps.specs.CorrelatedBinomial.Exponents.{PoolNumber, is_p, is_a, is_ρ, is_q, is_conditional_product, is_conditional, is_joint, is_power, is_weight, is_passed, is_pass_product, is_entry, of_rows, of_steps}
use Rattle.steps.specs.BetaBinomial.{kept_product, kept_quotient, kept_entry, BetaNumber, is_quotient, is_product, of_steps as of_beta}
use Rattle.steps.specs.Counts.{exact_assets, summed_count, kept_count, is_count, is_summed}
use Rattle.steps.specs.Chances.{kept_total, kept_chance, kept_chances, kept_tail, kept_term, kept_loss, kept_layer}
use Rattle.steps.specs.Numbers.{StepNumber, of_counts, is_chance, is_tail, is_units, is_term, is_total, is_loss, is_sum, is_layer, of_chances, of_tails, of_losses, of_layers}

-- ---- the rule of each step, for all inputs, on either side

module _ (side : Side) where
  pub row_rules : (p ρ k j : ℕ)
      → (kept_conditional side p ρ 0 ≡ of_basis_points side p)
      × (kept_conditional side p ρ (suc k) ≡ rounded_sum side (rounded_product side (kept_conditional side p ρ k) (of_basis_points side (10000 - ρ))) (of_basis_points side ρ))
      × (kept_joint side p ρ 0 ≡ kept_conditional side p ρ 0)
      × (kept_joint side p ρ (suc k) ≡ rounded_product side (kept_joint side p ρ k) (kept_conditional side p ρ (suc k)))
      × (kept_power side ρ 0 ≡ unity)
      × (kept_power side ρ (suc j) ≡ rounded_product side (kept_power side ρ j) (of_basis_points side (10000 - ρ)))
      × (kept_weight side p ρ j ≡ rounded_product side (of_basis_points side (10000 - p)) (kept_power side ρ j))
  unfolding constant kept_conditional kept_joint kept_power kept_weight complement whole
  row_rules p ρ k j = (refl, refl, refl, refl, refl, refl, refl)

  -- `passed` is that of the exact model.
  pub entry_rules : (p ρ k j : ℕ)
      → (kept_row side p ρ 0 j ≡ unity)
      × (j ≤ k
      → kept_row side p ρ (suc k) j ≡ rounded_product side (passed (λ x y. rounded_sum side x (rounded_product side (of_basis_points side ρ) y)) (suc k) k (kept_row side p ρ k) j) (kept_weight side p ρ j))
      × (kept_row side p ρ (suc k) (suc k) ≡ kept_joint side p ρ k)
  unfolding kept_row constant kept_pass_step
  entry_rules p ρ k j = (refl, λ l. rw (lt-ltb j (suc k) (omega arith)) refl, rw (le-ltb (suc k) (suc k) (omega arith)) refl)

  pub beta_rules : (n p ρ j t k : ℕ) (f : ℕ → Kept)
      → (kept_product side f 0 ≡ unity)
      × (kept_product side f (suc k) ≡ rounded_product side (kept_product side f k) (f k))
      × (kept_quotient side p ρ j t ≡ of_ratio side (quotient_numerator p ρ j t) (quotient_denominator ρ t))
      × (kept_entry side n p ρ j ≡ kept_product side (kept_quotient side p ρ j) n)
  unfolding kept_product kept_quotient kept_entry
  beta_rules n p ρ j t k f = (refl, refl, refl, refl)

  -- A count by sums: ones at both ends of a row, and inside the sum of two counts of the row before.
  pub count_sums : (k j : ℕ)
      → (summed_count side k 0 ≡ unity)
      × (summed_count side k k ≡ unity)
      × (j < k → summed_count side (suc k) (suc j) ≡ rounded_sum side (summed_count side k j) (summed_count side k (suc j)))
  unfolding summed_count pascal_row
  count_sums k j = (refl, pascal_past unity (rounded_sum side) k k (le_refl k), pascal_inside unity (rounded_sum side) k j)

  pub chance_rules : (n : ℕ) (c : ℕ → Kept) (R A B i j X k : ℕ) (x : Kept) (wide : 0 < (B - A) * n)
      → (kept_chance side n j x ≡ rounded_product side (kept_count side n j) x)
      × (kept_total side c 0 ≡ nought)
      × (kept_total side c (suc k) ≡ rounded_sum side (kept_total side c k) (c k))
      × (kept_tail side n c k ≡ kept_total side (λ i. c (n - i)) (suc n - k))
      × (kept_term side n c R A B X ≡ rounded_product side (c X) (of_integer side (loss_units n R A B X)))
      × (kept_loss side n c R A B wide ≡ rounded_quotient side (kept_total side (kept_term side n c R A B) (suc n)) ((B - A) * n) wide)
      × (kept_layer side n c i j ≡ rounded_quotient side (kept_total side (λ t. kept_tail side n c (i + t)) (j - i + 1)) (j - i + 1) (layer_wide i j))
  unfolding kept_chance kept_total kept_tail kept_term kept_loss kept_layer
  chance_rules n c R A B i j X k x wide = (refl, refl, refl, refl, refl, refl, refl)

-- ---- the numbers whose exponents are held to their range: every number of the steps is among them

module _ (side : Side) (n p ρ : ℕ) where
  pub row_numbers : (k j s : ℕ) → k ≤ n → j ≤ k → let Made = PoolNumber side n p ρ in
      Made (of_basis_points side p)
      × Made (of_basis_points side (10000 - p))
      × Made (of_basis_points side ρ)
      × Made (of_basis_points side (10000 - ρ))
      × Made (rounded_product side (kept_conditional side p ρ k) (of_basis_points side (10000 - ρ)))
      × Made (kept_conditional side p ρ k)
      × Made (kept_joint side p ρ k)
      × Made (kept_power side ρ k)
      × Made (kept_weight side p ρ k)
      × Made (passed (kept_pass_step side (of_basis_points side ρ)) (suc k) s (kept_row side p ρ k) j)
      × Made (rounded_product side (of_basis_points side ρ) (passed (kept_pass_step side (of_basis_points side ρ)) (suc k) s (kept_row side p ρ k) j))
      × Made (kept_row side p ρ k j)
      × ((x : Kept) → StepNumber side n (kept_row side p ρ n) x → Made x)
  unfolding constant complement whole
  row_numbers k j s few low = (
    of_rows is_p,
    of_rows is_a,
    of_rows is_ρ,
    of_rows is_q,
    of_rows (is_conditional_product k few),
    of_rows (is_conditional k few),
    of_rows (is_joint k few),
    of_rows (is_power k few),
    of_rows (is_weight k few),
    of_rows (is_passed k s j few low),
    of_rows (is_pass_product k s j few low),
    of_rows (is_entry k j few low),
    (λ x number. of_steps number),
  )

  -- By the beta-binomial.
  pub beta_numbers : (j t k : ℕ) → j ≤ n → t < n → k ≤ n → let Made = BetaNumber side n p ρ in
      Made (kept_quotient side p ρ j t)
      × Made (kept_product side (kept_quotient side p ρ j) k)
      × ((x : Kept) → StepNumber side n (kept_entry side n p ρ) x → Made x)
  beta_numbers j t k low early few = (is_quotient j t low early, is_product j k low few, (λ x number. of_beta number))

-- Of a row of entries in general.
module _ (side : Side) (n : ℕ) (entry : ℕ → Kept) where
  abbrev step_chances : ℕ → Kept
  step_chances = kept_chances side n entry

  pub step_numbers : (k j m R A B i t : ℕ) → k ≤ n → j ≤ k → m ≤ suc n → B ≤ 10000 → t ≤ k - i + 1 → (wide : 0 < (B - A) * n) → let Made = StepNumber side n entry in
      Made (kept_count side n k)
      × (64 < n → Made (summed_count side k j))
      × Made (kept_chance side n k (entry k))
      × Made (kept_total side (λ i. step_chances (n - i)) m)
      × Made (of_integer side (loss_units n R A B k))
      × Made (kept_term side n step_chances R A B k)
      × Made (kept_total side (kept_term side n step_chances R A B) m)
      × Made (kept_loss side n step_chances R A B wide)
      × Made (kept_total side (λ t. kept_tail side n step_chances (i + t)) t)
      × Made (kept_layer side n step_chances i k)
  unfolding exact_assets whole
  step_numbers k j m R A B i t few low most upper within wide = (
    of_chances (of_counts (is_count k few)),
    (λ more. of_chances (of_counts (is_summed more k j few low))),
    of_chances (is_chance k few),
    of_tails (is_tail m most),
    of_losses R A B upper (is_units k few),
    of_losses R A B upper (is_term k few),
    of_losses R A B upper (is_total m most),
    of_losses R A B upper (is_loss wide),
    of_layers i k few (is_sum t within),
    of_layers i k few is_layer,
  )
