-- That the exponents of the numbers of steps 4 to 6 and of layers stay in their range.
-- Assumes nothing.
use Rattle.std.specs.Prelude.{ℕ, suc, ◌+◌, ◌-◌, ◌*◌, ◌^◌, ◌≤◌, ◌<◌}
use native.Mathlib.Omega.{arith}
use Rattle.std.proofs.Common.{le_refl, le_of_lt, mul-le-mul, lit≤, pow-add}
use Rattle.std.proofs.Math.Nat.{mul-le-mul_left}
use Rattle.model.specs.Number.Laws.{choose_at_most}
use Rattle.model.specs.Fraction.{Fraction, integer, times, divided}
use Rattle.model.specs.Chances.{Chances, Complete, share, tail, loss_units, expected_loss, layer_width, layer_loss}
use Rattle.model.proofs.Chances.Laws.{tail_at_most, chance_at_most, loss_units_at_most, loss_at_most, tails_from_at_most}
use Rattle.kept.specs.declared.Kept.{Kept}
use Rattle.kept.specs.declared.Side.{Side}
use Rattle.kept.specs.Accuracy.{precision, Bound}
use Rattle.steps.specs.Budgets.{Bounded, chance_budget, tail_budget, loss_budget, layer_budget}
use Rattle.steps.proofs.Counts.Laws.{counts_ranged}
use Rattle.steps.proofs.Chances.Laws.{chance_bound, tail_total_bound, term_bound, loss_total_bound, loss_bound, layer_total_bound, layer_bound}
use Rattle.steps.specs.Exponents.{Ranged}
use Rattle.steps.proofs.Exponents.Laws.{bound_ranged, integer_ranged, unscaled}
use Rattle.steps.specs.Numbers.{ChanceNumber, TailNumber, LossNumber, LayerNumber, of_counts, is_chance, is_tail, is_units, is_term, is_total, is_loss, is_sum, is_layer}

-- ---- step 4, from entries that bound values of at most one

pub chances_ranged : {side : Side} {n b m : ℕ} {entry : ℕ → Kept} (v : ℕ → Fraction)
    → ((j : ℕ) → j ≤ n → Bound side b (entry j) (v j)) → ((j : ℕ) → j ≤ n → (v j).num ≤ (v j).den) → ((j : ℕ) → j ≤ n → (v j).den ≤ 2 ^ m)
    → (chance_budget n b * 2 ≤ precision) × (m ≤ 79968) × (n ≤ 100) → {x : Kept} → ChanceNumber side n entry x → Ranged x
unfolding integer times
chances_ranged v bound at_most den small (of_counts number) = counts_ranged small.2 number
chances_ranged {n} {m} v bound at_most den small (is_chance j l) =
    bound_ranged (chance_bound n j l (bound j l)) m n (omega (arith, den j l)) (omega (arith, mul-le-mul (choose_at_most n j) (at_most j l))) small

-- ---- steps 5 and 6 and layers, for a row of chances in general

module _
    {b : ℕ} {r : Chances} {c : Side → ℕ → Kept} (bounded : Bounded b r c) (complete : Complete r) (side : Side)
    (m : ℕ) (den : r.denominator ≤ 2 ^ m) (small : (layer_budget r.assets b * 2 ≤ precision) × (m + 32 ≤ 79968)) where
  pub tails_ranged : {x : Kept} → TailNumber side r.assets (c side) x → Ranged x
  unfolding layer_budget tail_budget share tail
  tails_ranged (is_tail k l) =
      bound_ranged (tail_total_bound bounded side k l) m 0 den (unscaled (tail_at_most r complete (suc r.assets - k))) (omega arith)

  pub losses_ranged : (R A B : ℕ) → (B - A) * r.assets < 2 ^ 32 → {x : Kept} → LossNumber side r.assets (c side) R A B x → Ranged x
  unfolding layer_budget tail_budget loss_budget share expected_loss
  losses_ranged R A B narrow (is_units X l) =
      integer_ranged side (loss_units r.assets R A B X) 32 (omega (arith, loss_units_at_most r.assets R A B X)) (lit≤ tt)
  losses_ranged R A B narrow (is_term X l) =
      bound_ranged (term_bound bounded side R A B narrow X l) m 32 den
      (mul-le-mul (chance_at_most r complete l) (omega (arith, loss_units_at_most r.assets R A B X))) (omega arith)
  losses_ranged R A B narrow (is_total k l) =
      bound_ranged (loss_total_bound bounded side R A B narrow k l) m 32 den
      (omega (arith, loss_at_most r R A B complete l, mul-le-mul_left r.denominator (le_of_lt narrow))) (omega arith)
  losses_ranged R A B narrow (is_loss wide) =
      bound_ranged (loss_bound bounded side R A B narrow wide) (m + 32) 0 (rw (pow-add 2 m 32) (mul-le-mul den (le_of_lt narrow)))
      (unscaled (loss_at_most r R A B complete (le_refl (suc r.assets)))) (omega arith)

  -- Of at most 101 tails, which is below 2^7.
  pub layers_ranged : (i j : ℕ) → j ≤ r.assets → r.assets ≤ 100 → {x : Kept} → LayerNumber side r.assets (c side) i j x → Ranged x
  unfolding layer_budget tail_budget share layer_loss divided
  layers_ranged i j l few (is_sum k h) =
      let many : k ≤ 2 ^ 7 = omega arith in
      bound_ranged (layer_total_bound bounded side i k) m 7 den
      (omega (arith, tails_from_at_most r complete i k, mul-le-mul_left r.denominator many)) (omega arith)
  layers_ranged i j l few is_layer =
      let many : layer_width i j ≤ 2 ^ 7 = omega arith in
      bound_ranged (layer_bound bounded side i j l) (m + 7) 0 (rw (pow-add 2 m 7) (mul-le-mul den many))
      (unscaled (omega (arith, tails_from_at_most r complete i (layer_width i j)))) (omega arith)
