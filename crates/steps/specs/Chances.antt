-- Steps 4 to 6, and layers: chances, tails and the losses of tranches and layers in kept numbers, for one side, from a row of entries that bound P(0,n) to P(n,n),
-- whatever model they come from. Each product, sum and quotient is rounded once.
-- Assumes nothing.
use Rattle.std.specs.Prelude.{ℕ, zero, suc, ◌+◌, ◌-◌, ◌*◌, ◌<◌}
use Rattle.model.specs.Chances.{loss_units, layer_width, layer_wide}
use Rattle.kept.specs.declared.Kept.{Kept}
use Rattle.kept.specs.declared.Side.{Side}
use Rattle.kept.specs.Rounding.{nought, of_integer, rounded_product, rounded_sum, rounded_quotient}
use Rattle.steps.specs.Counts.{kept_count}

module _ (side : Side) where
  -- f 0 + f 1 + … + f (m − 1), starting from zero and added in this order.
  unfoldable pub kept_total : (ℕ → Kept) → ℕ → Kept
  kept_total f zero = nought
  kept_total f (suc m) = rounded_sum side (kept_total f m) (f m)

  module _ (n : ℕ) where
    -- Step 4: the chance of j defaults in any order. The count of orders is multiplied by entry j.
    unfoldable pub kept_chance : (j : ℕ) (entry : Kept) → Kept
    kept_chance j entry = rounded_product side (kept_count side n j) entry

    -- The chances of 0 to n defaults, from the entries of a row.
    unfoldable pub kept_chances : (entry : ℕ → Kept) → ℕ → Kept
    kept_chances entry j = kept_chance j (entry j)

    module _ (c : ℕ → Kept) where
      -- Step 5: the tail at k. Starting from zero, the chances c of n, n − 1, … down to k defaults are added.
      unfoldable pub kept_tail : ℕ → Kept
      kept_tail k = kept_total (λ i. c (n - i)) (suc n - k)

      module _ (R A B : ℕ) where
        -- Step 6: the product of the chance of X defaults and its loss units. Units below 2^32 are a kept number as they are: `term-once`.
        unfoldable pub kept_term : ℕ → Kept
        kept_term X = rounded_product side (c X) (of_integer side (loss_units n R A B X))

        -- Starting from zero, the products are added for X = 0 up to n; the total is divided by (B − A) × n.
        unfoldable pub kept_loss : 0 < (B - A) * n → Kept
        kept_loss wide = rounded_quotient side (kept_total kept_term (suc n)) ((B - A) * n) wide

      module _ (i j : ℕ) where
        -- The layer from the i-th to the j-th default. Starting from zero, the tails at i up to j are added; the total is divided by their number.
        unfoldable pub kept_layer : Kept
        kept_layer = rounded_quotient side (kept_total (λ t. kept_tail (i + t)) (layer_width i j)) (layer_width i j) (layer_wide i j)
