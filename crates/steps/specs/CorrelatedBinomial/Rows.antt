-- Steps 1 to 3: the rows of kept numbers that bound P(j,k), for one side, from the default probability p and the correlation ρ in basis points. Each
-- product and each sum is rounded once. With a = 1 − p and q = 1 − ρ.
-- Assumes nothing.
use Rattle.std.specs.Prelude.{ℕ, zero, suc, cond, ltb}
use Rattle.model.specs.Fraction.{complement}
use Rattle.model.specs.Passes.{passed}
use Rattle.kept.specs.declared.Kept.{Kept}
use Rattle.kept.specs.declared.Side.{Side}
use Rattle.kept.specs.Rounding.{unity, of_basis_points, rounded_product, rounded_sum}

module _ (side : Side) where
  -- Step 1: p, a, ρ and q are `constant` of p, complement p, ρ and complement ρ, whole basis points over 10,000.
  unfoldable pub constant : ℕ → Kept
  constant x = of_basis_points side x

  -- Step 2: p_(k+1). p_1 is p; each next is the product of the one before and q, then the sum with ρ.
  unfoldable pub kept_conditional : (p ρ k : ℕ) → Kept
  kept_conditional p ρ zero = constant p
  kept_conditional p ρ (suc k) = rounded_sum side (rounded_product side (kept_conditional p ρ k) (constant (complement ρ))) (constant ρ)

  -- m_(k+1). m_1 is p_1; each next is the product of the one before and the p of its own index.
  unfoldable pub kept_joint : (p ρ k : ℕ) → Kept
  kept_joint p ρ zero = kept_conditional p ρ zero
  kept_joint p ρ (suc k) = rounded_product side (kept_joint p ρ k) (kept_conditional p ρ (suc k))

  -- q^j: starting from one, each next is the product of the one before and q.
  unfoldable pub kept_power : (ρ j : ℕ) → Kept
  kept_power ρ zero = unity
  kept_power ρ (suc j) = rounded_product side (kept_power ρ j) (constant (complement ρ))

  -- g_j: the product of a and q^j.
  unfoldable pub kept_weight : (p ρ j : ℕ) → Kept
  kept_weight p ρ j = rounded_product side (constant (complement p)) (kept_power ρ j)

  -- Step 3, one entry of a pass with the kept ρ: old entry j, plus the product of ρ and old entry j + 1.
  unfoldable pub kept_pass_step : (correlation x y : Kept) → Kept
  kept_pass_step correlation x y = rounded_sum side x (rounded_product side correlation y)

  -- Entry j of row k. Row 0 has one entry, and that is one. Row k + 1 starts with the k + 1 entries of row k; after its passes 1 to k, entry j for j up to k
  -- is multiplied by g_j, and entry k + 1 is m_(k+1).
  unfoldable pub kept_row : (p ρ k j : ℕ) → Kept
  kept_row p ρ zero j = unity
  kept_row p ρ (suc k) j =
      cond (ltb j (suc k))
      (rounded_product side (passed (kept_pass_step (constant ρ)) (suc k) k (kept_row p ρ k) j) (kept_weight p ρ j))
      (kept_joint p ρ k)
