-- How far chances, tails and the losses of tranches and layers are from their exact values, for a row of chances in general.
-- Assumes nothing.
use Prim.Native.Nat.{ℕ, zero, suc, ◌+◌, ◌*◌, ◌-◌, ◌^◌, ◌≤◌, ◌<◌}
use Rattle.std.specs.Prelude.{◌≡◌}
use Rattle.std.proofs.Math.Path.{ap}
use Rattle.std.proofs.Math.Decide.{dec_le}
use Rattle.std.proofs.Math.Nat.{suc-sub-suc}
use Rattle.std.proofs.Common.{le_refl, lt_of_le_of_lt}
use native.Mathlib.Omega.{arith}
use Rattle.model.specs.Number.{choose}
use Rattle.model.specs.Fraction.{Fraction, Same, integer, plus, times, divided}
use Rattle.model.specs.Fraction.Laws.{same_refl, same_sym, same_trans, times_same}
use Rattle.model.specs.Chances.{Chances, share, chance, tail_numerator, tail, loss_units, loss_numerator, expected_loss, tails_from, layer_width, layer_wide, layer_loss}
use Rattle.model.proofs.Chances.Laws.{tail_next, tail_past, loss_none, loss_next, loss_units_at_most, tails_from_none, tails_from_next}
use Rattle.kept.specs.declared.Kept.{Kept}
use Rattle.kept.specs.declared.Side.{Side}
use Rattle.kept.specs.declared.Side.TheVariants.{Low, High}
use Rattle.kept.specs.Accuracy.{Bound, BudgetFor}
use Rattle.kept.specs.Accuracy.Laws.{bound_exact, bound_weaken, bound_same, bound_product, bound_sum, bound_quotient}
use Rattle.kept.specs.Rounding.{IsKept, value, round, rounded_product, of_integer}
use Rattle.kept.specs.Rounding.Leading.{nought_same}
use Rattle.kept.specs.Rounding.Laws.{nought_kept, kept_unique, round_cong, quotient_is, integer_is, integer_exact}
use Rattle.steps.specs.Enclosure.{Enclosed}
use Rattle.steps.specs.Budgets.{Bounded, chance_budget, tail_budget, loss_budget, layer_budget}
use Rattle.steps.proofs.Enclosure.Laws.{bound_enclosed}
use Rattle.steps.proofs.Counts.Laws.{count_bound}
use Rattle.steps.specs.Chances.{kept_total, kept_chance, kept_tail, kept_term, kept_loss, kept_layer}

-- Step 4, for any exact value v of entry j.
pub chance_bound : {side : Side} {b : ℕ} {entry : Kept} {v : Fraction} (n j : ℕ) → j ≤ n
    → Bound side b entry v → Bound side (chance_budget n b) (kept_chance side n j entry) (times (integer (choose n j)) v)
unfolding chance_budget kept_chance
chance_bound {side} n j l m = bound_weaken (omega arith) (bound_product (count_bound side n j l) m)

-- Loss units below 2^32 are kept as they are.
units_exact : (side : Side) (n R A B X : ℕ) → (B - A) * n < 2 ^ 32
    → Same (value (of_integer side (loss_units n R A B X))) (integer (loss_units n R A B X))
units_exact side n R A B X narrow = integer_exact side (loss_units n R A B X) (lt_of_le_of_lt (loss_units_at_most n R A B X) narrow)

-- The same on either side.
pub units_either : (side other : Side) (n R A B X : ℕ) → (B - A) * n < 2 ^ 32 → of_integer side (loss_units n R A B X) ≡ of_integer other (loss_units n R A B X)
units_either side other n R A B X narrow =
    kept_unique (integer_is side (loss_units n R A B X)).kept (integer_is other (loss_units n R A B X)).kept
    (same_trans (units_exact side n R A B X narrow) (same_sym (units_exact other n R A B X narrow)))

pub loss_kept : (side : Side) (n : ℕ) (c : ℕ → Kept) (R A B : ℕ) (wide : 0 < (B - A) * n) → IsKept (kept_loss side n c R A B wide)
unfolding kept_loss
loss_kept side n c R A B wide = (quotient_is side (kept_total side (kept_term side n c R A B) (suc n)) ((B - A) * n) wide).kept

pub layer_kept : (side : Side) (n : ℕ) (c : ℕ → Kept) (i j : ℕ) → IsKept (kept_layer side n c i j)
unfolding kept_layer
layer_kept side n c i j = (quotient_is side _ _ (layer_wide i j)).kept

-- The product of a chance and its loss units is rounded once: the units themselves are a kept number.
pub term_once : (side : Side) (n : ℕ) (c : ℕ → Kept) (R A B X : ℕ) → (B - A) * n < 2 ^ 32
    → kept_term side n c R A B X ≡ round side (times (value (c X)) (integer (loss_units n R A B X)))
unfolding kept_term rounded_product
term_once side n c R A B X narrow = round_cong side (times_same same_refl (units_exact side n R A B X narrow))

-- A total of shares of one row: x 0 = 0 and x (m + 1) = x m + t m up to the last, each f i within b parts of t i.
module _ (side : Side) {b : ℕ} (r : Chances) (f : ℕ → Kept) (x t : ℕ → ℕ) (last : ℕ) where
  total_bound : x 0 ≡ 0 → ((i : ℕ) → i < last → x (suc i) ≡ x i + t i) → ((i : ℕ) → i < last → Bound side b (f i) (share r (t i)))
      → (m : ℕ) → m ≤ last → Bound side (b + m) (kept_total side f m) (share r (x m))
  unfolding kept_total share plus
  total_bound none next bound zero l = bound_weaken (omega arith) (bound_exact nought_kept (nought_same (share r (x 0)) none))
  total_bound none next bound (suc m) l =
      let before : Bound side (b + m) (kept_total side f m) (share r (x m)) = total_bound none next bound m (omega arith) in
      let same : Same (plus (share r (x m)) (share r (t m))) (share r (x (suc m))) =
      omega (arith, ap (λ z. z * r.denominator * r.denominator) (next m l)) in
      bound_weaken (omega arith) (bound_same same (bound_sum before (bound_weaken (omega arith) (bound m l))))

module _ {b : ℕ} {r : Chances} {c : Side → ℕ → Kept} (bounded : Bounded b r c) (side : Side) where
  -- The total of the last m chances.
  pub tail_total_bound : (m : ℕ) → m ≤ suc r.assets
      → Bound side (b + m) (kept_total side (λ i. c side (r.assets - i)) m) (tail r (suc r.assets - m))
  unfolding tail chance
  tail_total_bound =
      let n : ℕ = r.assets in
      total_bound side r (λ i. c side (n - i)) (λ m. tail_numerator r (suc n - m)) (λ i. r.numerator (n - i)) (suc n)
      (tail_past r (omega arith))
      (λ i l.
      let here : suc n - i ≡ suc (n - i) = omega arith in
      rw (here, suc-sub-suc n i) (omega (arith, tail_next r {k = n - i} (omega arith))))
      (λ i l. bounded.bound side (n - i) (omega arith))

  pub tail_bound : (k : ℕ) → Bound side (tail_budget r.assets b) (kept_tail side r.assets (c side) k) (tail r k)
  unfolding tail_budget kept_tail tail
  tail_bound k =
      let n : ℕ = r.assets in
      let reached : tail_numerator r (suc n - (suc n - k)) ≡ tail_numerator r k = elim (dec_le k n) [
        | yes l ↦ let back : suc n - (suc n - k) ≡ k = omega arith in ap (tail_numerator r) back
        | no l ↦ omega (arith, tail_past r {k = suc n - (suc n - k)} (omega arith), tail_past r {k = k} (omega arith))
      ] in
      bound_weaken (omega arith) (rw reached at (tail_total_bound (suc n - k) (omega arith)))

  -- The total of m tails from that at i on.
  pub layer_total_bound : (i m : ℕ)
      → Bound side (tail_budget r.assets b + m) (kept_total side (λ t. kept_tail side r.assets (c side) (i + t)) m) (share r (tails_from r i m))
  unfolding tail
  layer_total_bound i m =
      total_bound side r (λ t. kept_tail side r.assets (c side) (i + t)) (tails_from r i) (λ t. tail_numerator r (i + t)) m
      (tails_from_none r i) (λ t l. tails_from_next r i t) (λ t l. tail_bound (i + t)) m (le_refl m)

  pub layer_bound : (i j : ℕ) → j ≤ r.assets
      → Bound side (layer_budget r.assets b) (kept_layer side r.assets (c side) i j) (layer_loss r i j)
  unfolding layer_budget kept_layer layer_loss
  layer_bound i j l = bound_weaken (omega arith) (bound_quotient (layer_width i j) (layer_wide i j) (layer_total_bound i (layer_width i j)))

  module _ (R A B : ℕ) (narrow : (B - A) * r.assets < 2 ^ 32) where
    pub term_bound : (X : ℕ) → X ≤ r.assets
        → Bound side (b + 1) (kept_term side r.assets (c side) R A B X) (share r (r.numerator X * loss_units r.assets R A B X))
    unfolding kept_term chance share times integer
    term_bound X l =
        let units : ℕ = loss_units r.assets R A B X in
        let exact : Bound side 0 (of_integer side units) (integer units) =
        bound_exact (integer_is side units).kept (units_exact side r.assets R A B X narrow) in
        bound_weaken (omega arith) (bound_same (omega arith) (bound_product (bounded.bound side X l) exact))

    pub loss_total_bound : (m : ℕ) → m ≤ suc r.assets
        → Bound side (b + 1 + m) (kept_total side (kept_term side r.assets (c side) R A B) m) (share r (loss_numerator r R A B m))
    loss_total_bound =
        let n : ℕ = r.assets in
        total_bound side r (kept_term side n (c side) R A B) (loss_numerator r R A B) (λ X. r.numerator X * loss_units n R A B X) (suc n)
        (loss_none r R A B)
        (λ i l. loss_next r R A B i)
        (λ i l. term_bound i (omega arith))

    pub loss_bound : (wide : 0 < (B - A) * r.assets)
        → Bound side (loss_budget r.assets b) (kept_loss side r.assets (c side) R A B wide) (expected_loss r R A B wide)
    unfolding loss_budget kept_loss expected_loss share divided
    loss_bound wide = bound_quotient ((B - A) * r.assets) wide (loss_total_bound (suc r.assets) (le_refl (suc r.assets)))

-- Both bounds of each.
module _ {g b : ℕ} {r : Chances} {c : Side → ℕ → Kept} (bounded : Bounded b r c) where
  pub chance_enclosed : BudgetFor g b → {j : ℕ} → j ≤ r.assets → Enclosed g (c Low j) (c High j) (chance r j)
  chance_enclosed fine {j} l = bound_enclosed fine (λ side. bounded.bound side j l)

  pub tail_enclosed : BudgetFor g (tail_budget r.assets b) → (k : ℕ)
      → Enclosed g (kept_tail Low r.assets (c Low) k) (kept_tail High r.assets (c High) k) (tail r k)
  tail_enclosed fine k = bound_enclosed fine (λ side. tail_bound bounded side k)

  pub loss_enclosed : BudgetFor g (loss_budget r.assets b) → (R A B : ℕ) → (B - A) * r.assets < 2 ^ 32 → (wide : 0 < (B - A) * r.assets)
      → Enclosed g (kept_loss Low r.assets (c Low) R A B wide) (kept_loss High r.assets (c High) R A B wide) (expected_loss r R A B wide)
  loss_enclosed fine R A B narrow wide = bound_enclosed fine (λ side. loss_bound bounded side R A B narrow wide)

  pub layer_enclosed : BudgetFor g (layer_budget r.assets b) → (i j : ℕ) → j ≤ r.assets
      → Enclosed g (kept_layer Low r.assets (c Low) i j) (kept_layer High r.assets (c High) i j) (layer_loss r i j)
  layer_enclosed fine i j l = bound_enclosed fine (λ side. layer_bound bounded side i j l)
