-- A row of chances in general: the chances of 0 to n defaults, as numerators over one denominator. Tails, mean and the losses of tranches and layers
-- are defined for any such row, whatever model it comes from.
-- Assumes nothing.
use Rattle.std.specs.Prelude.{ℕ, suc, ◌+◌, ◌*◌, ◌-◌, ◌≤◌, ◌<◌, min, ◌≡◌, ℤ, pos, ◌-ℤ◌, ◌*ℤ◌}
use Rattle.std.proofs.Common.{mul-pos, arith}
use Rattle.model.specs.Number.{sum, sum_between, choose, cut, raise}
use Rattle.model.specs.Fraction.{Fraction, Same, divided, whole}

pub record Chances : Type 0 where
  -- n
  pub assets : ℕ
  -- The chance of j defaults is numerator j over the denominator, for j from 0 to n.
  pub numerator : ℕ → ℕ
  pub denominator : ℕ
  pub positive : 0 < denominator

-- The chances of 0 to n defaults in any order: C(n,j) times x j over d, the chance that j named assets default and the others survive.
abbrev pub in_any_order : (n : ℕ) (x : ℕ → ℕ) (d : ℕ) → 0 < d → Chances
in_any_order n x d above = record { assets = n; numerator = λ j. choose n j * x j; denominator = d; positive = above }

-- The chances add to one.
abbrev pub Complete : Chances → Type 0
Complete r = sum (suc r.assets) r.numerator ≡ r.denominator

-- x over the row's denominator.
unfoldable pub share : Chances → ℕ → Fraction
share r x = record { num = x; den = r.denominator; positive = r.positive }

-- The chance of j defaults.
unfoldable pub chance : Chances → ℕ → Fraction
chance r j = share r (r.numerator j)

-- Two rows for as many assets, with the same chances written over other denominators.
pub record SameChances (r s : Chances) : Type 0 where
  pub assets : r.assets ≡ s.assets
  pub chances : (j : ℕ) → j ≤ r.assets → Same (chance r j) (chance s j)

-- The tail at k: the chance of k or more defaults, over the row's denominator.
unfoldable pub tail_numerator : Chances → ℕ → ℕ
tail_numerator r k = sum_between k r.assets r.numerator

unfoldable pub tail : Chances → ℕ → Fraction
tail r k = share r (tail_numerator r k)

-- The mean number of defaults: the sum over j of j times the chance of j defaults.
unfoldable pub mean : Chances → Fraction
mean r = share r (sum (suc r.assets) (λ j. j * r.numerator j))

-- The sum of the tails at 1 to n.
unfoldable pub tails_total : Chances → Fraction
tails_total r = share r (sum r.assets (λ i. tail_numerator r (suc i)))

-- What X defaults among n assets lose at recovery R, less the lower attachment A: X × (10,000 − R) − A × n. Both differences are integers, and so is the
-- product: at a recovery above 10,000 each default counts for 10,000 − R, which is below zero.
unfoldable pub loss_above : (n R A X : ℕ) → ℤ
loss_above n R A X = pos X *ℤ (pos whole -ℤ pos R) -ℤ pos (A * n)

-- The loss units of X defaults among n assets, for recovery R and a tranche from A to B, in basis points. In the order of Moody's formula: the attachment is
-- subtracted, the difference is raised to zero, and what that gives is cut to the width (B − A) × n.
unfoldable pub loss_units : (n R A B X : ℕ) → ℕ
loss_units n R A B X = min (raise (loss_above n R A X)) ((B - A) * n)

-- The same in the order of the scope paper: the difference is cut to the width, and then raised to zero. `loss-units-cut-first` shows the two equal.
unfoldable pub loss_units_cut_first : (n R A B X : ℕ) → ℕ
loss_units_cut_first n R A B X = raise (cut ((B - A) * n) (loss_above n R A X))

-- The sum over X from 0 to m − 1 of chance times loss units, over the row's denominator.
unfoldable pub loss_numerator : (r : Chances) (R A B m : ℕ) → ℕ
loss_numerator r R A B m = sum m (λ X. r.numerator X * loss_units r.assets R A B X)

-- The expected loss of the tranche: the sum over X from 0 to n of chance times loss units, divided by (B − A) × n.
unfoldable pub expected_loss : (r : Chances) (R A B : ℕ) → 0 < (B - A) * r.assets → Fraction
expected_loss r R A B wide = record {
  num = loss_numerator r R A B (suc r.assets);
  den = r.denominator * ((B - A) * r.assets);
  positive = mul-pos r.positive wide;
}

-- The sum of m tails from that at i on, over the row's denominator.
unfoldable pub tails_from : (r : Chances) (i m : ℕ) → ℕ
tails_from r i m = sum m (λ t. tail_numerator r (i + t))

-- How many tails the layer from the i-th to the j-th default has, which is never none.
abbrev pub layer_width : (i j : ℕ) → ℕ
layer_width i j = j - i + 1

pub layer_wide : (i j : ℕ) → 0 < layer_width i j
layer_wide i j = omega arith

-- The expected loss of the layer from the i-th to the j-th default: the mean of the tails at i to j.
unfoldable pub layer_loss : (r : Chances) (i j : ℕ) → Fraction
layer_loss r i j = divided (share r (tails_from r i (layer_width i j))) (layer_width i j) (layer_wide i j)
