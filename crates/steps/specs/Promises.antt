-- What calls promise of the numbers that steps 4 to 6 make, for a row of chances in general: r is the exact row, c the kept chances of both sides.
-- Assumes nothing.
use Rattle.std.specs.Prelude.{ℕ, suc, ◌+◌, ◌-◌, ◌*◌, ◌≤◌, ◌<◌, ◌≡◌, List, length, get_or, ℤ, pos, nat_abs}
use Rattle.model.specs.Number.{sum, integer_sum}
use Rattle.model.specs.Fraction.{Fraction, Same, Less, integer, plus, minus, times, whole}
use Rattle.model.specs.Chances.{Chances, chance, tail, expected_loss, layer_loss}
use Rattle.model.specs.Touching.{pool_loss}
use Rattle.kept.specs.declared.Kept.{Kept}
use Rattle.kept.specs.declared.Side.{Side}
use Rattle.kept.specs.declared.Side.TheVariants.{Low, High}
use Rattle.kept.specs.Rounding.{OnSide, value}
use Rattle.steps.specs.Chances.{kept_tail, kept_loss, kept_layer}
use Rattle.steps.specs.Column.{units_of_certainty, printed_tail, exact_units, half, to_nearest, Within, AtMostApart}
use Rattle.steps.specs.Shifts.{tail_shift}
use Rattle.steps.specs.Enclosure.{Enclosed}
use Rattle.steps.specs.Exponents.{Ranged}
use Rattle.steps.specs.declared.Tranche.{Tranche}
use Rattle.steps.specs.Loss.{LossAnswer, untouched, loss_answer, Says}
use Rattle.steps.specs.Tranches.{tranche_at, recoveries, TranchesTouch, TranchesWide, exact_total, bound_total, carried_total}
use Rattle.steps.specs.Claims.{RowPasses, VerdictAnswer, all_pass}
use Rattle.steps.specs.Attachments.{AttachmentAnswer, refused, lowest, tranche_from}

-- The bounds of chances, tails and the losses of tranches and layers enclose the exact values and are at most one part in g apart.
pub record RowEnclosed (g : ℕ) (r : Chances) (c : Side → ℕ → Kept) : Type 0 where
  -- Step 4, with the chance of j defaults in any order.
  pub chances : {j : ℕ} → j ≤ r.assets → Enclosed g (c Low j) (c High j) (chance r j)
  -- Step 5, with the tail at k.
  pub tails : (k : ℕ) → Enclosed g (kept_tail Low r.assets (c Low) k) (kept_tail High r.assets (c High) k) (tail r k)
  -- Step 6, with the expected loss of a tranche.
  pub losses : (R A B : ℕ) → B ≤ whole → (wide : 0 < (B - A) * r.assets)
      → Enclosed g (kept_loss Low r.assets (c Low) R A B wide) (kept_loss High r.assets (c High) R A B wide) (expected_loss r R A B wide)
  -- The layer from the i-th to the j-th default, with the mean of the tails at i to j.
  pub layers : (i j : ℕ) → j ≤ r.assets → Enclosed g (kept_layer Low r.assets (c Low) i j) (kept_layer High r.assets (c High) i j) (layer_loss r i j)

-- What holds of all that the steps make: such bounds, and for every number that is made an exponent from −80,000 to 100.
pub record HoldsSteps (g : ℕ) (r : Chances) (c : Side → ℕ → Kept) (Made : Side → Kept → Type 0) : Type 0 where
  pub enclosed : RowEnclosed g r c
  pub ranged : (side : Side) {x : Kept} → Made side x → Ranged x

-- What holds of the rows of a column that stand in a slice, from the chances of the low side: they add to exactly 100,000 units; each is what its printed tail
-- has more than the next, so that none is below zero; row n is its own tail; each is less than `off` units from the exact chance.
pub record HoldsColumn (off : Fraction) (r : Chances) (low : ℕ → Kept) (units : List ℕ) : Type 0 where
  pub total : sum (suc r.assets) (λ k. get_or units k 0) ≡ units_of_certainty
  pub difference : (k : ℕ) → k ≤ r.assets → get_or units k 0 + printed_tail r.assets low (suc k) ≡ printed_tail r.assets low k
  pub last : get_or units r.assets 0 ≡ printed_tail r.assets low r.assets
  pub near : (k : ℕ) → k ≤ r.assets → Within off (integer (get_or units k 0)) (exact_units (chance r k))

-- What holds of a shift list that stands in a slice, from the chances of the low side of a row r and of a row s for as many assets: entry k is the printed tail
-- at k of the first less that of the second, that at 0 is 0, and each is from −100,000 to 100,000; each is less than `off` units from what the exact tails differ
-- by; entries 1 to n add to less than n × `off` units, above zero and below it.
pub record HoldsShifts (off : Fraction) (r s : Chances) (low base : ℕ → Kept) (shifts : List ℤ) : Type 0 where
  pub entry : (k : ℕ) → k ≤ r.assets → get_or shifts k (pos 0) ≡ tail_shift r.assets low base k
  pub at_zero : get_or shifts 0 (pos 0) ≡ pos 0
  pub between : (k : ℕ) → k ≤ r.assets → nat_abs (get_or shifts k (pos 0)) ≤ units_of_certainty
  pub near : (k : ℕ) → k ≤ r.assets
      → Within off (plus (integer (printed_tail r.assets low k)) (exact_units (tail s k))) (plus (integer (printed_tail r.assets base k)) (exact_units (tail r k)))
  pub total : Less (integer (nat_abs (integer_sum r.assets (λ i. get_or shifts (suc i) (pos 0))))) (times (integer r.assets) off)

-- What holds of the answer to a claimed column. A row that is at most half a unit from 100,000 times the exact chance passes, and so does a column of such rows: that of
-- exact chances each rounded to nearest, with what is half way up or down as each row likes. A row that passes is no further from that than half a unit and
-- 100,000 × (high − low).
pub record HoldsVerdict (r : Chances) (c : Side → ℕ → Kept) (claims : List ℕ) (verdict : VerdictAnswer) : Type 0 where
  pub near_row : (k : ℕ) → k ≤ r.assets → AtMostApart half (integer (get_or claims k 0)) (exact_units (chance r k)) → RowPasses c claims k
  pub near_column : ((k : ℕ) → k ≤ r.assets → AtMostApart half (integer (get_or claims k 0)) (exact_units (chance r k))) → verdict ≡ all_pass
  pub rounded_column : (side : ℕ → Side) → ((k : ℕ) → k ≤ r.assets → get_or claims k 0 ≡ to_nearest (side k) (exact_units (chance r k))) → verdict ≡ all_pass
  pub passed_row : (k : ℕ) → k ≤ r.assets → RowPasses c claims k
      → AtMostApart (plus half (exact_units (minus (value (c High k)) (value (c Low k))))) (integer (get_or claims k 0)) (exact_units (chance r k))

-- What holds of a loss that is answered, from its bounds on the two sides and its exact value v: it is the one that the bounds give, which enclose v and are at most
-- one part in g apart; and what its case says of them.
pub record HoldsLoss (g : ℕ) (bound : Side → Kept) (v : Fraction) (loss : LossAnswer) : Type 0 where
  pub answer_is : loss ≡ loss_answer (bound Low) (bound High)
  pub enclosed : Enclosed g (bound Low) (bound High) v
  pub says : Says g (bound Low) (bound High) v loss

-- Of a tranche, with the bounds of step 6; and of the layer from the i-th to the j-th default.
abbrev pub HoldsTranche : (g : ℕ) (r : Chances) (c : Side → ℕ → Kept) (t : Tranche) → 0 < (t.upper - t.lower) * r.assets → LossAnswer → Type 0
HoldsTranche g r c t wide =
    HoldsLoss g (λ side. kept_loss side r.assets (c side) t.recovery t.lower t.upper wide) (expected_loss r t.recovery t.lower t.upper wide)

abbrev pub HoldsLayer : (g : ℕ) (r : Chances) (c : Side → ℕ → Kept) (i j : ℕ) → LossAnswer → Type 0
HoldsLayer g r c i j = HoldsLoss g (λ side. kept_layer side r.assets (c side) i j) (layer_loss r i j)

-- What holds of the losses of tranches that touch from 0 to 10,000 with one recovery, each times B − A, p being the default probability by which the row is made: the exact
-- ones add to p × (10,000 − R) / 10,000; the bounds of step 6, and the numbers that the answers carry, add on the low side to no more, on the high side to no less.
pub record SharesOut (p : ℕ) (r : Chances) (c : Side → ℕ → Kept) (ts : List Tranche) (wide : TranchesWide r.assets ts) (losses : List LossAnswer) : Type 0 where
  pub exact : Same (exact_total r ts wide) (pool_loss p (recoveries ts 0))
  pub bounds : (side : Side) → OnSide side (bound_total side r.assets (c side) ts wide) (pool_loss p (recoveries ts 0))
  pub carry : (side : Side) → OnSide side (carried_total side ts losses) (pool_loss p (recoveries ts 0))

-- What holds of the losses that stand at the places of tranches: of each tranche, with its own recovery, what holds of its loss; past them each is untouched; where the
-- tranches touch, they share out what the pool loses.
pub record HoldsLosses (g p : ℕ) (r : Chances) (c : Side → ℕ → Kept) (ts : List Tranche) (losses : List LossAnswer) : Type 0 where
  pub wide : TranchesWide r.assets ts
  pub loss : (i : ℕ) → i < length ts → (wide : 0 < ((tranche_at ts i).upper - (tranche_at ts i).lower) * r.assets)
      → HoldsTranche g r c (tranche_at ts i) wide (get_or losses i untouched)
  pub past : (i : ℕ) → length ts ≤ i → get_or losses i untouched ≡ untouched
  pub shares_out : TranchesTouch ts → SharesOut p r c ts wide losses

-- What holds of the loss that a search for an attachment answers, for a tranche that ends at B with recovery R: what holds of the loss of that tranche. `wide`: it has a width.
pub record HoldsLowest (g : ℕ) (r : Chances) (c : Side → ℕ → Kept) (t : Tranche) (loss : LossAnswer) : Type 0 where
  pub wide : 0 < (t.upper - t.lower) * r.assets
  pub holds : HoldsTranche g r c t wide loss

abbrev pub HoldsAttachment : (g : ℕ) (r : Chances) (c : Side → ℕ → Kept) (R B : ℕ) → AttachmentAnswer → Type 0
HoldsAttachment g r c R B (refused number) = Unit {0}
HoldsAttachment g r c R B (lowest A loss) = HoldsLowest g r c (tranche_from R B A) loss
