-- Laws of tails, mean and expected losses, and of the same chances over another denominator, for a row of chances in general.
-- Assumes nothing.
use Prim.Native.Nat.{ℕ, zero, suc, ◌+◌, ◌*◌, ◌-◌, ◌≤◌, ◌<◌, min}
use Rattle.std.specs.Prelude.{◌≡◌, ◌-ℤ◌, ◌*ℤ◌}
use Rattle.std.proofs.Math.Path.{refl, sym, ap}
use Rattle.std.proofs.Common.{◌∙◌, add-zero, add-suc, suc-add, add-sub_of_le, le_refl, le_trans, le_of_suc-le-suc, mul_comm, mul-pos, mul-le-mul_left}
use native.Mathlib.Omega.{arith}
use Rattle.std.proofs.Math.Decide.{dec_le}
use Rattle.std.proofs.Math.Nat.{zero-add, sub-zero, sub-eq-zero_of_le, min-le_right, mul-sub, mul-le-mul_right, eq_of_mul-eq-mul_right}
use Rattle.std.proofs.Math.IntN.{pos}
use Rattle.model.specs.Number.{sum, sum_between, raise}
use Rattle.model.specs.Number.Laws.{sum_mono, sum_cong, sum_const, sum_times, sum_as, sum_last, between_first, between_none, between_cut, between_total, raised_cut, raised_minus, raised_times}
use Rattle.model.specs.Fraction.{Same, AtMost, certainty, divided, whole, complement, over}
use Rattle.model.specs.Fraction.Laws.{same_trans}
use Rattle.model.specs.Chances.{Chances, Complete, SameChances, share, chance, tail_numerator, tail, mean, tails_total, loss_above, loss_units, loss_units_cut_first, loss_numerator, expected_loss, tails_from, layer_width, layer_loss}

-- ---- tails and mean

module _ (r : Chances) where
  -- The tail at k is the chance of k defaults plus the tail at k + 1.
  pub tail_next : {k : ℕ} → k ≤ r.assets → tail_numerator r k ≡ r.numerator k + tail_numerator r (suc k)
  unfolding tail_numerator
  tail_next l = omega (arith, between_first r.assets r.numerator l)

  -- There are no more than n defaults.
  pub tail_past : {k : ℕ} → r.assets < k → tail_numerator r k ≡ 0
  unfolding tail_numerator
  tail_past l = between_none r.assets r.numerator l

  tail_step : (k : ℕ) → tail_numerator r (suc k) ≤ tail_numerator r k
  tail_step k = elim (dec_le k r.assets) [ yes l ↦ omega (arith, tail_next l) | no l ↦ omega (arith, tail_past {k = suc k} (omega arith)) ]

  tail_steps : (i d : ℕ) → tail_numerator r (i + d) ≤ tail_numerator r i
  tail_steps i zero = rw (add-zero i) (le_refl (tail_numerator r i))
  tail_steps i (suc d) = rw (add-suc i d) (le_trans (tail_step (i + d)) (tail_steps i d))

  -- Tails do not grow.
  pub tail_falls : {i k : ℕ} → i ≤ k → AtMost (tail r k) (tail r i)
  unfolding tail share
  tail_falls {i} {k} l = record { cross = mul-le-mul_right r.denominator (rw (add-sub_of_le l) at (tail_steps i (k - i))) }

  -- The tails at 1 to n add to the mean.
  pub tails_total_lem : Same (tails_total r) (mean r)
  unfolding tails_total mean share tail_numerator
  tails_total_lem = record { cross = ap (λ z. z * r.denominator) (between_total r.assets r.numerator) }

  module _ (complete : Complete r) where
    whole_tail : tail_numerator r 0 ≡ r.denominator
    unfolding tail_numerator sum_between
    whole_tail = simp (sub-zero, zero-add) complete

    pub tail_at_zero : Same (tail r 0) certainty
    unfolding tail share certainty
    tail_at_zero = omega (arith, whole_tail)

    pub tail_at_most : (k : ℕ) → tail_numerator r k ≤ r.denominator
    tail_at_most k = omega (arith, whole_tail, rw zero-add at (tail_steps 0 k))

    pub tail_at_most_one : (k : ℕ) → AtMost (tail r k) certainty
    unfolding tail share certainty
    tail_at_most_one k = omega (arith, tail_at_most k)

    pub chance_at_most : {j : ℕ} → j ≤ r.assets → r.numerator j ≤ r.denominator
    chance_at_most {j} l = omega (arith, tail_next l, tail_at_most j)

    pub chance_at_most_one : {j : ℕ} → j ≤ r.assets → AtMost (chance r j) certainty
    unfolding chance share certainty
    chance_at_most_one l = omega (arith, chance_at_most l)

-- ---- the same chances over another denominator

module _ {r s : Chances} (same : SameChances r s) where
  numerators_as : (j : ℕ) → j < suc r.assets → r.numerator j * s.denominator ≡ s.numerator j * r.denominator
  unfolding chance share
  numerators_as j l = (same.chances j (le_of_suc-le-suc l)).cross

  pub complete_same : Complete s → Complete r
  complete_same complete =
      eq_of_mul-eq-mul_right s.denominator s.positive _ _
      (sum_as (suc r.assets) s.denominator r.denominator r.numerator s.numerator numerators_as
      ∙ rw (same.assets, complete) (mul_comm s.denominator r.denominator))

  pub mean_same : Same (mean r) (mean s)
  unfolding mean share
  mean_same = record {
    cross =
        sum_as (suc r.assets) s.denominator r.denominator (λ j. j * r.numerator j) (λ j. j * s.numerator j)
        (λ j l. omega (arith, ap (λ z. j * z) (numerators_as j l)))
        ∙ rw same.assets refl;
  }

-- ---- loss units

raised_loss : (R X : ℕ) → raise (pos X *ℤ (pos whole -ℤ pos R)) ≡ X * complement R
unfolding complement raise
raised_loss R X = raised_times X (pos whole -ℤ pos R) ∙ ap (λ z. X * z) (raised_minus (pos whole) R)

module _ (n R A B : ℕ) where
  -- Moody's order and that of the scope paper give the same units, for every tranche and every recovery.
  pub loss_units_cut_first_lem : (X : ℕ) → loss_units_cut_first n R A B X ≡ loss_units n R A B X
  unfolding loss_units loss_units_cut_first
  loss_units_cut_first_lem X = raised_cut ((B - A) * n) (loss_above n R A X)

  -- The loss units in whole numbers alone, where 10,000 − R counts as zero at a recovery above 10,000.
  pub loss_units_whole : (X : ℕ) → loss_units n R A B X ≡ min (X * complement R - A * n) ((B - A) * n)
  unfolding loss_units loss_above
  loss_units_whole X =
      ap (λ z. min z ((B - A) * n)) (raised_minus (pos X *ℤ (pos whole -ℤ pos R)) (A * n) ∙ ap (λ z. z - A * n) (raised_loss R X))

  -- At a recovery of 10,000 or more no defaults have units.
  pub loss_units_none : whole ≤ R → (X : ℕ) → loss_units n R A B X ≡ 0
  unfolding complement
  loss_units_none l X = rw (loss_units_whole X, sub-eq-zero_of_le l) (omega arith)

  pub loss_units_at_most : (X : ℕ) → loss_units n R A B X ≤ (B - A) * n
  loss_units_at_most X = rw (loss_units_whole X) (min-le_right (X * complement R - A * n) ((B - A) * n))

  -- More defaults, no fewer units.
  pub loss_units_grow : {X Y : ℕ} → X ≤ Y → loss_units n R A B X ≤ loss_units n R A B Y
  loss_units_grow {X} {Y} l = rw (loss_units_whole X, loss_units_whole Y) (omega (arith, mul-le-mul_right (complement R) l))

-- ---- expected loss

-- A tranche on a pool that is not empty has a width.
pub tranche_wide : {n A B : ℕ} → 0 < n → A < B → 0 < (B - A) * n
tranche_wide assets l = mul-pos (omega arith) assets

module _ (r : Chances) (R A B : ℕ) where
  pub loss_none : loss_numerator r R A B 0 ≡ 0
  unfolding loss_numerator sum
  loss_none = refl

  pub loss_next : (m : ℕ) → loss_numerator r R A B (suc m) ≡ loss_numerator r R A B m + r.numerator m * loss_units r.assets R A B m
  unfolding loss_numerator sum
  loss_next m = refl

  -- Where fewer than n defaults have no units, the chance of n defaults alone counts.
  pub loss_of_last : loss_units r.assets R A B (r.assets - 1) ≡ 0
      → loss_numerator r R A B (suc r.assets) ≡ r.numerator r.assets * loss_units r.assets R A B r.assets
  unfolding loss_numerator
  loss_of_last no_loss_below =
      let n = r.assets in
      let no_units : (X : ℕ) → X < n → loss_units n R A B X ≡ 0 = λ X l. omega (arith, loss_units_grow n R A B {X = X} {Y = n - 1} (omega arith)) in
      sum_last n (λ X. r.numerator X * loss_units n R A B X) (λ X l. rw (no_units X l) (omega arith))

  module _ (complete : Complete r) where
    -- The loss of fewer than k defaults, with all units lost from k on.
    loss_and_tail : (k : ℕ) → k ≤ suc r.assets
        → loss_numerator r R A B k + tail_numerator r k * ((B - A) * r.assets) ≤ r.denominator * ((B - A) * r.assets)
    loss_and_tail zero l = omega (arith, loss_none, mul-le-mul_right ((B - A) * r.assets) (tail_at_most r complete 0))
    loss_and_tail (suc k) l =
        omega (
          arith,
          loss_and_tail k (omega arith),
          loss_next k,
          mul-le-mul_left (r.numerator k) (loss_units_at_most r.assets R A B k),
          ap (λ z. z * ((B - A) * r.assets)) (tail_next r {k = k} (omega arith)),
        )

    pub loss_at_most : {k : ℕ} → k ≤ suc r.assets → loss_numerator r R A B k ≤ r.denominator * ((B - A) * r.assets)
    loss_at_most {k} l = omega (arith, loss_and_tail k l)

  pub loss_at_most_one : (wide : 0 < (B - A) * r.assets) → Complete r → AtMost (expected_loss r R A B wide) certainty
  unfolding expected_loss certainty
  loss_at_most_one wide complete = omega (arith, loss_at_most complete (le_refl (suc r.assets)))

-- ---- layers

module _ (r : Chances) where
  pub tails_from_none : (i : ℕ) → tails_from r i 0 ≡ 0
  unfolding tails_from sum
  tails_from_none i = refl

  pub tails_from_next : (i m : ℕ) → tails_from r i (suc m) ≡ tails_from r i m + tail_numerator r (i + m)
  unfolding tails_from sum
  tails_from_next i m = refl

  pub tails_from_at_most : Complete r → (i m : ℕ) → tails_from r i m ≤ m * r.denominator
  unfolding tails_from
  tails_from_at_most complete i m =
      omega (arith, sum_mono m {f = λ t. tail_numerator r (i + t)} {g = λ t. r.denominator} (λ t l. tail_at_most r complete (i + t)), sum_const m r.denominator)

  pub layer_at_most_one : Complete r → (i j : ℕ) → AtMost (layer_loss r i j) certainty
  unfolding layer_loss divided share certainty
  layer_at_most_one complete i j = omega (arith, tails_from_at_most complete i (layer_width i j))

  -- In the tails after c each default above c counts once, but no more than w of them do.
  tails_from_cut : (c w : ℕ) → tails_from r (suc c) w ≡ sum (suc r.assets) (λ X. r.numerator X * min (X - c) w)
  unfolding tails_from tail_numerator
  tails_from_cut c w =
      sum_cong w (λ t l. ap (λ k. sum_between k r.assets r.numerator) (suc-add c t)) ∙ sym (between_cut r.assets c w r.numerator)

  module _ (c j A B : ℕ) (lower : A * r.assets ≡ whole * c) (upper : B * r.assets ≡ whole * j) where
    layer_units_width : (B - A) * r.assets ≡ whole * (j - c)
    layer_units_width = mul_comm (B - A) r.assets ∙ mul-sub r.assets B A ∙ rw (mul_comm r.assets B, mul_comm r.assets A, upper, lower) (sym (mul-sub whole j c))

    -- Without recovery each default above c is lost as a whole.
    layer_units : (X : ℕ) → loss_units r.assets 0 A B X ≡ whole * min (X - c) (j - c)
    unfolding complement whole
    layer_units X = rw (loss_units_whole r.assets 0 A B X, layer_units_width, lower) (omega arith)

    layer_numerator : loss_numerator r 0 A B (suc r.assets) ≡ whole * tails_from r (suc c) (j - c)
    unfolding loss_numerator
    layer_numerator =
        sum_times (suc r.assets) whole _ (λ X. r.numerator X * min (X - c) (j - c)) (λ X l. rw (layer_units X) (omega arith))
        ∙ ap (λ z. whole * z) (sym (tails_from_cut c (j - c)))

  pub layer_tranche_wide : (i j A B : ℕ) → 1 ≤ i → i ≤ j → A * r.assets ≡ whole * (i - 1) → B * r.assets ≡ whole * j → 0 < (B - A) * r.assets
  unfolding whole
  layer_tranche_wide i j A B from order lower upper = omega (arith, layer_units_width (i - 1) j A B lower upper)

  -- Where the attachments come out whole, a layer loses what the tranche without recovery does that has them: from the share of i − 1 of the n assets to that of j.
  pub layer_tranche : (i j A B : ℕ) → 1 ≤ i → i ≤ j → A * r.assets ≡ whole * (i - 1) → B * r.assets ≡ whole * j → (wide : 0 < (B - A) * r.assets)
      → Same (layer_loss r i j) (expected_loss r 0 A B wide)
  unfolding layer_loss expected_loss divided share
  layer_tranche i j A B from order lower upper wide =
      let first : suc (i - 1) ≡ i = omega arith in
      let width : j - (i - 1) ≡ layer_width i j = omega arith in
      let total = tails_from r i (layer_width i j) in
      let numerator : loss_numerator r 0 A B (suc r.assets) ≡ whole * total = rw (first, width) at (layer_numerator (i - 1) j A B lower upper) in
      let tranche : (B - A) * r.assets ≡ whole * layer_width i j = rw width at (layer_units_width (i - 1) j A B lower upper) in
      record { cross = rw (numerator, tranche) (omega arith) }

  -- The layer of all defaults loses the mean number of them, over n.
  pub layer_of_all : (some : 0 < r.assets) → Same (layer_loss r 1 r.assets) (divided (mean r) r.assets some)
  unfolding layer_loss mean divided share tails_from tail_numerator
  layer_of_all some =
      let width : layer_width 1 r.assets ≡ r.assets = omega arith in
      let total : sum r.assets (λ t. tail_numerator r (1 + t)) ≡ sum (suc r.assets) (λ j. j * r.numerator j) =
      sum_cong r.assets (λ t l. rw (suc-add 0 t, zero-add t) refl) ∙ between_total r.assets r.numerator in
      record { cross = rw (width, total) refl }

  -- Where that mean is n × p, it loses p.
  pub layer_of_mean : (p : ℕ) → 0 < r.assets → Same (mean r) (over (r.assets * p) 1) → Same (layer_loss r 1 r.assets) (over p 1)
  unfolding divided over
  layer_of_mean p some mean_is = same_trans (layer_of_all some) (record { cross = omega (arith, mean_is.cross) })
