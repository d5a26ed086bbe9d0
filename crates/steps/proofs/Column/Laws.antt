-- The laws of the printed tail, and the column that follows from them alone, for a row of chances in general.
-- Assumes nothing.
use Prim.Native.Nat.{ℕ, zero, suc, ◌+◌, ◌*◌, ◌-◌, ◌/◌, ◌≤◌, ◌<◌}
use Rattle.std.specs.Prelude.{◌≡◌, refl}
use Rattle.std.proofs.Common.{ap, le_refl, le_trans, mul-pos, add-one}
use Rattle.std.proofs.Math.Decide.{dec_le}
use Rattle.std.proofs.Math.Nat.{add-div_right, div-div-eq-div-mul, lt_of_mul-lt-mul_right, mul-le-mul_right, mul-lt-mul_of_pos_right, sub_self}
use native.Mathlib.Omega.{arith}
use Rattle.model.specs.Number.{sum}
use Rattle.model.specs.Fraction.{Fraction, Same, AtMost, Less, certainty, integer, plus, times}
use Rattle.model.specs.Fraction.Laws.{same_sym, at_most_of_same, at_most_refl, at_most_trans, less_at_most_trans, plus_mono, plus_more, times_mono}
use Rattle.model.specs.Chances.{Chances, Complete, share, chance, tail}
use Rattle.model.proofs.Chances.Laws.{tail_next, tail_at_zero, tail_at_most_one}
use Rattle.kept.specs.declared.Kept.{Kept}
use Rattle.kept.specs.declared.Side.{Side}
use Rattle.kept.specs.declared.Side.TheVariants.{Low, High}
use Rattle.kept.specs.Rounding.{IsKept, scaled, value, nought}
use Rattle.kept.specs.Rounding.Laws.{nought_kept, sum_is}
use Rattle.kept.specs.Whole.{whole_of}
use Rattle.kept.specs.Whole.Laws.{whole_is, whole_next, whole_mono}
use Rattle.kept.specs.Accuracy.{precision}
use Rattle.kept.specs.Accuracy.Laws.{precision_positive}
use Rattle.steps.specs.Budgets.{Bounded, tail_budget}
use Rattle.steps.specs.Chances.{kept_total, kept_tail}
use Rattle.steps.proofs.Chances.Laws.{tail_bound}
use Rattle.steps.specs.Column.{units_of_certainty, exact_units, half, to_nearest, in_units, printed_tail, printed_row, PrintsTails, Within, PrintsColumn}

-- Printed tails that do not grow are never above 100,000.
pub printed_at_most : (n : ℕ) (c : ℕ → Kept) → ((k : ℕ) → printed_tail n c (suc k) ≤ printed_tail n c k) → (k : ℕ) → printed_tail n c k ≤ units_of_certainty
unfolding printed_tail
printed_at_most n c falls zero = le_refl units_of_certainty
printed_at_most n c falls (suc k) = le_trans (falls k) (printed_at_most n c falls k)

-- ---- the column

rows_total : {t : ℕ → ℕ} (rows : ℕ → ℕ) → ((k : ℕ) → rows k + t (suc k) ≡ t k) → (m : ℕ) → sum m rows + t m ≡ t 0
unfolding sum
rows_total rows difference zero = omega arith
rows_total rows difference (suc m) = omega (arith, difference m, rows_total rows difference m)

row_near :
    {above below : Fraction} {r : Chances} {t : ℕ → ℕ} → PrintsTails above below r t
    → (row k : ℕ) → row + t (suc k) ≡ t k → k ≤ r.assets → Within (plus above below) (integer row) (exact_units (chance r k))
unfolding plus times integer exact_units chance tail share
row_near {above} {below} {r} {t} p row k rows l =
    let m : ℕ = below.den in
    let of_rows = ap (λ z. z * (r.denominator * above.den * m)) rows in
    let of_tails = ap (λ z. units_of_certainty * z * (above.den * m)) (tail_next r l) in
    record {
      not_above = omega (arith, mul-le-mul_right m (p.at_most k).cross, mul-lt-mul_of_pos_right (p.more_than (suc k)).cross above.positive);
      not_below = omega (arith, mul-le-mul_right m (p.at_most (suc k)).cross, mul-lt-mul_of_pos_right (p.more_than k).cross above.positive);
    }

-- The column of any printed tails: its rows are the differences of two of them.
pub printed_column : {above below : Fraction} {r : Chances} (c : ℕ → Kept) → PrintsTails above below r (printed_tail r.assets c)
    → PrintsColumn (plus above below) r (printed_tail r.assets c) (printed_row r.assets c)
unfolding printed_row
printed_column {r} c p =
    let rows = printed_row r.assets c in
    let difference : (k : ℕ) → rows k + printed_tail r.assets c (suc k) ≡ printed_tail r.assets c k = λ k. omega (arith, p.falls k) in
    record {
      difference = difference;
      last = omega (arith, difference r.assets, p.past);
      total = omega (arith, p.past, p.at_zero, rows_total rows difference (suc r.assets));
      near = λ k. row_near p (rows k) k (difference k);
    }

-- A wider distance.
pub within_weaken : {off off' x y : Fraction} → AtMost off off' → Within off x y → Within off' x y
within_weaken l within = record {
  not_above = less_at_most_trans within.not_above (plus_mono at_most_refl l);
  not_below = less_at_most_trans within.not_below (plus_mono at_most_refl l);
}

pub column_weaken : {off off' : Fraction} {r : Chances} {t rows : ℕ → ℕ} → AtMost off off' → PrintsColumn off r t rows → PrintsColumn off' r t rows
column_weaken l c = record {
  difference = c.difference;
  last = c.last;
  total = c.total;
  near = λ k in_row. within_weaken l (c.near k in_row);
}

-- ---- units

pub units_order : {x y : Fraction} → AtMost x y → AtMost (exact_units x) (exact_units y)
unfolding exact_units
units_order l = times_mono at_most_refl l

units_certainty : Same (exact_units certainty) (integer units_of_certainty)
unfolding exact_units times integer certainty
units_certainty = omega arith

-- x in whole units is not above x in units and one half, and one unit more is above that.
pub in_units_at_most : (x : Kept) → AtMost (integer (in_units x)) (plus (exact_units (value x)) half)
unfolding in_units to_nearest
in_units_at_most x = (whole_is Low (plus (exact_units (value x)) half)).on_side

pub in_units_next : (x : Kept) → Less (plus (exact_units (value x)) half) (integer (suc (in_units x)))
unfolding in_units to_nearest
in_units_next x = whole_next (plus (exact_units (value x)) half)

-- To nearest with what is half way up is less than one half below.
pub nearest_more_than : (x : Fraction) → Less x (plus (integer (to_nearest High x)) half)
unfolding to_nearest plus integer half
nearest_more_than x = record { cross = omega (arith, (whole_next (plus x half)).cross) }

in_units_more_than : (x : Kept) → Less (exact_units (value x)) (plus (integer (in_units x)) half)
unfolding in_units
in_units_more_than x = nearest_more_than (exact_units (value x))

-- Of a greater number it is no smaller.
in_units_order : (x y : Kept) → AtMost (value x) (value y) → in_units x ≤ in_units y
unfolding in_units to_nearest
in_units_order x y le = whole_mono Low (plus_mono (units_order le) at_most_refl)

in_units_nought : in_units nought ≡ 0
unfolding in_units to_nearest exact_units units_of_certainty plus half times integer nought scaled whole_of
in_units_nought = refl

-- By half units: so many of them rounded down, and one more, halved.
pub in_units_halves : (x : Kept) → in_units x ≡ (whole_of Low (times (integer (2 * units_of_certainty)) (value x)) + 1) / 2
unfolding in_units to_nearest exact_units plus half times integer whole_of
in_units_halves x =
    let d : ℕ = 1 * (value x).den in
    let halves : ℕ = 2 * units_of_certainty * (value x).num in
    let same : units_of_certainty * (value x).num * 2 + 1 * d ≡ halves + d = omega arith in
    let positive : 0 < d = omega (arith, (value x).positive) in
    rw (same, ← div-div-eq-div-mul (halves + d) d 2, add-div_right halves positive, add-one (halves / d)) refl

-- ---- low tails

low_total_kept : (f : ℕ → Kept) (m : ℕ) → IsKept (kept_total Low f m)
unfolding kept_total
low_total_kept f zero = nought_kept
low_total_kept f (suc m) = (sum_is Low (kept_total Low f m) (f m)).kept

-- One more summand does not lower a low total, since that is a kept number itself.
low_total_grows : (f : ℕ → Kept) (m : ℕ) → AtMost (value (kept_total Low f m)) (value (kept_total Low f (suc m)))
unfolding kept_total
low_total_grows f m =
    let x : Kept = kept_total Low f m in
    (sum_is Low x (f m)).best x (low_total_kept f m) (plus_more (value x) (value (f m)))

low_tail_falls : (n : ℕ) (c : ℕ → Kept) (k : ℕ) → AtMost (value (kept_tail Low n c (suc k))) (value (kept_tail Low n c k))
unfolding kept_tail
low_tail_falls n c k =
    let m : ℕ = suc n - suc k in
    elim (dec_le k n) [
      | yes l ↦ let one_more : suc n - k ≡ suc m = omega arith in rw one_more (low_total_grows (λ i. c (n - i)) m)
      | no l ↦ let as_many : suc n - k ≡ m = omega arith in rw as_many at_most_refl
    ]

module _ {b : ℕ} {r : Chances} {c : Side → ℕ → Kept} (bounded : Bounded b r c) (complete : Complete r) where
  abbrev low_tail : ℕ → Kept
  low_tail = kept_tail Low r.assets (c Low)

  low_falls : (k : ℕ) → in_units (low_tail (suc k)) ≤ in_units (low_tail k)
  low_falls k = in_units_order (low_tail (suc k)) (low_tail k) (low_tail_falls r.assets (c Low) k)

  low_at_most : (k : ℕ) → AtMost (integer (in_units (low_tail k))) (plus (exact_units (tail r k)) half)
  low_at_most k = at_most_trans (in_units_at_most (low_tail k)) (plus_mono (units_order (tail_bound bounded Low k).order) at_most_refl)

  -- Half a unit above 100,000 is no whole number.
  low_at_most_one : (k : ℕ) → in_units (low_tail k) ≤ units_of_certainty
  low_at_most_one k =
      let exact = at_most_trans (units_order (tail_at_most_one r complete k)) (at_most_of_same units_certainty) in
      let most = at_most_trans (low_at_most k) (plus_mono exact at_most_refl) in
      unfold plus integer half in omega (arith, most.cross)

  -- The printed tails do not grow.
  pub printed_falls : (k : ℕ) → printed_tail r.assets (c Low) (suc k) ≤ printed_tail r.assets (c Low) k
  unfolding printed_tail
  printed_falls zero = low_at_most_one 1
  printed_falls (suc j) = low_falls (suc j)

  -- The tails of low chances that are b away, to nearest: less than half a unit is lost by that, and 100,000 × budget / 2^31 units by the low tail.
  pub printed_tails : {below : Fraction} → (precision + 2 * (units_of_certainty * tail_budget r.assets b)) * below.den ≤ 2 * (below.num * precision)
      → PrintsTails half below r (printed_tail r.assets (c Low))
  unfolding printed_tail
  printed_tails {below} slack = record {
    falls = printed_falls;
    at_most = λ k. elim k as (λ k. AtMost (integer (printed_tail r.assets (c Low) k)) (plus (exact_units (tail r k)) half)) [ zero ↦ at_most_trans at_zero (plus_more (exact_units (tail r 0)) half) | suc j ↦ low_at_most (suc j) ];
    more_than = λ k. elim k as (λ k. Less (exact_units (tail r k)) (plus (integer (printed_tail r.assets (c Low) k)) below)) [
      | zero ↦ less_at_most_trans (more_than 0) (plus_mono as_certain at_most_refl)
      | suc j ↦ more_than (suc j)
    ];
    at_zero = refl;
    at_most_certain = printed_at_most r.assets (c Low) printed_falls;
    past = unfold kept_tail kept_total in (rw sub_self in_units_nought);
  }
    where
      at_zero : AtMost (integer units_of_certainty) (exact_units (tail r 0))
      at_zero = at_most_trans (at_most_of_same (same_sym units_certainty)) (units_order (at_most_of_same (same_sym (tail_at_zero r complete))))

      as_certain : AtMost (integer (in_units (low_tail 0))) (integer units_of_certainty)
      as_certain = unfold integer in omega (arith, low_at_most_one 0)

      more_than : (k : ℕ) → Less (exact_units (tail r k)) (plus (integer (in_units (low_tail k))) below)
      more_than k =
          let U : ℕ = units_of_certainty in
          let B : ℕ = precision in
          let N : ℕ = tail_budget r.assets b in
          let x : Kept = low_tail k in
          let v : Fraction = tail r k in
          let d : ℕ = (value x).den in
          let parts : B ≤ B - N + N = omega arith in
          unfold exact_units times plus integer half certainty in
          let exact : 2 * (U * v.num) * B < (2 * (in_units x * B) + B + 2 * (U * N)) * v.den =
          lt_of_mul-lt-mul_right d
          (omega (
            arith,
            mul-lt-mul_of_pos_right (in_units_more_than x).cross (mul-pos v.positive precision_positive),
            mul-le-mul_right (2 * U) (tail_bound bounded Low k).near.cross,
            mul-le-mul_right (2 * U * d * N) (tail_at_most_one r complete k).cross,
            mul-le-mul_right (2 * U * v.num * d) parts,
          )) in
          let raised = mul-lt-mul_of_pos_right exact below.positive in
          record { cross = lt_of_mul-lt-mul_right B (omega (arith, mul-le-mul_right v.den slack)) }
