-- The test of a claimed row is what it stands for, and is made in half units; what an answer means; rows behind the last play no part; which claims pass, and how far
-- one that passes may be off.
-- Assumes nothing.
use Prim.Native.Nat.{ℕ, zero, suc, ◌+◌, ◌-◌, ◌*◌, ◌≤◌, ◌<◌}
use Rattle.std.specs.Prelude.{◌≡◌, Bool, true, false, cond, ◌&&◌, List, leb, get_or, take}
use Rattle.std.proofs.Math.Path.{refl}
use Rattle.std.proofs.Common.{sym, ap, ◌∙◌, true≢false, zero-add, mul-le-mul_left, mul-le-mul_right, le_of_mul-le-mul_right, lt_of_not-le, arith, get_or-take}
use Rattle.std.proofs.Math.Decide.{dec_le}
use Rattle.model.specs.Fraction.{Fraction, AtMost, at_most, certainty, integer, plus, minus, times}
use Rattle.model.specs.Fraction.Laws.{at_most_true, true_at_most, at_most_by, at_most_of_same, at_most_of_less, at_most_refl, at_most_trans}
use Rattle.model.specs.Fraction.Laws.{plus_mono, plus_more, plus_comm, minus_covers, minus_from, minus_to}
use Rattle.kept.specs.declared.Kept.{Kept}
use Rattle.kept.specs.declared.Side.{Side}
use Rattle.kept.specs.declared.Side.TheVariants.{Low, High}
use Rattle.kept.specs.Rounding.{value}
use Rattle.kept.specs.Whole.{whole_of}
use Rattle.kept.specs.Whole.Laws.{whole_is, whole_at_most}
use Rattle.steps.specs.Column.{units_of_certainty, exact_units, half, to_nearest, AtMostApart}
use Rattle.steps.proofs.Column.Laws.{units_order, nearest_more_than}
use Rattle.steps.specs.Enclosure.{Enclosed}
use Rattle.steps.specs.Claims.{Passes, passes, first_to_fail, refusal_in, row_passes, RowPasses, verdict_on, verdict_after, Means, VerdictAnswer, refused_by, all_pass, fails_at}

-- ---- the test of a row

both : (a b : Bool) → (a && b) ≡ true → (a ≡ true) × (b ≡ true)
both true b e = (refl, e)
both false b e = absurd (true≢false (sym e))

units_sum : (x y : Fraction) → AtMost (exact_units (plus x y)) (plus (exact_units x) (exact_units y))
unfolding exact_units times plus integer
units_sum x y = omega arith

moved : (x y z : Fraction) → AtMost (plus (plus x y) z) (plus x (plus z y))
unfolding plus
moved x y z = omega arith

regrouped : (x y z : Fraction) → AtMost (plus (plus x y) z) (plus x (plus y z))
unfolding plus
regrouped x y z = omega arith

integers_order : {a b : ℕ} → a ≤ b → AtMost (integer a) (integer b)
unfolding integer
integers_order l = omega arith

-- A number between the bounds: the low one where the claim is not above it by more than one half, and else the claim less one half.
pub test_passes : {low high : Kept} {claim : ℕ} → AtMost (value low) (value high) → passes low high claim ≡ true → Passes low high claim
unfolding passes
test_passes {low} {high} {claim} order test =
    let x : Fraction = exact_units (value low) in
    let y : Fraction = integer claim in
    let tests = both (at_most x (plus y half)) (at_most y (plus (exact_units (value high)) half)) test in
    let least : AtMost x (plus y half) = at_most_true tests.0 in
    let most : AtMost y (plus (exact_units (value high)) half) = at_most_true tests.1 in
    elim (dec_le (y.num * (plus x half).den) ((plus x half).num * y.den)) [
      | yes l ↦ record {
        number = x;
        from_low = at_most_refl;
        to_high = units_order order;
        near = record { not_above = record { cross = l }; not_below = least };
      }
      | no l ↦ record {
        number = minus y half;
        from_low = minus_from half (at_most_of_less (record { cross = lt_of_not-le l }));
        to_high = minus_to half most;
        near = record {
          not_above = at_most_trans (minus_covers y half) (at_most_of_same (plus_comm half (minus y half)));
          not_below = minus_to half (at_most_trans (plus_more y half) (plus_more (plus y half) half));
        };
      }
    ]

pub passes_test : {low high : Kept} {claim : ℕ} → Passes low high claim → passes low high claim ≡ true
unfolding passes
passes_test p =
    rw (
      true_at_most (at_most_trans p.from_low p.near.not_below),
      true_at_most (at_most_trans p.near.not_above (plus_mono p.to_high at_most_refl)),
    ) refl

-- In half units.
abbrev halves : Kept → Fraction
halves x = times (integer (2 * units_of_certainty)) (value x)

least_claimed : (low : Kept) (claim : ℕ) → leb (whole_of High (halves low)) (2 * claim + 1) ≡ at_most (exact_units (value low)) (plus (integer claim) half)
unfolding exact_units times plus integer half
least_claimed low claim =
    at_most_by (whole_of High (halves low)) (2 * claim + 1)
    (λ l.
    let most : AtMost (integer (whole_of High (halves low))) (integer (2 * claim + 1)) = record { cross = omega arith } in
    record { cross = omega (arith, (at_most_trans (whole_is High (halves low)).on_side most).cross) })
    (λ l. whole_at_most High {x = halves low} {n = 2 * claim + 1} (record { cross = omega (arith, l.cross) }))

most_claimed : (high : Kept) (claim : ℕ) → leb (2 * claim) (whole_of Low (halves high) + 1) ≡ at_most (integer claim) (plus (exact_units (value high)) half)
unfolding exact_units times plus integer half
most_claimed high claim =
    at_most_by (2 * claim) (whole_of Low (halves high) + 1)
    (λ l. record { cross = omega (arith, mul-le-mul_right (value high).den l, (whole_is Low (halves high)).on_side.cross) })
    (λ l. back claim l.cross)
  where
    back : (claim : ℕ) → claim * (1 * (value high).den * 2) ≤ (units_of_certainty * (value high).num * 2 + 1 * (1 * (value high).den)) * 1
        → 2 * claim ≤ whole_of Low (halves high) + 1
    back zero l = omega arith
    back (suc m) l = omega (arith, (whole_is Low (halves high)).best (2 * m + 1) (record { cross = omega arith }))

-- 200,000 × low, rounded up, is at most 2 × claim + 1, and 2 × claim at most one more than 200,000 × high, rounded down.
pub passes_halves : (low high : Kept) (claim : ℕ)
    → (leb (whole_of High (halves low)) (2 * claim + 1) && leb (2 * claim) (whole_of Low (halves high) + 1)) ≡ passes low high claim
unfolding passes
passes_halves low high claim = rw (least_claimed low claim, most_claimed high claim) refl

-- ---- the first row to fail

-- What is first among the rows from one on, up to another.
abbrev First : (test : ℕ → Bool) (start end : ℕ) → VerdictAnswer → Type 0
First test start end (refused_by number) = ⊥
First test start end all_pass = (i : ℕ) → start ≤ i → i < end → test i ≡ true
First test start end (fails_at k) = (k < end) × (test k ≡ false) × ((i : ℕ) → start ≤ i → i < k → test i ≡ true)

module _ (test : ℕ → Bool) where
  passed_one : (k : ℕ) → test k ≡ true → {end : ℕ} → ((i : ℕ) → suc k ≤ i → i < end → test i ≡ true) → (i : ℕ) → k ≤ i → i < end → test i ≡ true
  passed_one k passed later i l m = elim (dec_le (suc k) i) [
    | yes more ↦ later i more m
    | no more ↦ let is : i ≡ k = omega arith in rw is passed
  ]

  first_earlier : (k end : ℕ) → test k ≡ true → (v : VerdictAnswer) → First test (suc k) end v → First test k end v
  first_earlier k end passed (refused_by number) first = first
  first_earlier k end passed all_pass first = passed_one k passed first
  first_earlier k end passed (fails_at j) first = (first.0, first.1, passed_one k passed first.2)

  -- By whether row k passes, from what is first after it.
  first_after : (rows k : ℕ) (v : VerdictAnswer) → First test (suc k) (suc k + rows) v → (t : Bool) → test k ≡ t → First test k (k + suc rows) (cond t v (fails_at k))
  first_after rows k v later true passed =
      let one_more : suc k + rows ≡ k + suc rows = omega arith in
      first_earlier k (k + suc rows) passed v (rw one_more at later)
  first_after rows k v later false failed = (omega arith, failed, λ i l m. absurd (omega arith))

  first_is : (rows k : ℕ) → First test k (k + rows) (first_to_fail test rows k)
  unfolding first_to_fail
  first_is zero k = λ i l m. absurd (omega arith)
  first_is (suc rows) k = first_after rows k (first_to_fail test rows (suc k)) (first_is rows (suc k)) (test k) refl

  -- Where every row passes, none fails.
  none_fails : (end : ℕ) → ((i : ℕ) → i < end → test i ≡ true) → (v : VerdictAnswer) → First test 0 end v → v ≡ all_pass
  none_fails end every (refused_by number) first = absurd first
  none_fails end every all_pass first = refl
  none_fails end every (fails_at k) first = absurd (true≢false (sym (every k first.0) ∙ first.1))

-- Tests that agree on the rows have the same first.
first_same : {test other : ℕ → Bool} (rows k : ℕ) → ((i : ℕ) → i < k + rows → test i ≡ other i) → first_to_fail test rows k ≡ first_to_fail other rows k
unfolding first_to_fail
first_same zero k agree = refl
first_same (suc rows) k agree = rw (agree k (omega arith), first_same rows (suc k) (λ i l. agree i (omega arith))) refl

-- ---- the answer

module _ (n : ℕ) (c : Side → ℕ → Kept) (claims : List ℕ) where
  first_on : First (row_passes c claims) 0 (suc n) (verdict_on n c claims)
  unfolding verdict_on
  first_on = rw (zero-add (suc n)) at (first_is (row_passes c claims) (suc n) 0)

  pub verdict_refused : (refusal : ℕ) → (refusal ≡ 0 → ⊥) → refused_by refusal ≡ verdict_after n c claims refusal
  unfolding verdict_after
  verdict_refused zero some = absurd (some refl)
  verdict_refused (suc refusal) some = refl

  no_refusal : (v : VerdictAnswer) → First (row_passes c claims) 0 (suc n) v → refusal_in v ≡ 0
  unfolding refusal_in
  no_refusal (refused_by number) first = absurd first
  no_refusal all_pass first = refl
  no_refusal (fails_at k) first = refl

  -- The verdict on claimed rows is no refusal.
  pub verdict_number : refusal_in (verdict_on n c claims) ≡ 0
  verdict_number = no_refusal (verdict_on n c claims) first_on

  module _ (order : (k : ℕ) → k ≤ n → AtMost (value (c Low k)) (value (c High k))) where
    first_means : (v : VerdictAnswer) → First (row_passes c claims) 0 (suc n) v → Means n c claims 0 v
    first_means (refused_by number) first = absurd first
    first_means all_pass first = record { none = refl; every = λ k l. test_passes (order k l) (first k (omega arith) (omega arith)) }
    first_means (fails_at k) first = record {
      none = refl;
      within = omega (arith, first.0);
      fails = λ passed. true≢false (sym (passes_test passed) ∙ first.1);
      before = λ i l. test_passes (order i (omega (arith, first.0))) (first.2 i (omega arith) l);
    }

    -- What the answer means where no ground refuses.
    pub verdict_means : Means n c claims 0 (verdict_on n c claims)
    verdict_means = first_means (verdict_on n c claims) first_on

  -- A column each of whose rows passes.
  pub every_passes : ((k : ℕ) → k ≤ n → RowPasses c claims k) → verdict_on n c claims ≡ all_pass
  every_passes every = none_fails (row_passes c claims) (suc n) (λ i l. passes_test (every i (omega arith))) (verdict_on n c claims) first_on

-- Rows behind the last play no part.
pub verdict_alone : (n : ℕ) (c : Side → ℕ → Kept) (claims other : List ℕ) → take (suc n) claims ≡ take (suc n) other → (refusal : ℕ)
    → verdict_after n c claims refusal ≡ verdict_after n c other refusal
unfolding verdict_after verdict_on
verdict_alone n c claims other alike zero = first_same (suc n) 0 (λ i l. ap (passes (c Low i) (c High i)) (claimed i (omega arith)))
  where
    claimed : (i : ℕ) → i < suc n → get_or claims i 0 ≡ get_or other i 0
    claimed i l = sym (get_or-take (suc n) claims i 0 l) ∙ ap (λ (l : List ℕ). get_or l i 0) alike ∙ get_or-take (suc n) other i 0 l
verdict_alone n c claims other alike (suc refusal) = refl

-- ---- against the exact chance v, which the bounds enclose

module _ {low high : Kept} {v : Fraction} {claim : ℕ} (from_below : AtMost (value low) v) (from_above : AtMost v (value high)) where
  -- A claim at most half a unit off.
  pub near_passes : AtMostApart half (integer claim) (exact_units v) → Passes low high claim
  near_passes near = record { number = exact_units v; from_low = units_order from_below; to_high = units_order from_above; near = near }

  -- One that passes is at most half a unit off, and what the bounds are apart in units.
  pub passed_near : Passes low high claim → AtMostApart (plus half (exact_units (minus (value high) (value low)))) (integer claim) (exact_units v)
  passed_near passed =
      let w : Fraction = exact_units (minus (value high) (value low)) in
      let wide : AtMost (exact_units (value high)) (plus (exact_units (value low)) w) = at_most_trans (units_order (minus_covers (value high) (value low))) (units_sum (value low) _) in
      record {
        not_above =
            at_most_trans passed.near.not_above
            (at_most_trans (plus_mono (at_most_trans passed.to_high (at_most_trans wide (plus_mono (units_order from_below) at_most_refl))) at_most_refl)
            (moved (exact_units v) w half));
        not_below =
            at_most_trans (units_order from_above)
            (at_most_trans wide
            (at_most_trans (plus_mono (at_most_trans passed.from_low passed.near.not_below) at_most_refl) (regrouped (integer claim) half w)));
      }

-- What the bounds of a value of at most one are apart, in units: one part in g of it is m units where m × g is 100,000.
pub width_units : {g : ℕ} {low high : Kept} {v : Fraction} (m : ℕ) → m * g ≡ units_of_certainty → Enclosed g low high v → AtMost v certainty
    → AtMost (exact_units (minus (value high) (value low))) (integer m)
unfolding exact_units times plus minus integer certainty
width_units {g} {low} {high} {v} m is enclosed most =
    let x : Fraction = value high in
    let y : Fraction = value low in
    let more : ℕ = x.num * y.den - y.num * x.den in
    let few : g * more ≤ x.den * y.den = elim (dec_le (y.num * x.den) (x.num * y.den)) [
      | yes l ↦
          let all : more + y.num * x.den ≡ x.num * y.den = omega arith in
          le_of_mul-le-mul_right {k = v.den}
          (omega (arith, enclosed.distance.cross, ap (λ n. g * n * v.den) all, mul-le-mul_right (x.den * y.den) most.cross))
          v.positive
      | no l ↦
          let none : more ≡ 0 = omega arith in
          rw none (omega arith)
    ] in
    record { cross = rw (← is) (omega (arith, mul-le-mul_left m few)) }

-- ---- rounding to nearest

-- It is at most one half off, whichever way what is half way goes.
pub nearest_near : (side : Side) (x : Fraction) → AtMostApart half (integer (to_nearest side x)) x
unfolding to_nearest
nearest_near High x = record { not_above = (whole_is Low (plus x half)).on_side; not_below = at_most_of_less (nearest_more_than x) }
nearest_near Low x =
    let less : AtMost (minus x half) (integer (whole_of Low (plus x half))) = minus_to half (at_most_of_less (nearest_more_than x)) in
    record {
      not_above = at_most_trans (integers_order (whole_at_most High less)) (whole_is Low (plus x half)).on_side;
      not_below = at_most_trans (minus_covers x half) (at_most_trans (plus_mono at_most_refl (whole_is High (minus x half)).on_side) (at_most_of_same (plus_comm half _)));
    }
