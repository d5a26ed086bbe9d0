-- The error calculus: what each step of the arithmetic adds to the distance from the exact value.
-- Assumes nothing.
use Rattle.std.specs.Prelude.{ℕ, suc, ◌+◌, ◌*◌, ◌-◌, ◌≤◌, ◌<◌, ◌≡◌, ℤ}
use Rattle.std.proofs.Common.{ap, inl, inr, eq-zero-or-pos, le_of_mul-le-mul_right, mul-le-mul, mul-le-mul_left, mul-le-mul_right, mul-pos, arith, lit<, lit≤}
use Rattle.std.proofs.Math.Decide.{dec_le}
use Rattle.std.proofs.Math.Nat.{sub-zero, sub-le-sub_left}
use Rattle.std.specs.Float.Ieee.{up, down}
use Rattle.std.specs.Float.Ieee.Digits.{back}
use Rattle.model.specs.Fraction.{Fraction, Same, AtMost, integer, over, plus, times, divided}
use Rattle.model.specs.Fraction.Laws.{same_sym, at_most_of_same, at_most_of_less, at_most_trans, plus_mono, times_mono, divided_mono}
use Rattle.kept.specs.declared.Kept.{Kept}
use Rattle.kept.specs.declared.Side.{Side}
use Rattle.kept.specs.declared.Side.TheVariants.{Low, High}
use Rattle.kept.specs.Rounding.{Normal, IsKept, scaled, value, increment, carry, round}
use Rattle.kept.specs.Rounding.{rounded_product, rounded_sum, rounded_quotient, of_integer, of_basis_points, of_ratio}
use Rattle.kept.specs.Rounding.Powers.{scaled_at_most}
use Rattle.kept.specs.Rounding.Leading.{Between, nought_same, carry_value, increment_at_most_one}
use Rattle.kept.specs.Rounding.Laws.{ratio_above, nought_kept, round_rounded, round_nought, by_leading}
use Rattle.kept.specs.Accuracy.{precision, AtMostParts, Near, Bound, BudgetFor}

pub precision_positive : 0 < precision
unfolding precision
precision_positive = lit< tt

-- ---- the relation AtMostParts

pub parts_of_at_most : {x y : Fraction} → AtMost x y → AtMostParts 0 x y
parts_of_at_most l = record { cross = rw sub-zero (mul-le-mul_right precision l.cross) }

pub at_most_of_parts : {x y : Fraction} → AtMostParts 0 x y → AtMost x y
at_most_of_parts l = record { cross = le_of_mul-le-mul_right (rw sub-zero at l.cross) precision_positive }

pub parts_weaken : {n m : ℕ} {x y : Fraction} → n ≤ m → AtMostParts n x y → AtMostParts m x y
parts_weaken {x} {y} l e = omega (arith, mul-le-mul_left (x.num * y.den) (sub-le-sub_left l precision))

-- (1 − n/b) × (1 − m/b) ≥ 1 − (n + m)/b
product_inequality : (b n m : ℕ) → b * (b - (n + m)) ≤ (b - n) * (b - m)
product_inequality b n m = elim (dec_le (n + m) b) [
  | yes l ↦
      let left : b - n ≡ b - (n + m) + m = omega arith in
      let right : b - m ≡ b - (n + m) + n = omega arith in
      rw (left, right) (omega (arith, ap (λ z. z * (b - (n + m))) (back b (n + m) l)))
  | no l ↦ let none : b - (n + m) ≡ 0 = omega arith in rw none (omega arith)
]

pub parts_transitive : {n m : ℕ} {x y z : Fraction} → AtMostParts n x y → AtMostParts m y z → AtMostParts (n + m) x z
parts_transitive {n} {m} {x} {y} {z} l k = record {
  cross =
      le_of_mul-le-mul_right {k = precision * y.den}
      (omega (
        arith,
        mul-le-mul_left (x.num * y.den * z.den) (product_inequality precision n m),
        mul-le-mul_right (z.den * (precision - m)) l.cross,
        mul-le-mul_right (x.den * precision) k.cross,
      ))
      (mul-pos precision_positive y.positive);
}

pub parts_plus : {n : ℕ} {x y v w : Fraction} → AtMostParts n x y → AtMostParts n v w → AtMostParts n (plus x v) (plus y w)
unfolding plus
parts_plus {x} {y} {v} {w} l k =
    omega (arith, mul-le-mul_right (v.den * w.den) l.cross, mul-le-mul_right (x.den * y.den) k.cross)

pub parts_times : {n m : ℕ} {x y v w : Fraction} → AtMostParts n x y → AtMostParts m v w → AtMostParts (n + m) (times x v) (times y w)
unfolding times
parts_times {n} {m} {x} {y} {v} {w} l k = record {
  cross =
      le_of_mul-le-mul_right {k = precision}
      (omega (arith, mul-le-mul_left (x.num * y.den * (v.num * w.den)) (product_inequality precision n m), mul-le-mul l.cross k.cross))
      precision_positive;
}

pub parts_divided : {n : ℕ} {x y : Fraction} (m : ℕ) (above : 0 < m) → AtMostParts n x y → AtMostParts n (divided x m above) (divided y m above)
unfolding divided
parts_divided m above l = omega (arith, mul-le-mul_right m l.cross)

-- ---- the relation Bound

pub bound_exact : {side : Side} {x : Kept} {v : Fraction} → IsKept x → Same (value x) v → Bound side 0 x v
bound_exact {side = Low} kept e = record { kept = kept; order = at_most_of_same e; near = parts_of_at_most (at_most_of_same (same_sym e)) }
bound_exact {side = High} kept e = record { kept = kept; order = at_most_of_same (same_sym e); near = parts_of_at_most (at_most_of_same e) }

pub bound_weaken : {side : Side} {n m : ℕ} {x : Kept} {v : Fraction} → n ≤ m → Bound side n x v → Bound side m x v
bound_weaken {side = Low} l b = record { kept = b.kept; order = b.order; near = parts_weaken l b.near }
bound_weaken {side = High} l b = record { kept = b.kept; order = b.order; near = parts_weaken l b.near }

pub bound_same : {side : Side} {n : ℕ} {x : Kept} {v w : Fraction} → Same v w → Bound side n x v → Bound side n x w
bound_same {side = Low} e b = record {
  kept = b.kept;
  order = at_most_trans b.order (at_most_of_same e);
  near = parts_weaken (omega arith) (parts_transitive (parts_of_at_most (at_most_of_same (same_sym e))) b.near);
}
bound_same {side = High} e b = record {
  kept = b.kept;
  order = at_most_trans (at_most_of_same (same_sym e)) b.order;
  near = parts_weaken (omega arith) (parts_transitive b.near (parts_of_at_most (at_most_of_same e)));
}

-- (s + 1) × 2^e against s × 2^e
parts_next : {s : ℕ} → Normal s → (e : ℤ) → AtMostParts 1 (scaled (suc s) e) (scaled s e)
unfolding precision scaled
parts_next normal e = omega (arith, mul-le-mul_right (up e * down e) normal.least)

parts_adjacent : {s : ℕ} {x y : Fraction} → Normal s → (e : ℤ) → AtMost x (scaled (suc s) e) → AtMost (scaled s e) y → AtMostParts 1 x y
parts_adjacent normal e l k = parts_transitive (parts_of_at_most l) (parts_transitive (parts_next normal e) (parts_of_at_most k))

parts_leading : (side : Side) (r : ℕ) {s : ℕ} {e : ℤ} {z : Fraction}
    → Normal s → Between s r e z → Near side 1 (value (carry (s + increment side r) e)) z
parts_leading Low r {s} {e} normal between =
    let digits : s ≤ s + increment Low r = omega arith in
    parts_adjacent normal e (at_most_of_less between.to) (at_most_trans (scaled_at_most e digits) (at_most_of_same (same_sym (carry_value _ e))))
parts_leading High r {s} {e} normal between =
    let digits : s + increment High r ≤ suc s = omega (arith, increment_at_most_one High r) in
    parts_adjacent normal e (at_most_trans (at_most_of_same (carry_value _ e)) (scaled_at_most e digits)) between.from

-- The relative error of one rounding.
round_near : (side : Side) (z : Fraction) → Near side 1 (value (round side z)) z
round_near side z = elim (eq-zero-or-pos z.num) [
  | inl zero ↦
      rw (round_nought side z zero) (bound_weaken {side = side} {n = 0} (lit≤ tt) (bound_exact nought_kept (nought_same z zero))).near
  | inr above ↦ by_leading (λ x. Near side 1 (value x) z) side z above (λ s r e. parts_leading side r)
]

pub bound_round : (side : Side) (z : Fraction) → Bound side 1 (round side z) z
bound_round side z = record { kept = (round_rounded side z).kept; order = (round_rounded side z).on_side; near = round_near side z }

pub bound_integer : (side : Side) (n : ℕ) → Bound side 1 (of_integer side n) (integer n)
unfolding of_integer
bound_integer side n = bound_round side (integer n)

pub bound_basis_points : (side : Side) (p : ℕ) → Bound side 1 (of_basis_points side p) (over p 1)
unfolding of_basis_points
bound_basis_points side p = bound_round side (over p 1)

pub bound_ratio : (side : Side) (n m : ℕ) (above : 0 < m) → Bound side 1 (of_ratio side n m) (divided (integer n) m above)
bound_ratio side n m above = rw (ratio_above side n m above) (bound_round side (divided (integer n) m above))

-- An operation that keeps the order, and takes relative errors of n and of m parts to k.
record Operation (n m k : ℕ) (f : Fraction → Fraction → Fraction) : Type 0 where
  order : {x y v w : Fraction} → AtMost x y → AtMost v w → AtMost (f x v) (f y w)
  near : {x y v w : Fraction} → AtMostParts n x y → AtMostParts m v w → AtMostParts k (f x v) (f y w)

-- Rounding its result costs one part more.
bound_operation :
    {side : Side} {n m k : ℕ} {f : Fraction → Fraction → Fraction} {x y : Kept} {v w : Fraction}
    → Operation n m k f → Bound side n x v → Bound side m y w → Bound side (k + 1) (round side (f (value x) (value y))) (f v w)
bound_operation {side = Low} law b c = record {
  kept = (round_rounded Low _).kept;
  order = at_most_trans (round_rounded Low _).on_side (law.order b.order c.order);
  near = parts_transitive (law.near b.near c.near) (round_near Low _);
}
bound_operation {side = High} law b c = record {
  kept = (round_rounded High _).kept;
  order = at_most_trans (law.order b.order c.order) (round_rounded High _).on_side;
  near = parts_weaken (omega arith) (parts_transitive (round_near High _) (law.near b.near c.near));
}

pub bound_product :
    {side : Side} {n m : ℕ} {x y : Kept} {v w : Fraction}
    → Bound side n x v → Bound side m y w → Bound side (n + m + 1) (rounded_product side x y) (times v w)
unfolding rounded_product
bound_product = bound_operation (record { order = times_mono; near = parts_times })

pub bound_sum :
    {side : Side} {n : ℕ} {x y : Kept} {v w : Fraction} → Bound side n x v → Bound side n y w → Bound side (n + 1) (rounded_sum side x y) (plus v w)
unfolding rounded_sum
bound_sum = bound_operation (record { order = plus_mono; near = parts_plus })

pub bound_quotient :
    {side : Side} {n : ℕ} {x : Kept} {v : Fraction} (m : ℕ) (above : 0 < m)
    → Bound side n x v → Bound side (n + 1) (rounded_quotient side x m above) (divided v m above)
unfolding rounded_quotient
bound_quotient m above b =
    let law : Operation _ _ _ (λ x y. divided x m above) = record { order = λ l k. divided_mono m above l; near = λ l k. parts_divided m above l } in
    bound_operation law b b

-- A budget of fewer parts is enough too.
pub budget_for_weaken : {g n m : ℕ} → n ≤ m → BudgetFor g m → BudgetFor g n
budget_for_weaken {g} l enough =
    let less = sub-le-sub_left l precision in
    record {
      positive = enough.positive;
      small = omega (arith, enough.small, mul-le-mul_left precision less, mul-le-mul_left g (mul-le-mul less less));
    }

-- The upper bound hi and the lower bound lo of v at n parts: g × (hi − lo) ≤ v, since hi ≤ v × b/c and v × c/b ≤ lo for b = 2^31 and c = b − n.
pub bound_distance :
    {n g : ℕ} {x y : Kept} {v : Fraction}
    → BudgetFor g n → Bound Low n x v → Bound High n y v → AtMost (times (integer g) (value y)) (plus v (times (integer g) (value x)))
unfolding times plus integer
bound_distance {n} {g} {x} {y} {v} enough low high =
    let lo : Fraction = value x in
    let hi : Fraction = value y in
    let b : ℕ = precision in
    let c : ℕ = precision - n in
    let common : ℕ = v.num * hi.den * lo.den in
    let upper : g * hi.num * (v.den * lo.den) * (b * c) ≤ common * (g * (b * b)) =
    omega (arith, mul-le-mul_left (g * lo.den * b) high.near.cross) in
    let lower : common * (b * c + g * (c * c)) ≤ (v.num * lo.den + g * lo.num * v.den) * hi.den * (b * c) =
    omega (arith, mul-le-mul_left (g * c * hi.den) low.near.cross) in
    elim (dec_le 1 c) [
      | yes above ↦ record {
        cross = le_of_mul-le-mul_right {k = b * c} (omega (arith, mul-le-mul_left common enough.small)) (mul-pos precision_positive above);
      }
      | no none ↦
          let empty : c ≡ 0 = omega arith in
          absurd (omega (arith, enough.positive, mul-le-mul_left g (mul-pos precision_positive precision_positive), rw empty at enough.small))
    ]
