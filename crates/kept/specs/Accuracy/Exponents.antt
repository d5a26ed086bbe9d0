-- The exponent of a kept number, from the exact value that it bounds.
-- Assumes nothing.
use Rattle.std.specs.Prelude.{ℕ, suc, ◌+◌, ◌*◌, ◌^◌, ◌≤◌, ◌<◌, ℤ, pos, negsuc, ◌≤ℤ◌}
use Rattle.std.proofs.Common.{inl, inr, lt_of_not-le, le_of_mul-le-mul_right, mul-le-mul_left, mul-le-mul_right, mul-lt-mul_of_pos_right, mul-pos, arith, lit≤, le→leb, pow-add, pow_mono, pow_pos}
use Rattle.std.proofs.Math.Nat.{pow-succ'}
use Rattle.model.specs.Fraction.{Fraction}
use Rattle.kept.specs.declared.Kept.{Kept}
use Rattle.kept.specs.declared.Side.{Side}
use Rattle.kept.specs.declared.Side.TheVariants.{Low, High}
use Rattle.kept.specs.Rounding.{Normal, nought, scaled, value}
use Rattle.kept.specs.Rounding.Laws.{normal_positive}
use Rattle.kept.specs.Accuracy.{precision, AtMostParts, Bound}
use Rattle.kept.specs.Accuracy.Laws.{parts_of_at_most, parts_weaken}

-- x ≤ y × 2: half of the parts.
abbrev Twice : Fraction → Fraction → Type 0
Twice x y = AtMostParts (2 ^ 30) x y

bound_twice : {side : Side} {b : ℕ} {x : Kept} {v : Fraction} → b * 2 ≤ precision → Bound side b x v → Twice (value x) v × Twice v (value x)
unfolding precision
bound_twice {side = Low} parts bound = (parts_weaken (lit≤ tt) (parts_of_at_most bound.order), parts_weaken (omega arith) bound.near)
bound_twice {side = High} parts bound = (parts_weaken (omega arith) bound.near, parts_weaken (lit≤ tt) (parts_of_at_most bound.order))

-- A number between half and twice the value.
exponent_twice : {s : ℕ} → Normal s → (e : ℤ) {v : Fraction} → Twice (scaled s e) v → Twice v (scaled s e)
    → (m c : ℕ) → v.den ≤ 2 ^ m → v.num ≤ v.den * 2 ^ c → (negsuc (m + 31) ≤ℤ e) × (e ≤ℤ pos c)
unfolding precision scaled
exponent_twice {s} n (pos k) {v} low high m c den num =
    let most : s * 2 ^ k ≤ 2 ^ suc c =
    le_of_mul-le-mul_right {k = v.den} (rw (pow-succ' 2 c) (omega (arith, low.cross, num))) v.positive in
    let below : k < suc c = lt_of_not-le (λ l. omega (arith, most, pow_mono l, mul-le-mul_right (2 ^ k) n.least, pow_pos k)) in
    (record { le = tt }, record { le = le→leb k c (omega arith) })
exponent_twice {s} n (negsuc k) {v} low high m c den num =
    let some : 0 < v.num =
    lt_of_not-le (λ none. omega (arith, low.cross, mul-le-mul_right (2 ^ suc k) none, mul-pos (normal_positive n) v.positive)) in
    let least : 2 ^ suc k ≤ s * 2 ^ m * 2 = omega (arith, high.cross, mul-le-mul_right (2 ^ suc k) some, mul-le-mul_left s den) in
    let above : k < m + 32 =
    lt_of_not-le (λ l. omega (arith, least, pow_mono l, pow-succ' 2 k, pow-add 2 m 32, mul-lt-mul_of_pos_right n.below (pow_pos m))) in
    (record { le = le→leb k (m + 31) (omega arith) }, record { le = tt })

-- The value is at most 2^c, over a denominator of at most 2^m, and the number is within half of the parts.
pub bound_exponent : {side : Side} {b : ℕ} {x : Kept} {v : Fraction} → Bound side b x v → b * 2 ≤ precision
    → (m c : ℕ) → v.den ≤ 2 ^ m → v.num ≤ v.den * 2 ^ c
    → (negsuc (m + 31) ≤ℤ x.exponent) × (x.exponent ≤ℤ pos c)
unfolding nought
bound_exponent {x} bound parts m c den num = elim bound.kept.form [
  | inl is ↦ rw is (record { le = tt }, record { le = le→leb 0 c (omega arith) })
  | inr normal ↦ let twice = bound_twice parts bound in exponent_twice normal x.exponent twice.0 twice.1 m c den num
]
