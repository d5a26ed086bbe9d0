-- That an exponent is in its range, and what a number with such an exponent can be used for.
-- Assumes nothing.
use Rattle.std.specs.Prelude.{ℕ, ◌*◌, ◌^◌, ◌≤◌, ℤ, pos, negsuc, nat_abs, ◌≤ℤ◌}
use Rattle.std.proofs.Common.{arith, le_trans, mul-le-mul_left, lit≤, leb→le, pow_mono}
use Rattle.model.specs.Fraction.{Fraction, integer}
use Rattle.kept.specs.declared.Kept.{Kept}
use Rattle.kept.specs.declared.Side.{Side}
use Rattle.kept.specs.Rounding.{Operand, of_integer}
use Rattle.kept.specs.Accuracy.{precision, Bound}
use Rattle.kept.specs.Accuracy.Laws.{bound_integer}
use Rattle.kept.specs.Accuracy.Exponents.{bound_exponent}
use Rattle.steps.specs.Exponents.{Ranged}

-- A number close to an exact value of at most 2^c over a denominator of at most 2^m.
pub bound_ranged : {side : Side} {b : ℕ} {x : Kept} {v : Fraction} → Bound side b x v
    → (m c : ℕ) → v.den ≤ 2 ^ m → v.num ≤ v.den * 2 ^ c → (b * 2 ≤ precision) × (m ≤ 79968) × (c ≤ 100) → Ranged x
bound_ranged {v} bound m c den num small =
    let num_most = le_trans num (mul-le-mul_left v.den (pow_mono small.2)) in
    let exponent = bound_exponent bound small.0 79968 100 (le_trans den (pow_mono small.1)) num_most in
    record { kept = bound.kept; least = exponent.0; most = exponent.1 }

-- What the methods of kept numbers ask for.
pub ranged_operand : {x : Kept} → Ranged x → Operand x
ranged_operand {x} r = record { kept = r.kept; reach = record { within = within x.exponent r.least r.most } }
  where
    within : (e : ℤ) → negsuc 79999 ≤ℤ e → e ≤ℤ pos 100 → nat_abs e ≤ 1000000000
    within (pos k) least most = omega (arith, leb→le k 100 most.le)
    within (negsuc k) least most = omega (arith, leb→le k 79999 least.le)

pub integer_ranged : (side : Side) (x c : ℕ) → x ≤ 2 ^ c → c ≤ 100 → Ranged (of_integer side x)
unfolding integer precision
integer_ranged side x c num values = bound_ranged (bound_integer side x) 0 c (lit≤ tt) (omega arith) (omega arith)

-- x ≤ y, with y times 2^0 for y.
pub unscaled : {x y : ℕ} → x ≤ y → x ≤ y * 2 ^ 0
unscaled l = omega arith
