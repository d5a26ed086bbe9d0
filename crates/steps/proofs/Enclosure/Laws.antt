-- Two bounds of one value enclose it.
-- Assumes nothing.
use Rattle.std.specs.Prelude.{ℕ, ◌*◌, ◌<◌, ◌≡◌}
use Rattle.std.proofs.Common.{ap, arith}
use Rattle.std.proofs.Math.Nat.{eq_of_mul-eq-mul_left}
use Rattle.model.specs.Fraction.{Fraction, AtMost, integer, plus, times}
use Rattle.model.specs.Fraction.Laws.{same_sym}
use Rattle.kept.specs.declared.Kept.{Kept}
use Rattle.kept.specs.declared.Side.{Side}
use Rattle.kept.specs.declared.Side.TheVariants.{Low, High}
use Rattle.kept.specs.Rounding.{IsKept, value, nought}
use Rattle.kept.specs.Rounding.Leading.{nought_same}
use Rattle.kept.specs.Rounding.Laws.{kept_unique, nought_kept}
use Rattle.kept.specs.Accuracy.{Bound, BudgetFor}
use Rattle.kept.specs.Accuracy.Laws.{bound_distance}
use Rattle.steps.specs.Enclosure.{Enclosed}

mul_zero_right : {g x : ℕ} → 0 < g → g * x ≡ 0 → x ≡ 0
mul_zero_right {g} {x} positive none = eq_of_mul-eq-mul_left g positive x 0 (omega arith)

-- A kept number of value zero is zero.
kept_of_zero : {x : Kept} → IsKept x → (value x).num ≡ 0 → x ≡ nought
kept_of_zero {x} kept none = kept_unique kept nought_kept (same_sym (nought_same (value x) none))

at_most_zero : {x y : Fraction} → AtMost x y → y.num ≡ 0 → x.num ≡ 0
at_most_zero {x} {y} l none = mul_zero_right y.positive (omega (arith, l.cross, ap (λ z. z * x.den) none))

pub bound_enclosed : {g b : ℕ} {x : Side → Kept} {v : Fraction} → BudgetFor g b → ((side : Side) → Bound side b (x side) v)
    → Enclosed g (x Low) (x High) v
unfolding times plus integer
bound_enclosed {g} {x} {v} fine near =
    let apart = bound_distance fine (near Low) (near High) in
    let low_zero : v.num ≡ 0 → (value (x Low)).num ≡ 0 = at_most_zero (near Low).order in
    let high_zero : v.num ≡ 0 → (value (x High)).num ≡ 0 = λ none.
    mul_zero_right fine.positive
    (at_most_zero apart (omega (arith, ap (λ z. z * (value (x Low)).den) none, ap (λ z. g * z * v.den) (low_zero none)))) in
    record {
      from_below = (near Low).order;
      from_above = (near High).order;
      distance = apart;
      of_zero = λ none. (kept_of_zero (near Low).kept (low_zero none), kept_of_zero (near High).kept (high_zero none));
    }
