-- What the answer to a loss says.
-- Assumes nothing.
use Rattle.std.specs.Prelude.{ℕ, suc, ◌*◌, ◌<◌, ◌≡◌, ◌⊎◌, false, eqb, negsuc, Float}
use Rattle.std.proofs.Math.Path.{refl}
use Rattle.std.proofs.Common.{inl, inr, mul-pos, mul-le-mul_right, le_of_mul-le-mul_right, arith, lit<, lit≤}
use Rattle.std.proofs.Math.Decide.{dec_le}
use borrow.Author.Tests.{lt-ltb, le-ltb, ne_eqb}
use Rattle.std.specs.Float.Ieee.Fits.{up_pos}
use Rattle.model.specs.Fraction.{Fraction, Same, AtMost, Less, integer, plus, times, certainty}
use Rattle.model.specs.Fraction.Laws.{same_refl, same_sym, same_trans, at_most_of_same, at_most_of_less, at_most_trans, at_most_less_trans}
use Rattle.kept.specs.declared.Kept.{Kept}
use Rattle.kept.specs.declared.Side.{Side}
use Rattle.kept.specs.declared.Side.TheVariants.{Low, High}
use Rattle.kept.specs.Rounding.{Normal, IsKept, OnSide, scaled, value, nought}
use Rattle.kept.specs.Rounding.Powers.{scaled_shift}
use Rattle.kept.specs.Binary64.{least_shown, below_shown, to_binary64, IsBinary64, Shown, exact_value}
use Rattle.kept.specs.Binary64.Laws.{shown_binary64, exact_value_lem}
use Rattle.steps.specs.Enclosure.{Enclosed}
use Rattle.steps.specs.Loss.{LossAnswer, untouched, faint, shown, kept_least_shown, raised_to_shown, loss_answer, carried, Says}

-- ---- 2^−800 as a kept number

least_shown_kept : IsKept kept_least_shown
unfolding kept_least_shown
least_shown_kept = record { form = inr (record { least = lit≤ tt; below = lit< tt }) }

pub least_shown_value : Same (value kept_least_shown) least_shown
unfolding kept_least_shown least_shown
least_shown_value = same_sym (scaled_shift 1 (negsuc 830) 31 refl)

less_or_not : (x y : Fraction) → Less x y ⊎ AtMost y x
less_or_not x y = elim (dec_le (y.num * x.den) (x.num * y.den)) [ yes l ↦ inr (record { cross = l }) | no l ↦ inl (omega arith) ]

-- The greater of the two: at or above both, and one of them.
pub raised_greater : (x : Kept)
    → (AtMost (value x) (value (raised_to_shown x)))
    × (AtMost least_shown (value (raised_to_shown x)))
    × ((raised_to_shown x ≡ x) ⊎ (raised_to_shown x ≡ kept_least_shown))
unfolding raised_to_shown below_shown
raised_greater x = elim (less_or_not (value x) least_shown) [
  | inl below ↦
      let least : AtMost least_shown (value kept_least_shown) = at_most_of_same (same_sym least_shown_value) in
      rw (lt-ltb _ _ below.cross) (at_most_trans (at_most_of_less below) least, least, inr refl)
  | inr least ↦ rw (le-ltb _ _ least.cross) (omega arith, least, inl refl)
]

-- ---- when each answer is given

pub answer_untouched : (low high : Kept) → high ≡ nought → loss_answer low high ≡ untouched
unfolding loss_answer nought
answer_untouched low high is = rw is refl

module _ (low high : Kept) (kept : IsKept high) (not : high ≡ nought → ⊥) where
  tests_not_zero : eqb high.significand 0 ≡ false
  tests_not_zero = ne_eqb high.significand 0 (λ none. elim kept.form [ inl is ↦ not is | inr normal ↦ omega arith ])

  pub answer_faint : Less (value low) least_shown → loss_answer low high ≡ faint (to_binary64 (raised_to_shown high))
  unfolding loss_answer below_shown
  answer_faint below = rw (tests_not_zero, lt-ltb _ _ below.cross) refl

  pub answer_shown : AtMost least_shown (value low) → loss_answer low high ≡ shown (to_binary64 low) (to_binary64 high)
  unfolding loss_answer below_shown
  answer_shown least = rw (tests_not_zero, le-ltb _ _ least.cross) refl

-- ---- what it says

-- A kept number from 2^−800 to two can be shown as an f64.
pub shown_to_two : {x : Kept} → IsKept x → AtMost least_shown (value x) → AtMost (value x) (integer 2) → Shown x
unfolding integer scaled
shown_to_two kept least most = record { kept = kept; least = least; below = at_most_less_trans most (record { cross = lit< tt }) }

least_to_two : AtMost (value kept_least_shown) (integer 2)
unfolding kept_least_shown scaled integer
least_to_two = record { cross = lit≤ tt }

pub raised_shown : {x : Kept} → IsKept x → AtMost (value x) (integer 2) → Shown (raised_to_shown x)
raised_shown {x} kept most =
    let least = (raised_greater x).1 in
    elim (raised_greater x).2 [
      | inl is ↦ rw is (shown_to_two kept (rw is at least) most)
      | inr is ↦ rw is (shown_to_two least_shown_kept (rw is at least) least_to_two)
    ]

-- g × high ≤ v + g × low ≤ (1 + g) × v ≤ 2 × g
pub high_to_two : {g : ℕ} {low high : Kept} {v : Fraction} → 0 < g → Enclosed g low high v → AtMost v certainty → AtMost (value high) (integer 2)
unfolding integer certainty plus times
high_to_two {g} {low} {high} {v} positive enclosed most =
    let m = (value low).den in
    let k = (value high).den in
    record {
      cross =
          le_of_mul-le-mul_right {k = g * v.den * m}
          (omega (
            arith,
            enclosed.distance.cross,
            mul-le-mul_right (g * k) enclosed.from_below.cross,
            mul-le-mul_right (m * k * suc g) most.cross,
            mul-le-mul_right (v.den * m * k) positive,
          ))
          (mul-pos (mul-pos positive v.positive) (value low).positive);
    }

-- What it says, of an exact loss of at most one between two bounds.
pub answer_says : {g : ℕ} {low high : Kept} {v : Fraction} → 0 < g → IsKept low → IsKept high → Enclosed g low high v → AtMost v certainty
    → Says g low high v (loss_answer low high)
unfolding integer nought scaled
answer_says {g} {low} {high} {v} positive kept_low kept_high enclosed most = elim kept_high.form [
  | inl is ↦
      let exact_zero : v.num ≡ 0 = omega (arith, (rw is at enclosed.from_above).cross) in
      rw (answer_untouched low high is) (record { high_zero = is; low_zero = (enclosed.of_zero exact_zero).0; exact_zero = omega arith })
  | inr normal ↦
      let not : high ≡ nought → ⊥ = λ is. omega (arith, (rw is at normal).least) in
      let high_most = high_to_two positive enclosed most in
      let order = at_most_trans enclosed.from_below enclosed.from_above in
      elim (less_or_not (value low) least_shown) [
        | inl below ↦ rw (answer_faint low high kept_high not below) (record {
          low_below = below;
          high_not_zero = not;
          is = shown_binary64 (raised_shown kept_high high_most);
          from_exact = at_most_trans enclosed.from_above (raised_greater high).0;
          from_least = (raised_greater high).1;
        })
        | inr least ↦ rw (answer_shown low high kept_high not least) (record {
          low_not_below = least;
          high_not_zero = not;
          lower_is = shown_binary64 (shown_to_two kept_low least (at_most_trans order high_most));
          upper_is = shown_binary64 (shown_to_two kept_high (at_most_trans least order) high_most);
          enclosed = enclosed;
        })
      ]
]

-- The f64 of a kept number has its value.
binary64_value : {x : Kept} {r : Float} → IsBinary64 x r → Same (exact_value r) (value x)
binary64_value {x} {r} is = exact_value_lem r (value x) is.exact

-- A kept number that is not zero is above it.
normal_above : (x : Kept) → Normal x.significand → Less (integer 0) (value x)
unfolding integer scaled
normal_above x normal =
    let some : 0 < x.significand = omega (arith, normal.least) in
    record { cross = omega (arith, mul-pos some (up_pos x.exponent)) }

-- A faint loss whose high bound is below 2^−800 carries that number.
pub record RaisedNumber (high : Kept) (number : Fraction) : Type 0 where
  pub above : Less (integer 0) (value high)
  pub below : AtMost (value high) least_shown
  pub number_is : Same number least_shown

-- Otherwise the number that an answer carries on the high side is the high bound.
pub answer_high : (low : Kept) {high : Kept} → IsKept high → AtMost (value low) (value high) → AtMost (value high) (integer 2)
    → Same (carried High (loss_answer low high)) (value high) ⊎ RaisedNumber high (carried High (loss_answer low high))
unfolding carried integer nought scaled
answer_high low {high = high} kept order most = elim kept.form [
  | inl is ↦ inl (rw (answer_untouched low high is, is) (record { cross = refl }))
  | inr normal ↦
      let not : high ≡ nought → ⊥ = λ is. omega (arith, (rw is at normal).least) in
      elim (less_or_not (value low) least_shown) [
        | inl below ↦ rw (answer_faint low high kept not below) (faint_high normal)
        | inr least ↦
            rw (answer_shown low high kept not least) (inl (binary64_value (shown_binary64 (shown_to_two kept (at_most_trans least order) most))))
      ]
]
  where
    faint_high : Normal high.significand
        → Same (exact_value (to_binary64 (raised_to_shown high))) (value high) ⊎ RaisedNumber high (exact_value (to_binary64 (raised_to_shown high)))
    faint_high normal =
        let is : Same (exact_value (to_binary64 (raised_to_shown high))) (value (raised_to_shown high)) = binary64_value (shown_binary64 (raised_shown kept most)) in
        elim (raised_greater high).2 [
          | inl same ↦ inl (same_trans is (rw same same_refl))
          | inr raised ↦ inr (record {
            above = normal_above high normal;
            below = at_most_trans (raised_greater high).0 (rw raised (at_most_of_same least_shown_value));
            number_is = same_trans is (rw raised least_shown_value);
          })
        ]

-- The number that it carries on a side is on that side of the exact loss.
pub answer_carries : (side : Side) (g : ℕ) (low high : Kept) (v : Fraction) (answer : LossAnswer) → Says g low high v answer → OnSide side (carried side answer) v
unfolding carried integer
answer_carries Low g low high v untouched says = record { cross = omega arith }
answer_carries High g low high v untouched says = at_most_of_same says.exact_zero
answer_carries Low g low high v (faint number) says = record { cross = omega arith }
answer_carries High g low high v (faint number) says = at_most_trans says.from_exact (at_most_of_same (same_sym (binary64_value says.is)))
answer_carries Low g low high v (shown lower upper) says = at_most_trans (at_most_of_same (binary64_value says.lower_is)) says.enclosed.from_below
answer_carries High g low high v (shown lower upper) says = at_most_trans says.enclosed.from_above (at_most_of_same (same_sym (binary64_value says.upper_is)))
