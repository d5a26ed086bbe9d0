-- Fractions in whole numbers, and basis points.
-- Assumes nothing.
use Rattle.std.specs.Prelude.{ℕ, zero, suc, ◌+◌, ◌*◌, ◌-◌, ◌^◌, ◌≤◌, ◌<◌, ◌≡◌, Bool, leb}
use Rattle.std.proofs.Common.{mul-pos, lt-suc_self, lit<}
use Rattle.std.proofs.Math.Nat.{one-le-pow, le_step}
pub mod Laws

-- A whole numerator over a whole denominator above zero. A fraction is never reduced: two are compared by cross products.
pub record Fraction : Type 0 where
  pub num : ℕ
  pub den : ℕ
  pub positive : 0 < den

-- x = y
pub record Same (x y : Fraction) : Type 0 where
  pub cross : x.num * y.den ≡ y.num * x.den

-- x ≤ y
pub record AtMost (x y : Fraction) : Type 0 where
  pub cross : x.num * y.den ≤ y.num * x.den

-- Whether x ≤ y.
unfoldable pub at_most : (x y : Fraction) → Bool
at_most x y = leb (x.num * y.den) (y.num * x.den)

-- x < y
pub record Less (x y : Fraction) : Type 0 where
  pub cross : x.num * y.den < y.num * x.den

-- A whole number.
unfoldable pub integer : ℕ → Fraction
integer n = record { num = n; den = 1; positive = lit< tt }

-- One.
unfoldable pub certainty : Fraction
certainty = record { num = 1; den = 1; positive = lit< tt }

-- x + y
unfoldable pub plus : Fraction → Fraction → Fraction
plus x y = record {
  num = x.num * y.den + y.num * x.den;
  den = x.den * y.den;
  positive = mul-pos x.positive y.positive;
}

-- x − y, and zero where y is the greater.
unfoldable pub minus : Fraction → Fraction → Fraction
minus x y = record {
  num = x.num * y.den - y.num * x.den;
  den = x.den * y.den;
  positive = mul-pos x.positive y.positive;
}

-- x × y
unfoldable pub times : Fraction → Fraction → Fraction
times x y = record {
  num = x.num * y.num;
  den = x.den * y.den;
  positive = mul-pos x.positive y.positive;
}

-- x / m
unfoldable pub divided : Fraction → (m : ℕ) → 0 < m → Fraction
divided x m above = record { num = x.num; den = x.den * m; positive = mul-pos x.positive above }

-- The sum of the first m terms: f 0 + f 1 + … + f (m − 1). A term may rest on its place being below m.
unfoldable pub fraction_sum : (m : ℕ) → ((i : ℕ) → i < m → Fraction) → Fraction
fraction_sum zero f = integer 0
fraction_sum (suc m) f = plus (fraction_sum m (λ i l. f i (le_step l))) (f m (lt-suc_self m))

-- One in basis points.
unfoldable pub whole : ℕ
whole = 10000

-- 1 − x, for x in basis points.
unfoldable pub complement : ℕ → ℕ
complement x = whole - x

pub whole_power_positive : (t : ℕ) → 0 < whole ^ t
unfolding whole
whole_power_positive t = one-le-pow t whole (lit< tt)

-- n / 10,000^t
unfoldable pub over : ℕ → ℕ → Fraction
over n t = record { num = n; den = whole ^ t; positive = whole_power_positive t }
