-- Kept numbers, and the one definition of rounding.
-- Assumes nothing.
use Rattle.std.specs.Prelude.{ℕ, zero, suc, ◌+◌, ◌-◌, ◌*◌, ◌/◌, ◌%◌, ◌^◌, ◌≤◌, ◌<◌, ◌≡◌, ◌⊎◌, cond, eqb, ℤ, pos, negsuc, nat_abs, ◌+ℤ◌}
use Rattle.std.proofs.Common.{zero-lt-suc}
use Rattle.std.specs.Float.Ieee.{up, down, minus, size}
use Rattle.std.specs.Float.Ieee.Fits.{down_pos}
use Rattle.model.specs.Fraction.{Fraction, AtMost, plus, times, divided, integer, over}
use Rattle.kept.specs.declared.Kept.{Kept}
use Rattle.kept.specs.declared.Side.{Side}
use Rattle.kept.specs.declared.Side.TheVariants.{Low, High}
pub mod Exponents
pub mod Powers
pub mod Leading
pub mod Laws
pub mod Words
pub mod Arithmetic
pub mod Sums

-- s × 2^e
unfoldable pub scaled : ℕ → ℤ → Fraction
scaled s e = record { num = s * up e; den = down e; positive = down_pos e }

-- What a kept number stands for: significand × 2^exponent.
abbrev pub value : Kept → Fraction
value x = scaled x.significand x.exponent

-- Zero: 0 × 2^0.
unfoldable pub nought : Kept
nought = record { significand = 0; exponent = pos 0 }

-- One: 2^31 × 2^−31.
unfoldable pub unity : Kept
unity = record { significand = 2 ^ 31; exponent = negsuc 30 }

-- The significand of a kept number that is not zero has exactly 32 binary digits.
pub record Normal (s : ℕ) : Type 0 where
  pub least : 2 ^ 31 ≤ s
  pub below : s < 2 ^ 32

-- A kept number (the scope paper's term) is zero, written 0 × 2^0, or s × 2^e with s from 2^31 to 2^32 − 1.
pub record IsKept (x : Kept) : Type 0 where
  pub form : (x ≡ nought) ⊎ Normal x.significand

-- The exponent e is from −n to n.
pub record Reach (n : ℕ) (e : ℤ) : Type 0 where
  pub within : nat_abs e ≤ n

-- What the methods take: a kept number whose exponent is from −1,000,000,000 to 1,000,000,000, so that no sum of two exponents leaves an i32.
pub record Operand (x : Kept) : Type 0 where
  pub kept : IsKept x
  pub reach : Reach 1000000000 x.exponent

-- What is added to the leading digits, r being what was dropped below them: one on the high side where that is not zero.
unfoldable pub increment : Side → ℕ → ℕ
increment Low r = 0
increment High zero = 0
increment High (suc r) = 1

-- s × 2^e with s zero or from 2^31 to 2^32. Zero has the exponent 0, and 2^32 becomes 2^31 with the exponent one more.
unfoldable pub carry : ℕ → ℤ → Kept
carry s e =
    cond (eqb s 0) nought
    (cond (eqb s (2 ^ 32)) (record { significand = 2 ^ 31; exponent = e +ℤ pos 1 }) (record { significand = s; exponent = e }))

-- A fraction rounded to a kept number. It is n / den × 2^−a, and a is so large that n / den has 33 binary digits before the point, or more, unless
-- it is zero. Of these the leading 32 stay; b are dropped.
unfoldable pub round : Side → Fraction → Kept
round side z =
    let a = 32 + size z.den in
    let n = z.num * 2 ^ a in
    let b = size (n / z.den) - 32 in
    let u = z.den * 2 ^ b in
    carry (n / u + increment side (n % u)) (minus b a)

-- On the low side x is not above z, on the high side not below it.
abbrev pub OnSide : Side → Fraction → Fraction → Type 0
OnSide Low x z = AtMost x z
OnSide High x z = AtMost z x

-- x is the greatest kept number not above z on the low side, and the least not below it on the high side.
pub record Rounded (side : Side) (z : Fraction) (x : Kept) : Type 0 where
  pub kept : IsKept x
  pub on_side : OnSide side (value x) z
  pub best : (y : Kept) → IsKept y → OnSide side (value y) z → OnSide side (value y) (value x)

-- Each step of the arithmetic is exact, then rounded once.
unfoldable pub rounded_product : Side → Kept → Kept → Kept
rounded_product side x y = round side (times (value x) (value y))

unfoldable pub rounded_sum : Side → Kept → Kept → Kept
rounded_sum side x y = round side (plus (value x) (value y))

unfoldable pub rounded_quotient : Side → Kept → (m : ℕ) → 0 < m → Kept
rounded_quotient side x m above = round side (divided (value x) m above)

unfoldable pub of_integer : Side → ℕ → Kept
of_integer side n = round side (integer n)

unfoldable pub of_basis_points : Side → ℕ → Kept
of_basis_points side p = round side (over p 1)

-- n / m. There is no quotient by zero, and nothing divides by it: zero stands in its place.
unfoldable pub of_ratio : Side → (n m : ℕ) → Kept
of_ratio side n zero = nought
of_ratio side n (suc m) = round side (divided (integer n) (suc m) (zero-lt-suc m))
