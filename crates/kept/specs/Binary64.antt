-- The f64 of a kept number: which kept numbers are shown as one, which value it is, and its bits.
-- Assumes nothing.
use Rattle.std.specs.Prelude.{ℕ, ◌-◌, ◌*◌, ◌/◌, ◌%◌, ◌^◌, ◌<◌, ◌≡◌, Bool, true, false, cond, eqb, ltb, ℤ, pos, negsuc, ◌+ℤ◌, Float}
use Rattle.std.specs.Float.Ieee as Ieee
use Rattle.std.specs.Float.{nan, inf, fin, binary64}
use Rattle.std.specs.Float.Ieee.{to_bits}
use Rattle.std.specs.Float.Ieee.Exact.{HasValue}
use Rattle.model.specs.Fraction.{Fraction, AtMost, Less, integer}
use Rattle.kept.specs.declared.Kept.{Kept}
use Rattle.kept.specs.Rounding.{IsKept, scaled, value}
pub mod Laws

-- 2^−800, the least value that is shown.
unfoldable pub least_shown : Fraction
least_shown = scaled 1 (negsuc 799)

-- Whether x is below the least value that is shown, by cross products.
unfoldable pub below_shown : Kept → Bool
below_shown x = ltb ((value x).num * least_shown.den) (least_shown.num * (value x).den)

-- A kept number that can be shown: from 2^−800 to below 2^224.
pub record Shown (x : Kept) : Type 0 where
  pub kept : IsKept x
  pub least : AtMost least_shown (value x)
  pub below : Less (value x) (scaled 1 (pos 224))

-- The value of x rounded to binary64.
unfoldable pub to_binary64 : Kept → Float
to_binary64 x = Ieee.round binary64 false (value x).num (value x).den

-- r is x as an f64. Nothing is lost by rounding the value of x, and the 64 bits are the sign 0, the exponent field e + 1054 and the
-- fraction field (s − 2^31) × 2^21.
pub record IsBinary64 (x : Kept) (r : Float) : Type 0 where
  pub is : r ≡ to_binary64 x
  pub exact : HasValue r false (value x).num (value x).den
  pub sign : to_bits binary64 r / 2 ^ 63 ≡ 0
  pub exponent_field : pos (to_bits binary64 r / 2 ^ 52 % 2 ^ 11) ≡ x.exponent +ℤ pos 1054
  pub fraction_field : to_bits binary64 r % 2 ^ 52 ≡ (x.significand - 2 ^ 31) * 2 ^ 21

-- The exact value of a finite f64 that is not below zero: significand × 2^exponent. Zero stands for that of any other; the f64 of a kept number is none of these, by
-- `IsBinary64.exact`.
unfoldable pub exact_value : Float → Fraction
exact_value (fin false s e) = scaled s e
exact_value (fin true s e) = integer 0
exact_value (inf sign) = integer 0
exact_value nan = integer 0

-- ---- for the functions that `to_f64` is made of

-- 2^e is 2^−831 doubled n times, with n below 1024.
pub record Doublings (e : ℤ) (n : ℕ) : Type 0 where
  pub is : pos n ≡ e +ℤ pos 831
  pub below : n < 1024

-- An exponent from −831 to 192, as a number that is shown has.
pub record ShownExponent (e : ℤ) : Type 0 where
  pub n : ℕ
  pub doublings : Doublings e n

-- x × power where the binary digit is one, x where it is zero.
unfoldable pub scaled_by : Float → ℕ → Float → Float
scaled_by x digit power = cond (eqb digit 1) (Ieee.mul binary64 x power) x
