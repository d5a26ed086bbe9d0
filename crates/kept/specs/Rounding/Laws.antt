-- What rounding is: the greatest kept number not above, or the least not below. All else follows from that.
-- Assumes nothing.
use Prim.Native.Nat.{ℕ, zero, suc, ◌+◌, ◌-◌, ◌*◌, ◌/◌, ◌%◌, ◌^◌, ◌≤◌, ◌<◌}
use Rattle.std.specs.Prelude.{◌≡◌, ◌⊎◌, ℤ, pos, ◌+ℤ◌, ◌-ℤ◌}
use Rattle.std.proofs.Math.Path.{refl}
use Rattle.std.proofs.Common.{sym, ap, ap₂, inl, inr, eq-zero-or-pos, zero-mul, mul-le-mul_left, mul-le-mul_right, mul-pos, le-div_iff_mul-le, arith, lit<, lit≤, pow-add, pow_pos, shl_lt}
use Rattle.std.proofs.Math.Nat.{zero-div, zero-mod, pow-succ', div-div-eq-div-mul, eq_of_mul-eq-mul_right}
use Rattle.std.proofs.Math.IntN.{ -ℤ-+ℤ_cancel}
use Rattle.std.specs.Float.Ieee.{up, down, minus, size}
use Rattle.std.specs.Float.Ieee.Fits.{up_pos, down_pos, kept-lt}
use Rattle.std.specs.Float.Ieee.Digits.{minus_val, size-lt, size-le, size_reaches}
use Rattle.model.specs.Fraction.{Fraction, Same, AtMost, certainty, plus, times, divided, integer, over}
use Rattle.model.specs.Fraction.Laws.{same_refl, same_sym, same_trans, at_most_trans, at_most_of_same, at_most_antisymm}
use Rattle.kept.specs.declared.Kept.{Kept}
use Rattle.kept.specs.declared.Side.{Side}
use Rattle.kept.specs.declared.Side.TheVariants.{Low, High}
use Rattle.kept.specs.Rounding.{scaled, value, nought, unity, Normal, IsKept, OnSide, Rounded, increment, carry, round}
use Rattle.kept.specs.Rounding.{rounded_product, rounded_sum, rounded_quotient, of_integer, of_basis_points, of_ratio}
use Rattle.kept.specs.Rounding.Powers.{power_below, scaled_shift, exponents}
use Rattle.kept.specs.Rounding.Leading.{Between, between_same, between_quotient, nought_same, nought_at, side_same, rounded_leading}

-- ---- the parts of a kept number

pub normal_positive : {s : ℕ} → Normal s → 0 < s
normal_positive n = omega arith

pub kept_below : {x : Kept} → IsKept x → x.significand < 2 ^ 32
unfolding nought
kept_below {x} kept = elim kept.form [ inl is ↦ rw is (lit< tt) | inr normal ↦ normal.below ]

pub kept_normal : {x : Kept} → IsKept x → (x.significand ≡ 0 → ⊥) → Normal x.significand
unfolding nought
kept_normal {x} kept not = elim kept.form [ inl is ↦ absurd (not (ap (λ y. y.significand) is)) | inr normal ↦ normal ]

-- ---- a value has one kept number

scaled_factor : (s t : ℕ) (e : ℤ) → Same (scaled s e) (scaled t e) → s ≡ t
unfolding scaled
scaled_factor s t e same =
    eq_of_mul-eq-mul_right (up e * down e) (mul-pos (up_pos e) (down_pos e)) s t (omega (arith, same.cross))

not_nought : {s : ℕ} → Normal s → (e : ℤ) → Same (value nought) (scaled s e) → ⊥
not_nought {s} normal e same = omega (arith, scaled_factor 0 s e (same_trans (same_sym (nought_at 0 e refl)) same))

-- A kept number that is a multiple of a higher power of two has another value.
higher_differs : {s t : ℕ} → Normal s → Normal t → (e f : ℤ) (k : ℕ) → f ≡ e +ℤ pos (suc k) → Same (scaled s e) (scaled t f) → ⊥
higher_differs {s} {t} n m e f k is same =
    let equal : s ≡ t * 2 ^ suc k = scaled_factor s (t * 2 ^ suc k) e (same_trans same (scaled_shift t e (suc k) is)) in
    omega (arith, rw pow-succ' at equal, mul-le-mul_left t (pow_pos k))

pub kept_unique : {x y : Kept} → IsKept x → IsKept y → Same (value x) (value y) → x ≡ y
kept_unique {x} {y} k l = by_forms k.form l.form
  where
    by_forms : (x ≡ nought) ⊎ Normal x.significand → (y ≡ nought) ⊎ Normal y.significand → Same (value x) (value y) → x ≡ y
    by_forms (inl is) (inl js) same = cc
    by_forms (inl is) (inr m) same = absurd (not_nought m y.exponent (rw is at same))
    by_forms (inr n) (inl js) same = absurd (not_nought n x.exponent (same_sym (rw js at same)))
    by_forms (inr n) (inr m) same = elim (exponents x.exponent y.exponent) [
      | inl is ↦
          let equal : x.significand ≡ y.significand = scaled_factor x.significand y.significand x.exponent (rw is at same) in
          ap₂ (λ s e. record { significand = s; exponent = e }) equal (sym is)
      | inr (inl (k, is)) ↦ absurd (higher_differs n m x.exponent y.exponent k is same)
      | inr (inr (k, is)) ↦ absurd (higher_differs m n y.exponent x.exponent k is (same_sym same))
    ]

-- ---- the leading digits of a fraction

-- With n = num × 2^a and u = den × 2^b, z is n / u × 2^(b − a).
between_cut : (z : Fraction) (a b : ℕ) → Between (z.num * 2 ^ a / (z.den * 2 ^ b)) (z.num * 2 ^ a % (z.den * 2 ^ b)) (minus b a) z
unfolding scaled divided
between_cut z a b =
    between_same (omega (arith, ap (λ k. z.num * z.den * k) (minus_val 1 b a)))
    (between_quotient (z.num * 2 ^ a) (z.den * 2 ^ b) (mul-pos z.positive (pow_pos b)) (minus b a))

-- How far `round` scales z up makes the whole part 33 digits at least; so cut to 32 it is a significand.
module _ (z : Fraction) (above : 0 < z.num) where
  abbrev a : ℕ
  a = 32 + size z.den

  abbrev q : ℕ
  q = z.num * 2 ^ a / z.den

  digits_many : 32 < size q
  digits_many =
      let positive = mul-le-mul_right (2 ^ size z.den) above in
      let least : 2 ^ 32 ≤ q = (le-div_iff_mul-le z.positive).1 (rw (pow-add 2 32 (size z.den)) (omega (arith, size-lt z.den))) in
      power_below 32 (size q) least (size-lt q)

  normal_leading : Normal (z.num * 2 ^ a / (z.den * 2 ^ (size q - 32)))
  normal_leading =
      let b = size q - 32 in
      let many = digits_many in
      rw (← div-div-eq-div-mul (z.num * 2 ^ a) z.den (2 ^ b))
      (record {
        least = (le-div_iff_mul-le (pow_pos b)).1 (rw (← pow-add 2 31 b) (size_reaches q (31 + b) (omega arith)));
        below = kept-lt 32 q;
      })

-- ---- rounding

side_of_same : (side : Side) {x y : Fraction} → Same x y → OnSide side x y
side_of_same Low same = at_most_of_same same
side_of_same High same = at_most_of_same (same_sym same)

side_antisymm : (side : Side) (x y : Fraction) → OnSide side x y → OnSide side y x → Same x y
side_antisymm Low x y l m = at_most_antisymm l m
side_antisymm High x y l m = at_most_antisymm m l

rounded_exact : (side : Side) {z : Fraction} {x : Kept} → IsKept x → Same (value x) z → Rounded side z x
rounded_exact side kept same = record {
  kept = kept;
  on_side = side_of_same side same;
  best = λ y _ on. side_same side (same_refl {x = value y}) (same_sym same) on;
}

pub nought_kept : IsKept nought
nought_kept = record { form = inl refl }

pub unity_kept : IsKept unity
unfolding unity
unity_kept = record { form = inr (record { least = lit≤ tt; below = lit< tt }) }

pub unity_value : Same (value unity) certainty
unfolding unity certainty scaled
unity_value = record { cross = refl }

-- A number above zero is rounded from its leading digits.
pub by_leading : (P : Kept → Type 0) (side : Side) (z : Fraction) → 0 < z.num
    → ((s r : ℕ) (e : ℤ) → Normal s → Between s r e z → P (carry (s + increment side r) e)) → P (round side z)
unfolding round
by_leading P side z above from =
    from _ _ _ (normal_leading z above) (between_cut z (a z above) (size (q z above) - 32))

pub increment_none : (side : Side) → increment side 0 ≡ 0
unfolding increment
increment_none Low = refl
increment_none High = refl

pub round_nought : (side : Side) (z : Fraction) → z.num ≡ 0 → round side z ≡ nought
unfolding round
round_nought side z none = simp (none, zero-mul, zero-div, zero-mod, increment_none) (unfold carry in refl)

-- The greatest kept number not above z, or the least not below it.
pub round_rounded : (side : Side) (z : Fraction) → Rounded side z (round side z)
round_rounded side z = elim (eq-zero-or-pos z.num) [
  | inl none ↦ rw (round_nought side z none) (rounded_exact side nought_kept (nought_same z none))
  | inr above ↦ by_leading (Rounded side z) side z above (λ s r e. rounded_leading side r)
]

module _ (side : Side) where
  -- It is the only one.
  pub round_only : {z : Fraction} {x : Kept} → Rounded side z x → x ≡ round side z
  round_only {z} {x} r =
      let o = round_rounded side z in
      kept_unique r.kept o.kept
      (side_antisymm side (value x) (value (round side z)) (o.best x r.kept r.on_side) (r.best (round side z) o.kept o.on_side))

  pub round_cong : {z w : Fraction} → Same z w → round side z ≡ round side w
  round_cong {z} {w} same =
      let r = round_rounded side z in
      round_only (record {
        kept = r.kept;
        on_side = side_same side (same_refl {x = value (round side z)}) same r.on_side;
        best = λ y kept on. r.best y kept (side_same side (same_refl {x = value y}) (same_sym same) on);
      })

  pub round_kept : {z : Fraction} {x : Kept} → IsKept x → Same (value x) z → x ≡ round side z
  round_kept kept same = round_only (rounded_exact side kept same)

  -- The rounding of a number whose leading digits are s, r being what is left below them.
  pub round_leading : (r : ℕ) {s : ℕ} {e : ℤ} {z : Fraction} → Normal s → Between s r e z → carry (s + increment side r) e ≡ round side z
  round_leading r normal between = round_only (rounded_leading side r normal between)

-- Rounding keeps order.
pub round_order : (side : Side) {z w : Fraction} → AtMost z w → AtMost (value (round side z)) (value (round side w))
round_order Low {z} {w} le = (round_rounded Low w).best _ (round_rounded Low z).kept (at_most_trans (round_rounded Low z).on_side le)
round_order High {z} {w} le = (round_rounded High z).best _ (round_rounded High w).kept (at_most_trans le (round_rounded High w).on_side)

-- ---- the steps of the arithmetic

module _ (side : Side) where
  pub product_is : (x y : Kept) → Rounded side (times (value x) (value y)) (rounded_product side x y)
  unfolding rounded_product
  product_is x y = round_rounded side (times (value x) (value y))

  pub sum_is : (x y : Kept) → Rounded side (plus (value x) (value y)) (rounded_sum side x y)
  unfolding rounded_sum
  sum_is x y = round_rounded side (plus (value x) (value y))

  pub quotient_is : (x : Kept) (m : ℕ) (above : 0 < m) → Rounded side (divided (value x) m above) (rounded_quotient side x m above)
  unfolding rounded_quotient
  quotient_is x m above = round_rounded side (divided (value x) m above)

  pub integer_is : (n : ℕ) → Rounded side (integer n) (of_integer side n)
  unfolding of_integer
  integer_is n = round_rounded side (integer n)

  pub basis_points_is : (p : ℕ) → Rounded side (over p 1) (of_basis_points side p)
  unfolding of_basis_points
  basis_points_is p = round_rounded side (over p 1)

  -- The quotient by a number above zero.
  pub ratio_above : (n m : ℕ) (above : 0 < m) → of_ratio side n m ≡ round side (divided (integer n) m above)
  unfolding of_ratio divided
  ratio_above n zero above = absurd (omega arith)
  ratio_above n (suc m) above = round_cong side (record { cross = refl })

  pub ratio_is : (n m : ℕ) (above : 0 < m) → Rounded side (divided (integer n) m above) (of_ratio side n m)
  ratio_is n m above = rw (ratio_above n m above) (round_rounded side (divided (integer n) m above))

-- Where the digits of a whole number are moved up to 32, they are a significand.
normal_integer : {n : ℕ} → 0 < n → n < 2 ^ 32 → Normal (n * 2 ^ (32 - size n))
normal_integer {n} above below =
    let few : size n ≤ 32 = size-le n 32 below in
    let some : 0 < size n = power_below 0 (size n) above (size-lt n) in
    let all : size n + (32 - size n) ≡ 32 = omega arith in
    let one_less : size n - 1 + (32 - size n) ≡ 31 = omega arith in
    record {
      least =
          rw (← pow-add 2 (size n - 1) (32 - size n), one_less)
          at (mul-le-mul_right (2 ^ (32 - size n)) (size_reaches n (size n - 1) (omega arith)));
      below = rw all at (shl_lt (size n) (32 - size n) (size-lt n));
    }

-- A whole number below 2^32 is kept as it is.
pub integer_exact : (side : Side) (n : ℕ) → n < 2 ^ 32 → Same (value (of_integer side n)) (integer n)
unfolding of_integer integer scaled
integer_exact side n l = elim (eq-zero-or-pos n) [
  | inl none ↦ rw (round_nought side (integer n) none) (nought_same (integer n) none)
  | inr above ↦
      let free = 32 - size n in
      let e = pos 0 -ℤ pos free in
      let same : Same (scaled (n * 2 ^ free) e) (integer n) =
      same_trans (same_sym (scaled_shift n e free (sym (-ℤ-+ℤ_cancel (pos 0) (pos free))))) (record { cross = omega arith }) in
      rw (← round_kept side {x = record { significand = n * 2 ^ free; exponent = e }} (record { form = inr (normal_integer above l) }) same) same
]
