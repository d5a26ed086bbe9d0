-- The f64 of a kept number: which exponents are shown, that every product on the way is exact, and the bits.
-- Assumes nothing.
use Rattle.std.specs.Prelude.{ℕ, zero, suc, ◌+◌, ◌-◌, ◌*◌, ◌/◌, ◌%◌, ◌^◌, ◌≤◌, ◌<◌, ◌≡◌, refl, true, false, ℤ, pos, negsuc, ◌+ℤ◌, Float}
use Rattle.std.proofs.Common.{suc-le-suc, sym, ap, ◌∙◌, true≢false, le_trans, le_antisymm, lt_of_lt_of_le, lt_of_not-le, not-le_of_lt, zero-add, zero-mul, mul-one, one-mul, mul-pos, mul-le-mul_right, mul-div_cancel, div-add-mod', arith, ltb-true, ltb-false, lt-ltb, le-ltb, lit<, lit≤, pow_pos, pow_mono, pow-add, shl_lt}
use Rattle.std.proofs.Math.Nat.{mul-div-le, div-div-eq-div-mul}
use Rattle.std.proofs.Math.Decide.{dec_le}
use Rattle.std.proofs.Math.IntN.{+ℤ_assoc}
use Rattle.std.proofs.lemmas.Nat.{shl-shr}
use Rattle.std.specs.Int.Signed.{lt_z}
use Rattle.std.specs.Float.Ieee as Ieee
use Rattle.std.specs.Float.{nan, inf, fin, binary64}
use Rattle.std.specs.Float.Ieee.{up, down, size, to_bits}
use Rattle.std.specs.Float.Ieee.Digits.{size-lt, size-le}
use Rattle.std.specs.Float.Ieee.Exact.{HasValue, round_exact}
use Rattle.std.specs.Float.Ieee.Fits.{down_pos}
use Rattle.std.specs.Float.Ieee.Positive.{mul_at, positive_of_value}
use Rattle.std.specs.Float.Ieee.Scale.{round_same}
use Rattle.model.specs.Fraction.{Fraction, Same, AtMost, Less}
use Rattle.kept.specs.declared.Kept.{Kept}
use Rattle.kept.specs.Rounding.{Normal, IsKept, scaled, value}
use Rattle.kept.specs.Rounding.Powers.{power_below, scaled_shift}
use Rattle.kept.specs.Rounding.Laws.{normal_positive, kept_normal}
use Rattle.kept.specs.Binary64.{least_shown, below_shown, Shown, Doublings, ShownExponent, to_binary64, IsBinary64, exact_value, scaled_by}

-- A normal significand against powers of two.
under_power : {s : ℕ} → Normal s → (a b : ℕ) → 32 + a ≤ b → s * 2 ^ a < 2 ^ b
under_power n a b l = lt_of_lt_of_le (shl_lt 32 a n.below) (pow_mono l)

over_power : {s : ℕ} → Normal s → (a b : ℕ) → b ≤ 31 + a → 2 ^ b ≤ s * 2 ^ a
over_power n a b l = le_trans (pow_mono l) (rw (pow-add 2 31 a) (mul-le-mul_right (2 ^ a) n.least))

-- ---- the least value that is shown

pub below_shown_yes : (x : Kept) → below_shown x ≡ true → Less (value x) least_shown
unfolding below_shown
below_shown_yes x test = record { cross = ltb-true _ _ test }

pub below_shown_no : (x : Kept) → below_shown x ≡ false → AtMost least_shown (value x)
unfolding below_shown
below_shown_no x test = record { cross = ltb-false _ _ test }

-- Below it are zero and the exponents below −831.
pub below_zero : {s : ℕ} → s ≡ 0 → (e : ℤ) → true ≡ below_shown (record { significand = s; exponent = e })
unfolding below_shown scaled least_shown
below_zero none e = simp (none, zero-mul, one-mul) (sym (lt-ltb 0 (down e) (down_pos e)))

pub below_exponent : {s : ℕ} → Normal s → (e : ℤ) → lt_z e (negsuc 830) ≡ below_shown (record { significand = s; exponent = e })
unfolding below_shown scaled least_shown
below_exponent n (pos k) = sym (le-ltb _ _ (mul-pos (mul-pos (normal_positive n) (pow_pos k)) (pow_pos 800)))
below_exponent {s} n (negsuc k) = rw (mul-one s, one-mul (2 ^ suc k)) (elim (dec_le k 830) [
  | yes le ↦ rw (le-ltb 830 k le) (sym (le-ltb _ _ (over_power n 800 (suc k) (omega arith))))
  | no le ↦ rw (lt-ltb 830 k (lt_of_not-le le)) (sym (lt-ltb _ _ (under_power n 800 (suc k) (omega arith))))
])

-- So what is shown is not zero, and its exponent is from −831 to 192.
pub shown_normal : {x : Kept} → IsKept x → AtMost least_shown (value x) → Normal x.significand
unfolding below_shown
shown_normal {x} kept l = kept_normal kept (λ none. true≢false (below_zero none x.exponent ∙ le-ltb _ _ l.cross))

pub shown_exponent : {x : Kept} → Shown x → ShownExponent x.exponent
unfolding scaled least_shown below_shown
shown_exponent {x} shown = go x.exponent shown.least shown.below
  where
    n : Normal x.significand
    n = shown_normal shown.kept shown.least

    go : (e : ℤ) → AtMost least_shown (scaled x.significand e) → Less (scaled x.significand e) (scaled 1 (pos 224)) → ShownExponent e
    go (pos k) l u =
        let below : k < 193 = lt_of_not-le (λ g. not-le_of_lt (simp mul-one at u.cross) (over_power n k 224 (omega arith))) in
        record { n = k + 831; doublings = record { is = refl; below = omega arith } }
    go (negsuc k) l u =
        let least : k < 831 = suc-le-suc (ltb-false 830 k (below_exponent n (negsuc k) ∙ le-ltb _ _ l.cross)) in
        record { n = 831 - suc k; doublings = record { is = rw (le-ltb 831 (suc k)); below = omega arith } }

-- s × 2^k times 2^−1074, the least value of binary64 above zero.
unfoldable pub multiple : ℕ → ℕ → Float
multiple s k = Ieee.round binary64 false (s * 2 ^ k) (2 ^ 1074)

-- Nothing is lost by rounding such a number, num / den: s has 32 digits, and the end of binary64 is far.
nothing_lost : {s : ℕ} → Normal s → (k num den : ℕ) → k ≤ 2066 → 0 < den → num * 2 ^ 1074 ≡ s * 2 ^ k * den
    → HasValue (Ieee.round binary64 false num den) false num den
nothing_lost {s} n k num den l above e =
    round_exact binary64 false num den s k above (lt_of_lt_of_le n.below (lit≤ tt)) (under_power n k 2098 (omega arith)) e

multiple_exact : {s : ℕ} → Normal s → (k : ℕ) → k ≤ 2066 → HasValue (multiple s k) false (s * 2 ^ k) (2 ^ 1074)
unfolding multiple
multiple_exact {s} n k l = nothing_lost n k (s * 2 ^ k) (2 ^ 1074) l (pow_pos 1074) refl

cast_exact : (s : ℕ) → Ieee.of_int binary64 (pos s) ≡ multiple s 1074
unfolding multiple Ieee.of_int
cast_exact s = round_same binary64 false s 1 (s * 2 ^ 1074) (2 ^ 1074) (lit< tt) (pow_pos 1074) (sym (mul-one _))

-- A product by 2^(a − b) takes k to k + a − b, where it is exact again.
product_exact : {s : ℕ} → Normal s → (k l a b : ℕ) (y : Float) → HasValue y false (2 ^ a) (2 ^ b) → k ≤ 2066 → k + a ≡ l + b
    → Ieee.mul binary64 (multiple s k) y ≡ multiple s l
unfolding multiple
product_exact {s} n k l a b y v small e =
    let x = multiple s k in
    let w = multiple_exact n k small in
    let p = positive_of_value x (s * 2 ^ k) (2 ^ 1074) w (mul-pos (normal_positive n) (pow_pos k)) in
    let q = positive_of_value y (2 ^ a) (2 ^ b) v (pow_pos a) in
    mul_at binary64 x y (s * 2 ^ k) (2 ^ 1074) (2 ^ a) (2 ^ b) p q (pow_pos 1074) (pow_pos b) w v
    ∙ round_same binary64 false _ _ (s * 2 ^ l) (2 ^ 1074) (mul-pos (pow_pos 1074) (pow_pos b)) (pow_pos 1074) (cross (2 ^ 1074))
  where
    cross : (c : ℕ) → s * 2 ^ k * 2 ^ a * c ≡ s * 2 ^ l * (c * 2 ^ b)
    cross c = let powers : 2 ^ k * 2 ^ a ≡ 2 ^ l * 2 ^ b = rw (← pow-add 2 k a, ← pow-add 2 l b, e) in omega (arith, ap (λ z. s * c * z) powers)

scaled_exact : {s : ℕ} → Normal s → (digit k l j : ℕ) → digit < 2 → k ≤ 2066 → k + digit * j ≡ l
    → scaled_by (multiple s k) digit (fin false 1 (pos j)) ≡ multiple s l
unfolding scaled_by
scaled_exact {s} n zero k l j binary small e = ap (multiple s) (omega arith)
scaled_exact n (suc zero) k l j binary small e =
    product_exact n k l j 0 (fin false 1 (pos j)) (refl, ap (λ z. z * 1) (one-mul (2 ^ j))) small (omega arith)
scaled_exact n (suc (suc digit)) k l j binary small e = absurd (omega arith)

-- x is s × 2^−831 doubled n / j × j times: the binary digits of n from j on are done.
pub record Doubled (s n j : ℕ) (x : Float) : Type 0 where
  pub normal : Normal s
  pub below : n < 1024
  pub is : x ≡ multiple s (243 + n / j * j)

-- None is done: x is the cast of s, times 2^−831.
pub undoubled : {s n : ℕ} → Normal s → n < 1024 → Doubled s n 1024 (Ieee.mul binary64 (Ieee.of_int binary64 (pos s)) (fin false 1 (negsuc 830)))
undoubled {s} {n} normal l = record {
  normal = normal;
  below = l;
  is = rw (cast_exact s) (product_exact normal 1074 (243 + n / 1024 * 1024) 0 831 (fin false 1 (negsuc 830)) (refl, refl) (lit≤ tt) (omega arith));
}

-- One digit more.
pub doubled : {s n : ℕ} {x r : Float} (j : ℕ) → Doubled s n (j * 2) x → r ≡ scaled_by x (n / j % 2) (fin false 1 (pos j)) → Doubled s n j r
doubled {n} j d e =
    let k = 243 + n / (j * 2) * (j * 2) in
    let digits : k + n / j % 2 * j ≡ 243 + n / j * j =
    rw (← div-div-eq-div-mul n j 2) (omega (arith, ap (λ z. z * j) (div-add-mod' (n / j) 2))) in
    record {
      normal = d.normal;
      below = d.below;
      is = e ∙ rw d.is (scaled_exact d.normal (n / j % 2) k _ j (omega arith) (omega (arith, d.below, mul-div-le n (j * 2))) digits);
    }

-- A number from 2^z to below 2^(z + 1) has z + 1 binary digits.
size_is : (v z : ℕ) → 2 ^ z ≤ v → v < 2 ^ suc z → size v ≡ suc z
size_is v z l h = le_antisymm (size-le v (suc z) h) (power_below z (size v) l (size-lt v))

-- The bits of s × 2^(j + 21) times the least value. That number has j + 53 binary digits; 53 stay, and the leading one adds one to
-- the exponent field.
bits_of : {s : ℕ} → Normal s → (j k : ℕ) (x : Float) → k ≡ j + 21 → HasValue x false (s * 2 ^ k) (2 ^ 1074)
    → to_bits binary64 x ≡ j * 2 ^ 52 + s * 2 ^ 21
unfolding to_bits
bits_of n j k (fin true m e) h v = absurd (true≢false v.0)
bits_of {s} n j k (fin false m e) h v =
    let w = s * 2 ^ k in
    let whole : m * up e * 2 ^ 1074 / down e ≡ w = ap (λ z. z / down e) v.1 ∙ mul-div_cancel w (down_pos e) in
    let digits = size_is w (j + 52) (over_power n k (j + 52) (omega arith)) (under_power n k (suc (j + 52)) (omega arith)) in
    let dropped : suc (j + 52) - 53 ≡ j = omega arith in
    let kept : w / 2 ^ j ≡ s * 2 ^ 21 = ap (λ z. z / 2 ^ j) (rw (h, pow-add 2 j 21) (omega arith)) ∙ shl-shr (s * 2 ^ 21) j in
    rw (whole, digits, dropped, kept, zero-add)
bits_of n j k nan h v = elim v [ ]
bits_of n j k (inf _) h v = elim v [ ]

-- The value of x as a multiple of the least value of binary64, where c is 243.
shown_power : (s : ℕ) {e : ℤ} {n : ℕ} (c : ℕ) → Doublings e n → s * up e * 2 ^ (831 + c) ≡ s * 2 ^ (n + c) * down e
unfolding scaled
shown_power s {e} {n} c h =
    omega (arith, (scaled_shift s e {f = pos (n + c)} (831 + c) (ap (λ z. z +ℤ pos c) h.is ∙ +ℤ_assoc e (pos 831) (pos c))).cross)

binary64_multiple : (x : Kept) {n : ℕ} → Doublings x.exponent n → to_binary64 x ≡ multiple x.significand (n + 243)
unfolding to_binary64 scaled multiple
binary64_multiple x h = round_same binary64 false _ _ _ _ (down_pos x.exponent) (pow_pos 1074) (shown_power x.significand 243 h)

-- A number that is shown has its value as an f64.
pub shown_binary64 : {x : Kept} → Shown x → IsBinary64 x (to_binary64 x)
unfolding to_binary64 scaled
shown_binary64 {x} shown =
    let s = x.significand in
    let e = x.exponent in
    let n = (shown_exponent shown).n in
    let h = (shown_exponent shown).doublings in
    let normal = shown_normal shown.kept shown.least in
    let value : HasValue (to_binary64 x) false (s * 2 ^ (n + 243)) (2 ^ 1074) =
    rw (binary64_multiple x h) (multiple_exact normal (n + 243) (omega (arith, h.below))) in
    let bits = bits_of normal (n + 222) (n + 243) (to_binary64 x) (omega arith) value in
    record {
      is = refl;
      exact = nothing_lost normal (n + 243) (s * up e) (down e) (omega (arith, h.below)) (down_pos e) (shown_power s 243 h);
      sign = omega arith;
      exponent_field = ap pos (omega arith) ∙ ap (λ z. z +ℤ pos 223) h.is ∙ +ℤ_assoc e (pos 831) (pos 223);
      fraction_field = omega arith;
    }

pub is_binary64 : {x : Kept} {r : Float} → Shown x → r ≡ to_binary64 x → IsBinary64 x r
is_binary64 shown is = rw is (shown_binary64 shown)

-- What has a fraction for its value has that exact value.
pub exact_value_lem : (r : Float) (z : Fraction) → HasValue r false z.num z.den → Same (exact_value r) z
unfolding exact_value scaled
exact_value_lem nan z has = absurd has
exact_value_lem (inf sign) z has = absurd has
exact_value_lem (fin true s e) z has = absurd (true≢false has.0)
exact_value_lem (fin false s e) z has = record { cross = has.1 }

-- All digits are done.
pub all_doubled : {x : Kept} {n : ℕ} {r : Float} → Doublings x.exponent n → Doubled x.significand n 1 r → r ≡ to_binary64 x
all_doubled {x} h d = d.is ∙ ap (multiple x.significand) (omega arith) ∙ sym (binary64_multiple x h)
