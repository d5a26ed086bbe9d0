-- Laws of finite sums and products, differences, integers raised to zero, binomial coefficients, Pascal's triangle and triangle numbers.
-- Assumes nothing.
use Prim.Native.Nat.{ℕ, zero, suc, ◌+◌, ◌*◌, ◌-◌, ◌^◌, ◌≤◌, ◌<◌, min, suc-le-suc}
use Rattle.std.specs.Prelude.{◌≡◌, ℤ, pos, negsuc, neg_ℤ, nat_abs, ◌+ℤ◌, ◌-ℤ◌, ◌*ℤ◌}
use Rattle.std.proofs.Math.Path.{refl}
use Rattle.std.proofs.Common.{sym, ap, ap₂, ◌∙◌, sub-eq-zero_of_le, le_of_suc-le-suc, le_of_eq, le_of_lt, le_antisymm, lt-suc_self, add-zero, zero-add, add-suc, suc-add, add-sub_of_le, add-mul, mul-le-mul, mul-pos, le_refl, pow-suc, lt-ltb, le-ltb, pow_pos}
use Rattle.std.proofs.Math.Nat.{suc-sub-suc, le_step, pow-zero, pow-succ'}
use Rattle.std.proofs.Math.Decide.{dec_le}
use native.Mathlib.Omega.{arith}
use Rattle.std.proofs.Math.IntN.{+ℤ_assoc, +ℤ_comm, neg_ℤ-+ℤ}
use Rattle.model.specs.Number.{sum, sum_between, product, product_between, integer_sum, signed, alternating_sum, choose, pascal_row, factorial, triangle, binomial_sum, cut, raise}

-- ---- sums

pub sum_mono : (n : ℕ) {f g : ℕ → ℕ} → ((i : ℕ) → i < n → f i ≤ g i) → sum n f ≤ sum n g
unfolding sum
sum_mono zero h = omega arith
sum_mono (suc n) h = omega (arith, sum_mono n (λ i l. h i (le_step l)), h n (lt-suc_self n))

-- Sums of terms that agree are equal.
pub sum_cong : (n : ℕ) {f g : ℕ → ℕ} → ((i : ℕ) → i < n → f i ≡ g i) → sum n f ≡ sum n g
sum_cong n h = le_antisymm (sum_mono n (λ i l. le_of_eq (h i l))) (sum_mono n (λ i l. le_of_eq (sym (h i l))))

-- Of terms that are a sum of two, and of terms that are c times others.
sum_plus : (n : ℕ) (f g h : ℕ → ℕ) → ((i : ℕ) → i < n → f i ≡ g i + h i) → sum n f ≡ sum n g + sum n h
unfolding sum
sum_plus zero f g h e = refl
sum_plus (suc n) f g h e = omega (arith, sum_plus n f g h (λ i l. e i (le_step l)), e n (lt-suc_self n))

pub sum_times : (n c : ℕ) (f g : ℕ → ℕ) → ((i : ℕ) → i < n → f i ≡ c * g i) → sum n f ≡ c * sum n g
unfolding sum
sum_times zero c f g e = omega arith
sum_times (suc n) c f g e = omega (arith, sum_times n c f g (λ i l. e i (le_step l)), e n (lt-suc_self n))

-- Of terms that are as others are.
pub sum_as : (n b c : ℕ) (f g : ℕ → ℕ) → ((i : ℕ) → i < n → f i * b ≡ g i * c) → sum n f * b ≡ sum n g * c
unfolding sum
sum_as zero b c f g h = omega arith
sum_as (suc n) b c f g h = omega (arith, sum_as n b c f g (λ i l. h i (le_step l)), h n (lt-suc_self n))

pub sum_const : (n x : ℕ) → sum n (λ i. x) ≡ n * x
unfolding sum
sum_const zero x = omega arith
sum_const (suc n) x = omega (arith, sum_const n x)

-- Sums of sums, in either order.
pub sum_exchange : (m n : ℕ) (f : ℕ → ℕ → ℕ) → sum m (λ i. sum n (λ j. f i j)) ≡ sum n (λ j. sum m (λ i. f i j))
unfolding sum
sum_exchange zero n f = omega (arith, sum_const n 0)
sum_exchange (suc m) n f =
    ap (λ z. z + sum n (λ j. f m j)) (sum_exchange m n f)
    ∙ sym (sum_plus n (λ j. sum m (λ i. f i j) + f m j) (λ j. sum m (λ i. f i j)) (λ j. f m j) (λ j l. refl))

-- The last term alone, where the others are zero.
pub sum_last : (n : ℕ) (f : ℕ → ℕ) → ((i : ℕ) → i < n → f i ≡ 0) → sum (suc n) f ≡ f n
unfolding sum
sum_last n f h = omega (arith, sum_cong n {f = f} {g = λ i. 0} h, sum_const n 0)

-- The first term apart.
pub sum_first : (n : ℕ) (f : ℕ → ℕ) → sum (suc n) f ≡ f 0 + sum n (λ i. f (suc i))
unfolding sum
sum_first zero f = omega arith
sum_first (suc n) f = omega (arith, sum_first n f)

-- The first and the last term of a sum from k to n apart. It is zero if k is past n.
pub between_first : (n : ℕ) (f : ℕ → ℕ) {k : ℕ} → k ≤ n → sum_between k n f ≡ f k + sum_between (suc k) n f
unfolding sum_between
between_first n f {k} l =
    let more : suc n - k ≡ suc (n - k) = omega arith in
    simp (more, suc-sub-suc, suc-add) (simp (add-zero, add-suc) at (sum_first (n - k) (λ i. f (k + i))))

pub between_last : (n : ℕ) (f : ℕ → ℕ) {k : ℕ} → k ≤ suc n → sum_between k (suc n) f ≡ sum_between k n f + f (suc n)
unfolding sum_between sum
between_last n f {k} l =
    let more : suc (suc n) - k ≡ suc (suc n - k) = omega arith in
    rw (more, add-sub_of_le l)

pub between_none : (n : ℕ) (f : ℕ → ℕ) {k : ℕ} → n < k → sum_between k n f ≡ 0
unfolding sum_between sum
between_none n f {k} l = rw (sub-eq-zero_of_le l)

-- Above c each of the terms up to n counts once.
between_past : (n c : ℕ) (f : ℕ → ℕ) → sum (suc n) (λ x. f x * min (x - c) 1) ≡ sum_between (suc c) n f
unfolding sum
between_past zero c f = let none : min (0 - c) 1 ≡ 0 = omega arith in rw none (omega (arith, between_none 0 f {k = suc c} (omega arith)))
between_past (suc n) c f = elim (dec_le c n) [
  | yes l ↦ let one : min (suc n - c) 1 ≡ 1 = omega arith in rw one (omega (arith, between_past n c f, between_last n f {k = suc c} (omega arith)))
  | no l ↦
      let none : min (suc n - c) 1 ≡ 0 = omega arith in
      rw none (omega (arith, between_past n c f, between_none n f {k = suc c} (omega arith), between_none (suc n) f {k = suc c} (omega arith)))
]

-- The w sums that start after c have term x in them as many times as x is above c, but no more than w times.
pub between_cut : (n c w : ℕ) (f : ℕ → ℕ) → sum (suc n) (λ x. f x * min (x - c) w) ≡ sum w (λ t. sum_between (suc (c + t)) n f)
unfolding sum
between_cut n c zero f =
    let none : (x : ℕ) → min (x - c) 0 ≡ 0 = λ x. omega arith in
    sum_cong (suc n) {g = λ x. 0} (λ x l. rw (none x) (omega arith)) ∙ rw (sum_const (suc n) 0) (omega arith)
between_cut n c (suc w) f =
    let more : (x : ℕ) → min (x - c) (suc w) ≡ min (x - c) w + min (x - (c + w)) 1 = λ x. omega arith in
    omega (
      arith,
      sum_plus (suc n) (λ x. f x * min (x - c) (suc w)) (λ x. f x * min (x - c) w) (λ x. f x * min (x - (c + w)) 1) (λ x l. rw (more x) (omega arith)),
      between_cut n c w f,
      between_past n (c + w) f,
    )

-- The sums from 1, from 2, up to that from n have term j in them j times.
pub between_total : (n : ℕ) (f : ℕ → ℕ) → sum n (λ i. sum_between (suc i) n f) ≡ sum (suc n) (λ j. j * f j)
between_total n f =
    sum_cong n (λ i l. rw (zero-add i) refl) ∙ sym (between_cut n 0 n f)
    ∙ sum_cong (suc n) (λ j l. let all : min (j - 0) n ≡ j = omega arith in rw all (omega arith))

-- ---- products

-- The factors of a product above zero are above zero.
pub factors_positive : (a b : ℕ) → 0 < a * b → (0 < a) × (0 < b)
factors_positive zero b l = absurd (omega arith)
factors_positive (suc a) zero l = absurd (omega arith)
factors_positive (suc a) (suc b) l = (omega arith, omega arith)

pub product_next : (n : ℕ) (f : ℕ → ℕ) → product (suc n) f ≡ product n f * f n
unfolding product
product_next n f = refl

pub product_cong : (n : ℕ) {f g : ℕ → ℕ} → ((i : ℕ) → i < n → f i ≡ g i) → product n f ≡ product n g
unfolding product
product_cong zero h = refl
product_cong (suc n) h = ap₂ ◌*◌ (product_cong n (λ i l. h i (le_step l))) (h n (lt-suc_self n))

pub product_mono : (n : ℕ) {f g : ℕ → ℕ} → ((i : ℕ) → i < n → f i ≤ g i) → product n f ≤ product n g
unfolding product
product_mono zero h = omega arith
product_mono (suc n) h = mul-le-mul (product_mono n (λ i l. h i (le_step l))) (h n (lt-suc_self n))

pub product_positive : (n : ℕ) {f : ℕ → ℕ} → ((i : ℕ) → 0 < f i) → 0 < product n f
unfolding product
product_positive zero h = omega arith
product_positive (suc n) h = mul-pos (product_positive n h) (h n)

-- Equal factors.
pub product_const : (n x : ℕ) → product n (λ i. x) ≡ x ^ n
unfolding product
product_const zero x = rw (pow-zero x)
product_const (suc n) x = rw (pow-suc x n, product_const n x)

-- The first factor apart.
product_first : (n : ℕ) (f : ℕ → ℕ) → product (suc n) f ≡ f 0 * product n (λ i. f (suc i))
unfolding product
product_first zero f = omega arith
product_first (suc n) f = omega (arith, ap (λ z. z * f (suc n)) (product_first n f))

-- The first factor of a product from k on apart; it is one if k is past the last.
pub product_from : (n : ℕ) (f : ℕ → ℕ) {k : ℕ} → k < n → product_between k n f ≡ f k * product_between (suc k) n f
unfolding product_between
product_from n f {k} l =
    let more : n - k ≡ suc (n - suc k) = omega arith in
    simp (more, suc-add) (simp (add-zero, add-suc) at (product_first (n - suc k) (λ i. f (k + i))))

pub product_none : (n : ℕ) (f : ℕ → ℕ) {k : ℕ} → n ≤ k → product_between k n f ≡ 1
unfolding product_between product
product_none n f l = rw (sub-eq-zero_of_le l)

-- The factors before k, and those from k on.
pub product_parts : (f : ℕ → ℕ) (k d : ℕ) → product k f * product_between k (k + d) f ≡ product (k + d) f
product_parts f k zero = rw (add-zero k, product_none k f (le_refl k)) (omega arith)
product_parts f k (suc d) =
    let last : k + suc d ≡ suc k + d = omega arith in
    rw (last, product_from (suc k + d) f {k = k} (omega arith))
    (omega (arith, ap (λ z. z * product_between (suc k) (suc k + d) f) (product_next k f), product_parts f (suc k) d))

-- ---- differences, as integers

-- How large the difference of two natural numbers is.
pub difference_size : (a b : ℕ) → nat_abs (pos a -ℤ pos b) ≡ (a - b) + (b - a)
difference_size a zero = omega arith
difference_size a (suc b) = elim (dec_le (suc b) a) [
  | yes l ↦ rw (le-ltb a (suc b) l) (omega arith)
  | no l ↦ rw (lt-ltb a (suc b) (omega arith)) (omega arith)
]

pub integer_interchange : (a b c d : ℤ) → (a +ℤ b) +ℤ (c +ℤ d) ≡ (a +ℤ c) +ℤ (b +ℤ d)
integer_interchange a b c d = cc (+ℤ_assoc a b (c +ℤ d), +ℤ_assoc b c d, +ℤ_comm b c, +ℤ_assoc c b d, +ℤ_assoc a c (b +ℤ d))

-- Terms that are a difference of two add to the difference of the sums.
pub differences_total : (n : ℕ) (h : ℕ → ℤ) (f g : ℕ → ℕ) → ((i : ℕ) → i < n → h i ≡ pos (f i) -ℤ pos (g i))
    → integer_sum n h ≡ pos (sum n f) -ℤ pos (sum n g)
unfolding integer_sum sum
differences_total zero h f g e = refl
differences_total (suc n) h f g e =
    ap₂ ◌+ℤ◌ (differences_total n h f g (λ i l. e i (le_step l))) (e n (lt-suc_self n))
    ∙ integer_interchange (pos (sum n f)) (neg_ℤ (pos (sum n g))) (pos (f n)) (neg_ℤ (pos (g n)))
    ∙ ap (λ z. pos (sum n f + f n) +ℤ z) (sym (neg_ℤ-+ℤ (pos (sum n g)) (pos (g n))))

integer_cong : (n : ℕ) {f g : ℕ → ℤ} → ((i : ℕ) → i < n → f i ≡ g i) → integer_sum n f ≡ integer_sum n g
unfolding integer_sum
integer_cong zero h = refl
integer_cong (suc n) h = ap₂ ◌+ℤ◌ (integer_cong n (λ i l. h i (le_step l))) (h n (lt-suc_self n))

-- ---- integers raised to zero

-- Raising may be exchanged with a cut, with a difference and with a product.
pub raised_cut : (most : ℕ) (x : ℤ) → raise (cut most x) ≡ min (raise x) most
unfolding raise cut
raised_cut most (pos a) = refl
raised_cut most (negsuc a) = omega arith

pub raised_minus : (x : ℤ) (b : ℕ) → raise (x -ℤ pos b) ≡ raise x - b
unfolding raise
raised_minus (pos a) zero = omega arith
raised_minus (pos a) (suc b) = elim (dec_le (suc b) a) [ yes l ↦ rw (le-ltb a (suc b) l) | no l ↦ rw (lt-ltb a (suc b) (omega arith)) (omega arith) ]
raised_minus (negsuc a) zero = rw (lt-ltb 0 (suc a) (omega arith)) refl
raised_minus (negsuc a) (suc b) = omega arith

raised_negative : (a : ℕ) → raise (neg_ℤ (pos a)) ≡ 0
unfolding raise
raised_negative zero = refl
raised_negative (suc a) = refl

pub raised_times : (c : ℕ) (x : ℤ) → raise (pos c *ℤ x) ≡ c * raise x
unfolding raise
raised_times c (pos a) = refl
raised_times c (negsuc a) = raised_negative (c * suc a) ∙ omega arith

-- ---- binomial coefficients

pub choose_past : (n i : ℕ) → n < i → choose n i ≡ 0
unfolding choose
choose_past n zero l = omega arith
choose_past zero (suc i) l = refl
choose_past (suc n) (suc i) l = omega (arith, choose_past n i (omega arith), choose_past n (suc i) (omega arith))

-- C(n,i) is below 2^n but for n = 0.
pub choose_below : (n i : ℕ) → choose (suc n) i < 2 ^ suc n
unfolding choose
choose_below n zero = rw (pow-succ' 2 n) (omega (arith, pow_pos n))
choose_below zero (suc zero) = omega arith
choose_below zero (suc (suc i)) = omega arith
choose_below (suc n) (suc i) = rw (pow-succ' 2 (suc n)) (omega (arith, choose_below n i, choose_below n (suc i)))

pub choose_at_most : (n i : ℕ) → choose n i ≤ 2 ^ n
unfolding choose
choose_at_most zero zero = pow_pos 0
choose_at_most zero (suc i) = omega arith
choose_at_most (suc n) i = le_of_lt (choose_below n i)

pub choose_all : (n : ℕ) → choose n n ≡ 1
unfolding choose
choose_all zero = refl
choose_all (suc n) = omega (arith, choose_all n, choose_past n (suc n) (lt-suc_self n))

-- (i+1) × C(n+1,i+1) = (n+1) × C(n,i)
pub choose_absorb : (n i : ℕ) → suc i * choose (suc n) (suc i) ≡ suc n * choose n i
unfolding choose
choose_absorb zero zero = refl
choose_absorb zero (suc i) = omega arith
choose_absorb (suc n) zero = omega (arith, choose_absorb n zero)
choose_absorb (suc n) (suc i) = omega (arith, choose_absorb n i, choose_absorb n (suc i))

-- C(i+j,i) × i! × j! = (i+j)!
pub choose_factorial : (i j : ℕ) → choose (i + j) i * (factorial i * factorial j) ≡ factorial (i + j)
unfolding choose factorial
choose_factorial zero j = rw zero-add (omega arith)
choose_factorial (suc i) j =
    rw suc-add
    (omega (arith, ap (λ z. z * (factorial i * factorial j)) (choose_absorb (i + j) i), ap (λ z. suc (i + j) * z) (choose_factorial i j)))

-- ---- Pascal's triangle

module _ {A : Type 0} (one : A) (plus : A → A → A) where
  pub pascal_inside : (k j : ℕ) → j < k → pascal_row one plus (suc k) (suc j) ≡ plus (pascal_row one plus k j) (pascal_row one plus k (suc j))
  unfolding pascal_row
  pascal_inside k j l = rw (lt-ltb j k l) refl

  pub pascal_past : (k j : ℕ) → k ≤ j → pascal_row one plus k j ≡ one
  unfolding pascal_row
  pascal_past k zero l = refl
  pascal_past zero (suc j) l = refl
  pascal_past (suc k) (suc j) l = rw (le-ltb j k (omega arith)) refl

  -- What holds of both ends of a row, and of every sum of two entries of which it holds, holds of all entries.
  pub pascal_holds : (P : ℕ → ℕ → A → Type 0) → ((k : ℕ) → P k 0 one) → ((k : ℕ) → P k k one)
      → ((k j : ℕ) (x y : A) → j < k → P k j x → P k (suc j) y → P (suc k) (suc j) (plus x y)) → (k j : ℕ) → j ≤ k → P k j (pascal_row one plus k j)
  unfolding pascal_row
  pascal_holds P first last sums k zero l = first k
  pascal_holds P first last sums zero (suc j) l = absurd (omega arith)
  pascal_holds P first last sums (suc k) (suc j) l = elim (dec_le k j) [
    | yes end ↦ let same : j ≡ k = omega arith in rw (le-ltb j k end, same) (last (suc k))
    | no inside ↦
        rw (lt-ltb j k (omega arith))
        (sums k j _ _ (omega arith) (pascal_holds P first last sums k j (omega arith)) (pascal_holds P first last sums k (suc j) (omega arith)))
  ]

-- With whole numbers it is that of the binomial coefficients.
pub pascal_choose : (k j : ℕ) → j ≤ k → pascal_row 1 ◌+◌ k j ≡ choose k j
unfolding choose
pascal_choose = pascal_holds 1 ◌+◌ (λ k j x. x ≡ choose k j) (λ k. refl) (λ k. sym (choose_all k)) (λ k j x y l left right. rw (left, right) refl)

-- ---- binomial sums

pub binomial_cong : (d : ℕ) {f g : ℕ → ℕ} → ((i : ℕ) → i ≤ d → f i ≡ g i) → binomial_sum d f ≡ binomial_sum d g
unfolding binomial_sum
binomial_cong d h = sum_cong (suc d) (λ i l. ap (λ z. choose d i * z) (h i (le_of_suc-le-suc l)))

pub binomial_times : (d c : ℕ) (f g : ℕ → ℕ) → ((i : ℕ) → i ≤ d → f i ≡ c * g i) → binomial_sum d f ≡ c * binomial_sum d g
unfolding binomial_sum
binomial_times d c f g e =
    sum_times (suc d) c (λ i. choose d i * f i) (λ i. choose d i * g i) (λ i l. omega (arith, ap (λ z. choose d i * z) (e i (le_of_suc-le-suc l))))

-- Pascal's rule for a whole sum.
pub pascal : (d : ℕ) (h : ℕ → ℕ) → binomial_sum (suc d) h ≡ binomial_sum d h + binomial_sum d (λ i. h (suc i))
unfolding binomial_sum choose sum
pascal d h =
    omega (
      arith,
      sum_plus (suc d) (λ i. choose (suc d) (suc i) * h (suc i)) (λ i. choose d i * h (suc i)) (λ i. choose d (suc i) * h (suc i))
          (λ i l. add-mul (choose d i) (choose d (suc i)) (h (suc i))),
      sum_first (suc d) (λ i. choose (suc d) i * h i),
      sum_first (suc d) (λ i. choose d i * h i),
      ap (λ z. z * h (suc d)) (choose_past d (suc d) (lt-suc_self d)),
    )

-- The mean of a binomial row of n + 1 places.
pub binomial_mean : (n : ℕ) (f : ℕ → ℕ) → sum (suc (suc n)) (λ j. j * (choose (suc n) j * f j)) ≡ suc n * binomial_sum n (λ i. f (suc i))
unfolding binomial_sum
binomial_mean n f =
    omega (
      arith,
      sum_first (suc n) (λ j. j * (choose (suc n) j * f j)),
      sum_times (suc n) (suc n) (λ i. suc i * (choose (suc n) (suc i) * f (suc i))) (λ i. choose n i * f (suc i))
          (λ i l. omega (arith, ap (λ z. z * f (suc i)) (choose_absorb n i))),
    )

-- ---- alternating sums

pub alternating_cong : (d : ℕ) {f g : ℕ → ℕ} → ((i : ℕ) → i ≤ d → f i ≡ g i) → alternating_sum d f ≡ alternating_sum d g
unfolding alternating_sum
alternating_cong d h = integer_cong (suc d) (λ i l. ap (λ z. signed i (choose d i * z)) (h i (le_of_suc-le-suc l)))

-- ---- triangle numbers

-- T(k) = k(k+1)/2
pub triangle_closed : (k : ℕ) → triangle k * 2 ≡ k * suc k
unfolding triangle
triangle_closed zero = refl
triangle_closed (suc k) = omega (arith, triangle_closed k)

pub triangle_mono : {i k : ℕ} → i ≤ k → triangle i ≤ triangle k
triangle_mono {i} {k} l = omega (arith, triangle_closed i, triangle_closed k, mul-le-mul l (suc-le-suc l))
