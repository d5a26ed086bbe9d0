-- Finite sums and products, binomial coefficients and Pascal's triangle, binomial and alternating sums, triangle numbers, limits put to an integer.
-- Assumes nothing.
use Rattle.std.specs.Prelude.{ℕ, zero, suc, ◌+◌, ◌*◌, ◌-◌, min, cond, ltb, ℤ, pos, negsuc, neg_ℤ, ◌+ℤ◌}
pub mod Laws

-- The sum of the first n terms: f 0 + f 1 + … + f (n − 1).
unfoldable pub sum : ℕ → (ℕ → ℕ) → ℕ
sum zero f = 0
sum (suc n) f = sum n f + f n

-- f k + f (k + 1) + … + f n
unfoldable pub sum_between : (k n : ℕ) → (ℕ → ℕ) → ℕ
sum_between k n f = sum (suc n - k) (λ i. f (k + i))

-- The product of the first n factors: f 0 × f 1 × … × f (n − 1), multiplied in this order.
unfoldable pub product : ℕ → (ℕ → ℕ) → ℕ
product zero f = 1
product (suc n) f = product n f * f n

-- f k × f (k + 1) × … × f (n − 1)
unfoldable pub product_between : (k n : ℕ) → (ℕ → ℕ) → ℕ
product_between k n f = product (n - k) (λ i. f (k + i))

-- C(n,i), n over i: the ways to choose i of n things, by Pascal's rule. `choose-factorial` shows that it is n!/(i!(n−i)!).
unfoldable pub choose : ℕ → ℕ → ℕ
choose n zero = 1
choose zero (suc i) = 0
choose (suc n) (suc i) = choose n i + choose n (suc i)

-- Row k of Pascal's triangle with any `one` and any sum: ones at both ends, and inside the sum of the two entries above. Past its end a row goes on with ones.
unfoldable pub pascal_row : {A : Type 0} (one : A) (plus : A → A → A) (k j : ℕ) → A
pascal_row one plus k zero = one
pascal_row one plus zero (suc j) = one
pascal_row one plus (suc k) (suc j) = cond (ltb j k) (plus (pascal_row one plus k j) (pascal_row one plus k (suc j))) one

-- n!
unfoldable pub factorial : ℕ → ℕ
factorial zero = 1
factorial (suc n) = factorial n * suc n

-- The sum over i from 0 to d of C(d,i) × h i.
unfoldable pub binomial_sum : ℕ → (ℕ → ℕ) → ℕ
binomial_sum d h = sum (suc d) (λ i. choose d i * h i)

-- `sum` for integers.
unfoldable pub integer_sum : ℕ → (ℕ → ℤ) → ℤ
integer_sum zero f = pos 0
integer_sum (suc n) f = integer_sum n f +ℤ f n

-- (−1)^i × x
unfoldable pub signed : ℕ → ℕ → ℤ
signed zero x = pos x
signed (suc i) x = neg_ℤ (signed i x)

-- The sum over i from 0 to d of (−1)^i × C(d,i) × h i.
unfoldable pub alternating_sum : ℕ → (ℕ → ℕ) → ℤ
alternating_sum d h = integer_sum (suc d) (λ i. signed i (choose d i * h i))

-- T(k) = k(k+1)/2: `triangle-closed`.
unfoldable pub triangle : ℕ → ℕ
triangle zero = 0
triangle (suc k) = triangle k + suc k

-- x, but `most` if x is above it.
unfoldable pub cut : ℕ → ℤ → ℤ
cut most (pos x) = pos (min x most)
cut most (negsuc x) = negsuc x

-- x, but 0 if x is below 0.
unfoldable pub raise : ℤ → ℕ
raise (pos x) = x
raise (negsuc x) = 0
