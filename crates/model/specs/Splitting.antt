-- Triangular arrays in which each entry, times a factor of its row, is the sum of two neighbours in the row below it. Their entries are binomial sums of a lower
-- row, and alternating sums of the last entries of the rows; from that follow the closed form, the total and the mean of every model whose rows are such an array.
-- Assumes nothing.
use Prim.Native.Nat.{ℕ, zero, suc, ◌+◌, ◌*◌, ◌-◌, ◌≤◌, ◌<◌, zero-le}
use Rattle.std.specs.Prelude.{◌≡◌, refl, Bool, not, ℤ, neg_ℤ, ◌+ℤ◌, ◌-ℤ◌}
use Rattle.std.proofs.Math.Path.{sym, ap}
use Rattle.std.proofs.Common.{◌∙◌, ap₂, zero-add, add-sub_of_le, add-mul, zero-mul, one-mul, mul-one, lt-suc_self, le_refl, le_of_suc-le-suc}
use Rattle.std.proofs.Math.Bool.{true, false}
use native.Mathlib.Omega.{arith}
use Rattle.std.proofs.Math.Nat.{add-suc, add-zero, suc-add, mul-le-mul_left, le_of_mul-le-mul_left}
use Rattle.std.proofs.Math.Numerals.{one-add}
use Rattle.std.proofs.Math.IntN.{pos, +ℤ_comm, +ℤ_idr, +ℤ-neg_ℤ_cancel, -ℤ-+ℤ_cancel, neg_ℤ-+ℤ, neg_ℤ-neg_ℤ}
use Rattle.model.specs.Number.{sum, product, product_between, choose, binomial_sum, integer_sum, signed, alternating_sum, raise}
use Rattle.model.specs.Number.Laws.{sum_as, product_from, product_none, product_parts, integer_interchange, differences_total, pascal, binomial_mean, choose_past}

-- Entry j of row k, times c k, is the sum of entries j and j + 1 of row k + 1.
abbrev pub SplitsBy : (ℕ → ℕ) → (ℕ → ℕ → ℕ) → Type 0
SplitsBy c S = (k j : ℕ) → j ≤ k → S (suc k) j + S (suc k) (suc j) ≡ c k * S k j

-- The same without factors, down to row K.
abbrev Splits : ℕ → (ℕ → ℕ → ℕ) → Type 0
Splits K S = (k j : ℕ) → k < K → j ≤ k → S (suc k) j + S (suc k) (suc j) ≡ S k j

-- ---- Pascal's rule for alternating sums

signed_plus : (i x y : ℕ) → signed i (x + y) ≡ signed i x +ℤ signed i y
unfolding signed
signed_plus zero x y = refl
signed_plus (suc i) x y = cc (signed_plus i x y, neg_ℤ-+ℤ (signed i x) (signed i y))

signed_cancels : (i x y : ℕ) → signed (suc i) (x + y) +ℤ signed i x ≡ signed (suc i) y
unfolding signed
signed_cancels i x y =
    let a = signed i x in
    let b = signed i y in
    cc (signed_plus i x y, neg_ℤ-+ℤ a b, +ℤ_comm (neg_ℤ a) (neg_ℤ b), -ℤ-+ℤ_cancel (neg_ℤ b) a)

signed_zero : (i : ℕ) → signed i 0 ≡ pos 0
unfolding signed
signed_zero zero = refl
signed_zero (suc i) = cc (signed_zero i)

-- The terms of an alternating sum.
terms : ℕ → (ℕ → ℕ) → ℕ → ℤ
terms d h i = signed i (choose d i * h i)

pascal_terms : (d n : ℕ) (h : ℕ → ℕ)
    → integer_sum (suc n) (terms (suc d) h) +ℤ integer_sum n (terms d (λ i. h (suc i))) ≡ integer_sum (suc n) (terms d h)
unfolding integer_sum terms choose
pascal_terms d zero h = +ℤ_idr _
pascal_terms d (suc n) h =
    let next : ℕ → ℕ = λ i. h (suc i) in
    integer_interchange (integer_sum (suc n) (terms (suc d) h)) (terms (suc d) h (suc n)) (integer_sum n (terms d next)) (terms d next n)
    ∙ ap₂ ◌+ℤ◌ (pascal_terms d n h) (rw add-mul (signed_cancels n (choose d n * next n) (choose d (suc n) * next n)))

alternating_pascal : (d : ℕ) (h : ℕ → ℕ) → alternating_sum (suc d) h +ℤ alternating_sum d (λ i. h (suc i)) ≡ alternating_sum d h
unfolding alternating_sum terms integer_sum
alternating_pascal d h =
    pascal_terms d (suc d) h ∙ rw (choose_past d (suc d) (lt-suc_self d), zero-mul (h (suc d)), signed_zero (suc d)) (+ℤ_idr _)

module _ (K : ℕ) (S : ℕ → ℕ → ℕ) (splits : Splits K S) where
  -- Entry j of row k from the entries of the row that is s below it.
  binomial_of_splits : (s k j : ℕ) → k + s ≤ K → j ≤ k → binomial_sum s (λ i. S (k + s) (j + i)) ≡ S k j
  unfolding binomial_sum sum choose
  binomial_of_splits zero k j l m = rw (add-zero k, add-zero j) (omega arith)
  binomial_of_splits (suc s) k j l m =
      simp add-suc
      (omega (
        arith,
        simp add-suc at (pascal s (λ i. S (suc (k + s)) (j + i))),
        simp suc-add at (binomial_of_splits s (suc k) j (omega arith) (omega arith)),
        simp suc-add at (binomial_of_splits s (suc k) (suc j) (omega arith) (omega arith)),
        splits k j (omega arith) m,
      ))

  -- Entry j of row j + d from the last entries of rows j to j + d.
  alternating_of_splits : (d j : ℕ) → j + d ≤ K → alternating_sum d (λ i. S (j + i) (j + i)) ≡ pos (S (j + d) j)
  alternating_of_splits zero j l = unfold alternating_sum integer_sum signed choose in (rw (add-zero j) (ap pos (omega arith)))
  alternating_of_splits (suc d) j l =
      let total = alternating_sum (suc d) (λ i. S (j + i) (j + i)) in
      let entry = S (suc (j + d)) in
      rw (add-suc j d)
      (cc (
        simp add-suc at (alternating_pascal d (λ i. S (j + i) (j + i))),
        alternating_of_splits d j (omega arith),
        simp suc-add at (alternating_of_splits d (suc j) (omega arith)),
        splits (j + d) j (omega arith) (omega arith),
        +ℤ-neg_ℤ_cancel total (pos (entry (suc j))),
        +ℤ-neg_ℤ_cancel (pos (entry j)) (pos (entry (suc j))),
      ))

module _ (c : ℕ → ℕ) (S : ℕ → ℕ → ℕ) (splits : SplitsBy c S) where
  -- All rows down to row K with the factors of the rows from theirs to K.
  scaled_splits : (K : ℕ) → Splits K (λ k j. S k j * product_between k K c)
  scaled_splits K k j k<K j≤k = rw (product_from K c k<K) (omega (arith, ap (λ z. z * product_between (suc k) K c) (splits k j j≤k)))

  last_factors : (k : ℕ) → product_between k k c ≡ 1
  last_factors k = product_none k c (le_refl k)

  -- The closed form: entry j of row k from the last entries of rows j to k.
  pub rows_alternating : {j k : ℕ} → j ≤ k → alternating_sum (k - j) (λ i. S (j + i) (j + i) * product_between (j + i) k c) ≡ pos (S k j)
  rows_alternating {j} {k} l =
      simp (add-sub_of_le l, last_factors k, mul-one)
      at (alternating_of_splits k (λ n i. S n i * product_between n k c) (scaled_splits k) (k - j) j (omega arith))

  -- Entry j of row k from the entries of the row that is s below it.
  rows_binomial : (s k j : ℕ) → j ≤ k → binomial_sum s (λ i. S (k + s) (j + i)) ≡ S k j * product_between k (k + s) c
  rows_binomial s k j l =
      simp (last_factors (k + s), mul-one)
      at (binomial_of_splits (k + s) (λ n i. S n i * product_between n (k + s) c) (scaled_splits (k + s)) s k j (le_refl (k + s)) l)

  -- The entries of row n, entry j with its count of orders and j times.
  pub rows_mean : (n : ℕ) → sum (suc n) (λ j. j * (choose n j * S n j)) * c 0 ≡ n * S 1 1 * product n c
  unfolding sum product
  rows_mean zero = omega arith
  rows_mean (suc n) =
      omega (
        arith,
        ap (λ z. z * c 0) (binomial_mean n (S (suc n))),
        ap (λ z. suc n * c 0 * z) (simp one-add at (rows_binomial n 1 1 (le_refl 1))),
        ap (λ z. suc n * S 1 1 * z) (simp one-add at (product_parts c 1 n)),
      )

  module _ (first : S 0 0 ≡ 1) where
    -- The entries of row n, each with its count of orders, add to the product of the factors.
    pub rows_total : (n : ℕ) → binomial_sum n (S n) ≡ product n c
    unfolding product
    rows_total n = omega (arith, simp (zero-add, first, one-mul) at (rows_binomial n 0 0 (le_refl 0)), simp (zero-add, one-mul) at (product_parts c 0 n))

    -- Both parts of an entry that is at most that product are.
    parts_at_most : {j k : ℕ} → j ≤ k → S k j ≤ product k c → (S (suc k) j ≤ product (suc k) c) × (S (suc k) (suc j) ≤ product (suc k) c)
    unfolding product
    parts_at_most {j} {k} l m = omega (arith, splits k j l, mul-le-mul_left (c k) m)

    pub rows_at_most : (k j : ℕ) → j ≤ k → S k j ≤ product k c
    rows_at_most zero zero l = unfold product in (omega (arith, first))
    rows_at_most zero (suc j) l = absurd (omega arith)
    rows_at_most (suc k) zero l = (parts_at_most {k = k} zero-le (rows_at_most k zero zero-le)).0
    rows_at_most (suc k) (suc j) l = (parts_at_most (le_of_suc-le-suc l) (rows_at_most k j (le_of_suc-le-suc l))).1

-- ---- alternating sums over two denominators

-- A term of an alternating sum counts among those with a plus, which have an even index, or among those with a minus.
part : (even : Bool) (i x : ℕ) → ℕ
part true zero x = x
part false zero x = 0
part even (suc i) x = part (not even) i x

signed_parts : (i x : ℕ) → signed i x ≡ pos (part true i x) -ℤ pos (part false i x)
unfolding signed part
signed_parts zero x = sym (+ℤ_idr (pos x))
signed_parts (suc i) x =
    let a : ℤ = pos (part true i x) in
    let b : ℤ = pos (part false i x) in
    cc (signed_parts i x, neg_ℤ-+ℤ a (neg_ℤ b), neg_ℤ-neg_ℤ b, +ℤ_comm (neg_ℤ a) b)

part_times : (even : Bool) (i x b : ℕ) → part even i x * b ≡ part even i (x * b)
unfolding part
part_times true zero x b = refl
part_times false zero x b = zero-mul b
part_times even (suc i) x b = part_times (not even) i x b

-- The terms with a plus or those with a minus.
parts : (even : Bool) (d : ℕ) → (ℕ → ℕ) → ℕ
parts even d h = sum (suc d) (λ i. part even i (choose d i * h i))

alternating_parts : (d : ℕ) (h : ℕ → ℕ) → alternating_sum d h ≡ pos (parts true d h) -ℤ pos (parts false d h)
unfolding alternating_sum parts
alternating_parts d h =
    differences_total (suc d) (λ i. signed i (choose d i * h i)) (λ i. part true i (choose d i * h i)) (λ i. part false i (choose d i * h i))
    (λ i l. signed_parts i (choose d i * h i))

module _ (d b c : ℕ) (f g : ℕ → ℕ) (same : (i : ℕ) → i ≤ d → f i * b ≡ g i * c) where
  parts_same : (even : Bool) → parts even d f * b ≡ parts even d g * c
  unfolding parts
  parts_same even = sum_as (suc d) b c _ _ (λ i l.
      part_times even i (choose d i * f i) b
      ∙ ap (part even i) (omega (arith, ap (λ z. choose d i * z) (same i (le_of_suc-le-suc l))))
      ∙ sym (part_times even i (choose d i * g i) c))

  -- If the terms f over c are the terms g over b, and the sum of g is not below zero, neither is that of f, and the sums are as the terms.
  pub alternating_same : {y : ℕ} → 0 < b → alternating_sum d g ≡ pos y
      → (alternating_sum d f ≡ pos (raise (alternating_sum d f))) × (raise (alternating_sum d f) * b ≡ y * c)
  unfolding raise
  alternating_same {y} positive is =
      let above : ℕ = parts true d f in
      let below : ℕ = parts false d f in
      let others : parts true d g ≡ y + parts false d g =
      ap raise (sym (-ℤ-+ℤ_cancel (pos (parts true d g)) (pos (parts false d g))) ∙ ap (λ z. z +ℤ pos (parts false d g)) (sym (alternating_parts d g) ∙ is)) in
      let scaled : b * above ≡ c * y + b * below = omega (arith, parts_same true, parts_same false, ap (λ z. c * z) others) in
      let order : below ≤ above = le_of_mul-le-mul_left {k = b} (omega arith) positive in
      let x : ℕ = above - below in
      let whole : above ≡ x + below = omega arith in
      let sum_is : alternating_sum d f ≡ pos x = alternating_parts d f ∙ ap (λ z. pos z -ℤ pos below) whole ∙ +ℤ-neg_ℤ_cancel (pos x) (pos below) in
      rw sum_is (refl, omega (arith, ap (λ z. b * z) whole))
