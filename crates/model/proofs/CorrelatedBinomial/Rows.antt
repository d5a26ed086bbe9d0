-- The rows made by the passes split: P(j,k+1) + P(j+1,k+1) = P(j,k). From that alone follow the closed form, the total and the mean.
-- Assumes nothing.
use Prim.Native.Nat.{ℕ, zero, suc, ◌+◌, ◌*◌, ◌-◌, ◌^◌, ◌≤◌}
use Rattle.std.specs.Prelude.{◌≡◌}
use Rattle.std.proofs.Math.Path.{refl, ap}
use Rattle.std.proofs.Common.{◌∙◌, add-suc, suc-add, one-mul, le_refl, lt-ltb, le-ltb, pow-add}
use native.Mathlib.Omega.{arith}
use Rattle.std.proofs.Math.Nat.{add-zero, suc-sub-suc, pow-succ', pow-zero, mul-le-mul, mul-le-mul_left, eq_of_mul-eq-mul_left}
use Rattle.std.proofs.Math.Decide.{dec_le}
use Rattle.model.specs.Number.{sum, product, product_between, choose, binomial_sum, triangle}
use Rattle.model.specs.Number.Laws.{product_none, product_parts, pascal, binomial_times, triangle_mono}
use Rattle.model.specs.Splitting.{SplitsBy, rows_total, rows_mean, rows_at_most}
use Rattle.model.specs.Fraction.{whole, complement, whole_power_positive}
use Rattle.model.specs.Fraction.Laws.{complement_law, whole_once}
use Rattle.model.specs.Passes.{folded}
use Rattle.model.proofs.Passes.Laws.{passed_all}
use Rattle.model.specs.CorrelatedBinomial.{conditional, joint, pass_step, row_entry}

-- Passes over two rows of which one splits into the other.
folded_splits : (ρ c : ℕ) (f g : ℕ → ℕ) (s j : ℕ)
    → ((i : ℕ) → j ≤ i → i ≤ j + s → f i + f (suc i) ≡ c * g i)
    → folded (pass_step ρ) s f j + folded (pass_step ρ) s f (suc j) ≡ c * folded (pass_step ρ) s g j
unfolding folded pass_step
folded_splits ρ c f g zero j h = h j (le_refl j) (omega arith)
folded_splits ρ c f g (suc s) j h =
    omega (
      arith,
      ap (λ z. whole * z) (folded_splits ρ c f g s j (λ i l m. h i l (omega arith))),
      ap (λ z. ρ * z) (folded_splits ρ c f g s (suc j) (λ i l m. h i (omega arith) (omega arith))),
    )

-- The passes that reach an entry are a binomial sum.
pub folded_binomial : (ρ : ℕ) (f : ℕ → ℕ) (s j : ℕ) → folded (pass_step ρ) s f j ≡ binomial_sum s (λ i. whole ^ (s - i) * ρ ^ i * f (j + i))
unfolding folded pass_step
folded_binomial ρ f zero j = unfold binomial_sum sum choose in (rw (pow-zero whole, pow-zero ρ, add-zero j) (omega arith))
folded_binomial ρ f (suc s) j =
    let h : ℕ → ℕ = λ i. whole ^ (suc s - i) * ρ ^ i * f (j + i) in
    omega (
      arith,
      ap (λ z. whole * z) (folded_binomial ρ f s j),
      ap (λ z. ρ * z) (folded_binomial ρ f s (suc j)),
      pascal s h,
      binomial_times s whole h (λ i. whole ^ (s - i) * ρ ^ i * f (j + i))
          (λ i l. let more : suc s - i ≡ suc (s - i) = omega arith in rw (more, pow-succ' whole (s - i)) (omega arith)),
      binomial_times s ρ (λ i. h (suc i)) (λ i. whole ^ (s - i) * ρ ^ i * f (suc j + i))
          (λ i l. rw (suc-sub-suc s i, pow-succ' ρ i, add-suc j i, suc-add j i) (omega arith)),
    )

-- The factors by which the rows split, D^(i+1) for row i: those before row k, and those from row k up to row n.
pub powers_product : (k : ℕ) → product k (λ i. whole ^ suc i) ≡ whole ^ triangle k
unfolding product triangle
powers_product zero = rw (pow-zero whole)
powers_product (suc k) = rw (powers_product k, pow-add whole (triangle k) (suc k))

pub powers_between : (k n : ℕ) → product_between k n (λ i. whole ^ suc i) ≡ whole ^ (triangle n - triangle k)
powers_between k n = elim (dec_le k n) [
  | yes l ↦
      let d : ℕ = n - k in
      let there : k + d ≡ n = omega arith in
      let apart : triangle n ≡ triangle k + (triangle n - triangle k) = omega (arith, triangle_mono l) in
      let power = ap (λ t. whole ^ t) apart ∙ pow-add whole (triangle k) (triangle n - triangle k) in
      eq_of_mul-eq-mul_left (whole ^ triangle k) (whole_power_positive (triangle k)) _ _
      (omega (
        arith,
        power,
        powers_product n,
        ap (λ z. z * product_between k n (λ i. whole ^ suc i)) (powers_product k),
        rw there at (product_parts (λ i. whole ^ suc i) k d),
      ))
  | no l ↦
      let none : triangle n - triangle k ≡ 0 = omega (arith, triangle_mono {i = n} {k = k} (omega arith)) in
      rw (product_none n (λ i. whole ^ suc i) {k = k} (omega arith), none, pow-zero whole)
]

module _ (p ρ : ℕ) where
  -- Entry k of row k is m_k.
  pub row_last : (k : ℕ) → row_entry p ρ k k ≡ joint p ρ k
  unfolding row_entry joint
  row_last zero = refl
  row_last (suc k) = rw (le-ltb (suc k) (suc k) (le_refl (suc k)))

  -- The other entries of row k + 1 from those of row k. Entry j is reached by d = k − j passes.
  pub row_next : (k j d : ℕ) → j + d ≡ k → row_entry p ρ (suc k) j ≡ complement p * complement ρ ^ j * folded (pass_step ρ) d (row_entry p ρ k) j
  unfolding row_entry
  row_next k j d e =
      rw (lt-ltb j (suc k) (omega arith))
      (ap (λ z. complement p * complement ρ ^ j * z) (passed_all (pass_step ρ) (row_entry p ρ k) k j d e))

  module _ (p≤1 : p ≤ whole) (ρ≤1 : ρ ≤ whole) where
    -- 1 − p_(k+1) = a × q^k
    conditional_complement : (k : ℕ) → conditional p ρ k + complement p * complement ρ ^ k ≡ whole ^ suc k
    unfolding conditional
    conditional_complement zero = rw (pow-zero (complement ρ), whole_once) (omega (arith, complement_law p≤1))
    conditional_complement (suc k) =
        rw (pow-succ' (complement ρ) k, pow-succ' whole (suc k))
        (omega (
          arith,
          ap (λ z. z * complement ρ) (conditional_complement k),
          ap (λ z. whole ^ suc k * z) (complement_law ρ≤1),
        ))

    last_splits : (k : ℕ) → row_entry p ρ (suc k) k + row_entry p ρ (suc k) (suc k) ≡ whole ^ suc k * row_entry p ρ k k
    unfolding folded joint
    last_splits k =
        omega (
          arith,
          row_next k k 0 (add-zero k),
          row_last (suc k),
          ap (λ z. z * conditional p ρ k) (row_last k),
          ap (λ z. row_entry p ρ k k * z) (conditional_complement k),
        )

    -- P(j,k+1) + P(j+1,k+1) = P(j,k), as numerators.
    pub row_splits : {j k : ℕ} → j ≤ k → row_entry p ρ (suc k) j + row_entry p ρ (suc k) (suc j) ≡ whole ^ suc k * row_entry p ρ k j
    unfolding folded pass_step
    row_splits {j} {k = zero} l = let only : j ≡ 0 = omega arith in rw only (last_splits 0)
    row_splits {j} {k = suc k} l = elim (dec_le j k) [
      | yes m ↦
          let d : ℕ = k - j in
          let row : ℕ → ℕ = row_entry p ρ (suc k) in
          let g : ℕ = complement p * complement ρ ^ j in
          rw (row_next (suc k) j (suc d) (omega arith), row_next (suc k) (suc j) d (omega arith), row_next k j d (omega arith))
          (rw (pow-succ' (complement ρ) j, pow-succ' whole (suc k))
          (omega (
            arith,
            ap (λ z. g * (whole * z))
                (folded_splits ρ (whole ^ suc k) row (row_entry p ρ k) d j (λ i j≤i i≤k. row_splits {j = i} {k = k} (omega arith))),
            ap (λ z. g * folded (pass_step ρ) d row (suc j) * z) (complement_law ρ≤1),
          )))
      | no m ↦ let last : j ≡ suc k = omega arith in rw last (last_splits (suc k))
    ]

    pub rows_split : SplitsBy (λ k. whole ^ suc k) (row_entry p ρ)
    rows_split k j l = row_splits l

    -- The entries of row n, each with its count of orders, add to D^T(n).
    pub row_total : (n : ℕ) → binomial_sum n (λ j. row_entry p ρ n j) ≡ whole ^ triangle n
    unfolding row_entry
    row_total n = rows_total (λ k. whole ^ suc k) (row_entry p ρ) rows_split refl n ∙ powers_product n

    -- The same with j defaults counted j times.
    pub row_mean : (n : ℕ) → sum (suc n) (λ j. j * (choose n j * row_entry p ρ n j)) * whole ≡ n * p * whole ^ triangle n
    unfolding joint conditional
    row_mean n =
        simp (row_last 1, powers_product n, whole_once, one-mul) at (rows_mean (λ k. whole ^ suc k) (row_entry p ρ) rows_split n)

    -- P(j,k) is at most one.
    pub row_at_most : (k j : ℕ) → j ≤ k → row_entry p ρ k j ≤ whole ^ triangle k
    unfolding row_entry
    row_at_most k j l = rw (← powers_product k) (rows_at_most (λ i. whole ^ suc i) (row_entry p ρ) rows_split refl k j l)

    pub conditional_at_most : (k : ℕ) → conditional p ρ k ≤ whole ^ suc k
    conditional_at_most k = omega (arith, conditional_complement k)

    pub weight_at_most : (j : ℕ) → complement p * complement ρ ^ j ≤ whole ^ suc j
    weight_at_most j = omega (arith, conditional_complement j)

    pub joint_at_most : (k : ℕ) → joint p ρ k ≤ whole ^ triangle k
    joint_at_most k = rw (← row_last k) (row_at_most k k (le_refl k))

    -- A pass at most doubles an entry.
    pub folded_at_most : (k s j : ℕ) → j + s ≤ k → folded (pass_step ρ) s (row_entry p ρ k) j ≤ whole ^ (triangle k + s) * 2 ^ s
    unfolding folded pass_step
    folded_at_most k zero j l = rw (add-zero (triangle k)) (omega (arith, row_at_most k j (omega arith)))
    folded_at_most k (suc s) j l =
        rw (add-suc (triangle k) s, pow-succ' whole (triangle k + s), pow-succ' 2 s)
        (omega (
          arith,
          mul-le-mul_left whole (folded_at_most k s j (omega arith)),
          mul-le-mul ρ≤1 (folded_at_most k s (suc j) (omega arith)),
        ))
