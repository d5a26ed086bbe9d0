-- What is first, what holds of it, and that the test below the end alone decides.
-- Assumes nothing.
use Prim.Native.Nat.{ℕ, zero, suc, ◌+◌, ◌-◌, ◌<◌}
use Rattle.std.specs.Prelude.{◌≡◌, Bool, true, false, cond}
use Rattle.std.proofs.Math.Path.{refl}
use Rattle.std.proofs.Common.{ap, ◌∙◌, add-zero, zero-add}
use Rattle.std.proofs.Math.Decide.{dec_lt}
use native.Mathlib.Omega.{arith}
use Rattle.steps.specs.First.{first_from, NonePasses, IsFirst}

none_below_zero : {test : ℕ → Bool} → NonePasses test 0
none_below_zero = record { fails = λ i l. absurd (omega arith) }

none_more : {test : ℕ → Bool} (k : ℕ) → NonePasses test k → test k ≡ false → NonePasses test (suc k)
none_more k none failed = record {
  fails = λ i l. elim (dec_lt i k) [
    | yes less ↦ none.fails i less
    | no not ↦ let is : i ≡ k = omega arith in rw is failed
  ];
}

-- What holds of all that is made of a first, and of `none` where there is none, holds of what is made.
module _ {A : Type 0} (test : ℕ → Bool) (made : ℕ → A) (none : A) (P : A → Type 0) where
  by_test : (k : ℕ) (rest : A) → (test k ≡ true → P (made k)) → (test k ≡ false → P rest) → (t : Bool) → test k ≡ t → P (cond t (made k) rest)
  by_test k rest here later true passed = here passed
  by_test k rest here later false failed = later failed

  first_after : (many k : ℕ) → NonePasses test k → ((j : ℕ) → IsFirst test (k + many) j → P (made j)) → (NonePasses test (k + many) → P none)
      → P (first_from test made none many k)
  unfolding first_from
  first_after zero k before found never = never (rw (add-zero k) before)
  first_after (suc many) k before found never =
      let one_more : suc k + many ≡ k + suc many = omega arith in
      by_test k (first_from test made none many (suc k)) (λ passed. found k (record { within = omega arith; passes = passed; before = before }))
      (λ failed.
      first_after many (suc k) (none_more k before failed) (λ j first. found j (rw one_more at first)) (λ every. never (rw one_more at every)))
      (test k) refl

  pub first_holds : (end : ℕ) → ((k : ℕ) → IsFirst test end k → P (made k)) → (NonePasses test end → P none) → P (first_from test made none end 0)
  first_holds end found never =
      first_after end 0 none_below_zero (λ j first. found j (rw (zero-add end) at first)) (λ every. never (rw (zero-add end) at every))

-- Of the numbers from k on: k passes; k fails; k is the end.
module _ {A : Type 0} (test : ℕ → Bool) (made : ℕ → A) (none : A) (end k : ℕ) where
  from_here : k < end → (t : Bool) → test k ≡ t → first_from test made none (end - k) k ≡ cond t (made k) (first_from test made none (end - suc k) (suc k))
  unfolding first_from
  from_here l t is =
      let one_less : end - k ≡ suc (end - suc k) = omega arith in
      rw (one_less, is) refl

  pub first_here : k < end → test k ≡ true → first_from test made none (end - k) k ≡ made k
  first_here l passed = from_here l true passed

  pub first_later : k < end → test k ≡ false → first_from test made none (end - k) k ≡ first_from test made none (end - suc k) (suc k)
  first_later l failed = from_here l false failed

  pub first_never : k ≡ end → first_from test made none (end - k) k ≡ none
  unfolding first_from
  first_never all =
      let left : end - k ≡ 0 = omega arith in
      rw left refl

-- Tests that agree have the same first.
pub first_same : {A : Type 0} {test other : ℕ → Bool} (made : ℕ → A) (none : A) (many k : ℕ) → ((i : ℕ) → i < k + many → test i ≡ other i)
    → first_from test made none many k ≡ first_from other made none many k
unfolding first_from
first_same made none zero k agree = refl
first_same made none (suc many) k agree = rw (agree k (omega arith), first_same made none many (suc k) (λ i l. agree i (omega arith))) refl

-- A function of what is made of the first.
pub first_map : {A B : Type 0} (f : A → B) (test : ℕ → Bool) (made : ℕ → A) (none : A) (many k : ℕ)
    → f (first_from test made none many k) ≡ first_from test (λ i. f (made i)) (f none) many k
unfolding first_from
first_map f test made none zero k = refl
first_map f test made none (suc many) k = of_test (test k) ∙ ap (λ rest. cond (test k) (f (made k)) rest) (first_map f test made none many (suc k))
  where
    of_test : (t : Bool) → f (cond t (made k) (first_from test made none many (suc k))) ≡ cond t (f (made k)) (f (first_from test made none many (suc k)))
    of_test true = refl
    of_test false = refl
