-- The eight losses, place by place and as a loop makes them.
-- Assumes nothing.
use Prim.Native.Nat.{ℕ, zero, suc, ◌-◌, ◌*◌, ◌≤◌, ◌<◌}
use Rattle.std.specs.Prelude.{◌≡◌, get_or, set, take, replicate}
use Rattle.std.proofs.Math.Path.{refl, ap}
use Rattle.std.proofs.Common.{◌∙◌, arith, length-append}
use mathlib.Core.List.{List, [], ◌∷◌, ◌++◌, map}
use Rattle.std.proofs.Math.Bridge.{le_prop}
use Rattle.std.proofs.Math.Decide.{dec_lt}
use Rattle.std.proofs.Math.Nat.{sub-zero, suc-sub-suc}
use Rattle.std.proofs.Math.ListN.{length, length-map}
use Rattle.std.proofs.lemmas.List.{length-replicate}
use Rattle.model.specs.Fraction.{Fraction}
use Rattle.model.specs.Chances.{Chances, expected_loss}
use Rattle.model.specs.Touching.{total_loss}
use Rattle.model.proofs.Touching.Laws.{total_mono}
use Rattle.kept.specs.declared.Kept.{Kept}
use Rattle.kept.specs.declared.Side.{Side}
use Rattle.kept.specs.declared.Side.TheVariants.{Low, High}
use Rattle.kept.specs.Rounding.{OnSide}
use Rattle.steps.specs.declared.Tranche.{Tranche}
use Rattle.steps.specs.Chances.{kept_loss}
use Rattle.steps.specs.Loss.{LossAnswer, untouched, loss_answer}
use Rattle.steps.specs.Tranches.{tranche_places, tranche_at, recoveries, lowers, uppers, TranchesWide, tranche_loss, tranche_losses, losses_after, exact_total}

-- ---- a list that is filled up to a length

module _ {A B : Type 0} (f : A → B) (u : B) (d : A) where
  at_place : (xs : List A) (zs : List B) (i : ℕ) → i < length xs → get_or (map f xs ++ zs) i u ≡ f (get_or xs i d)
  at_place [] zs i l = absurd (omega arith)
  at_place (x ∷ xs) zs zero l = refl
  at_place (x ∷ xs) zs (suc i) l = at_place xs zs i (omega arith)

  replicated : (k i : ℕ) → get_or (replicate k u) i u ≡ u
  replicated zero i = refl
  replicated (suc k) zero = refl
  replicated (suc k) (suc i) = replicated k i

  past_places : (xs : List A) (k i : ℕ) → length xs ≤ i → get_or (map f xs ++ replicate k u) i u ≡ u
  past_places [] k i l = replicated k i
  past_places (x ∷ xs) k zero l = absurd (omega arith)
  past_places (x ∷ xs) k (suc i) l = past_places xs k i (omega arith)

  -- Stored at its place, the next of them takes the place of a filling.
  next_place : (m : ℕ) (xs : List A) (i : ℕ) → i < length xs → i < m
      → set (map f (take i xs) ++ replicate (m - length (take i xs)) u) i (f (get_or xs i d)) ≡ map f (take (suc i) xs) ++ replicate (m - length (take (suc i) xs)) u
  next_place m [] i l b = absurd (omega arith)
  next_place zero (x ∷ xs) i l b = absurd (omega arith)
  next_place (suc m) (x ∷ xs) zero l b = rw (sub-zero (suc m), suc-sub-suc m 0, sub-zero m) refl
  next_place (suc m) (x ∷ xs) (suc i) l b =
      rw (suc-sub-suc m (length (take i xs)), suc-sub-suc m (length (take (suc i) xs))) (ap (λ r. f x ∷ r) (next_place m xs i (omega arith) (omega arith)))

-- ---- the losses of tranches

module _ (n : ℕ) (c : Side → ℕ → Kept) where
  module _ (t : Tranche) where
    -- What the bounds of step 6 give.
    abbrev answered : 0 < (t.upper - t.lower) * n → LossAnswer
    answered wide = loss_answer (kept_loss Low n (c Low) t.recovery t.lower t.upper wide) (kept_loss High n (c High) t.recovery t.lower t.upper wide)

    -- The loss of a tranche that has a width.
    pub tranche_loss_is : (wide : 0 < (t.upper - t.lower) * n) → tranche_loss n c t ≡ answered wide
    unfolding tranche_loss
    tranche_loss_is wide = elim (dec_lt 0 ((t.upper - t.lower) * n)) as (λ d. elim d as (λ _. LossAnswer) [ yes w ↦ answered w | no _ ↦ untouched ] ≡ answered wide) [
      | yes w ↦ ap answered (le_prop w wide)
      | no none ↦ absurd (none wide)
    ]

    -- Of one tranche: its loss, and seven places untouched.
    pub losses_of_one : (wide : 0 < (t.upper - t.lower) * n) → tranche_losses n c (t ∷ []) ≡ answered wide ∷ replicate 7 untouched
    unfolding tranche_losses tranche_places
    losses_of_one wide = rw (tranche_loss_is wide) refl

  module _ (ts : List Tranche) (i : ℕ) where
    -- At the place of a tranche, and past them.
    pub losses_at : i < length ts → get_or (tranche_losses n c ts) i untouched ≡ tranche_loss n c (tranche_at ts i)
    unfolding tranche_losses
    losses_at l = at_place (tranche_loss n c) untouched _ ts _ i l

    pub losses_past : length ts ≤ i → get_or (tranche_losses n c ts) i untouched ≡ untouched
    unfolding tranche_losses
    losses_past l = past_places (tranche_loss n c) untouched (tranche_at ts i) ts (tranche_places - length ts) i l

    -- One more.
    pub losses_more : (d : Tranche) {loss : LossAnswer} → i < length ts → i < tranche_places → loss ≡ tranche_loss n c (get_or ts i d)
        → set (tranche_losses n c (take i ts)) i loss ≡ tranche_losses n c (take (suc i) ts)
    unfolding tranche_losses
    losses_more d l b is = rw is (next_place (tranche_loss n c) untouched d tranche_places ts i l b)

  -- Of at most eight tranches there are eight.
  losses_length : (ts : List Tranche) → length ts ≤ tranche_places → length (tranche_losses n c ts) ≡ tranche_places
  unfolding tranche_losses
  losses_length ts few = simp (length-append, length-map, length-replicate) (omega arith)

  pub answer_length : (ts : List Tranche) (refusal : ℕ) → length ts ≤ tranche_places → length (losses_after n c ts refusal) ≡ tranche_places
  unfolding losses_after tranche_places
  answer_length ts zero few = losses_length ts few
  answer_length ts (suc refusal) few = losses_length [] (omega arith)

  -- A refused call, and an accepted one.
  pub losses_untouched : (ts : List Tranche) (refusal : ℕ) → (refusal ≡ 0 → ⊥) → replicate tranche_places untouched ≡ losses_after n c ts refusal
  unfolding losses_after tranche_losses tranche_places
  losses_untouched ts zero some = absurd (some refl)
  losses_untouched ts (suc refusal) some = refl

  pub losses_accepted : (ts : List Tranche) {refusal : ℕ} {losses : List LossAnswer} → refusal ≡ 0 → losses ≡ losses_after n c ts refusal → losses ≡ tranche_losses n c ts
  unfolding losses_after
  losses_accepted ts none are = are ∙ rw none refl

-- ---- what tranches lose together

-- Numbers that are each on a side of the exact loss add to one that is on that side of what the exact losses add to.
pub total_on_side : (side : Side) (r : Chances) (ts : List Tranche) (wide : TranchesWide r.assets ts) (x : (i : ℕ) → i < length ts → Fraction)
    → ((i : ℕ) (l : i < length ts) → OnSide side (x i l) (expected_loss r (recoveries ts i) (lowers ts i) (uppers ts i) (wide i l)))
    → OnSide side (total_loss (length ts) (lowers ts) (uppers ts) x) (exact_total r ts wide)
unfolding exact_total
total_on_side Low r ts wide x = total_mono (length ts) (lowers ts) (uppers ts)
total_on_side High r ts wide x = total_mono (length ts) (lowers ts) (uppers ts)
