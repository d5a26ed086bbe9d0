-- The running total of a mean of tails, and the tails of a row for it.
-- Assumes nothing.
use Rattle.std.specs.Prelude.{ℕ, suc, ◌+◌, ◌-◌, ◌≤◌, ◌<◌, ◌≡◌, refl, List, length, get_or, take, drop}
use Rattle.std.proofs.Common.{◌∙◌, add-one, arith, length-take-le, length-drop, get_or-take}
use Rattle.std.proofs.lemmas.List.{get_or-drop}
use Rattle.model.specs.Chances.{layer_width, layer_wide}
use Rattle.kept.specs.declared.Kept.{Kept}
use Rattle.kept.specs.declared.Side.{Side}
use Rattle.kept.specs.Rounding.{Operand, nought, rounded_sum, rounded_quotient}
use Rattle.steps.specs.Chances.{kept_total, kept_chances, kept_tail, kept_layer}
use Rattle.steps.proofs.Exponents.Laws.{ranged_operand}
use Rattle.steps.specs.Numbers.{is_tail, is_sum, of_tails, of_layers}
use Rattle.working.specs.Working.{working_places, Entries}
use Rattle.chances.specs.Chances.{ChancesMade}
use Rattle.chances.specs.Tails.{TailsMade}
use Rattle.layer_losses.specs.Layer.{MeanReady, MeanMade, BoundReady, BoundMade}

-- ---- the running total

-- The first t tails of the layer are added.
pub record MeanBelow (side : Side) (tails : List Kept) (i j t : ℕ) (total : Kept) : Type 0 where
  pub ready : MeanReady side tails i j
  pub within : t ≤ layer_width i j
  pub total_is : (tail : ℕ → Kept) → Entries (suc working_places) (suc j) tails tail → total ≡ kept_total side (λ t. tail (i + t)) t

pub mean_none : {side : Side} {tails : List Kept} {i j : ℕ} {zero : Kept} → MeanReady side tails i j → zero ≡ nought → MeanBelow side tails i j 0 zero
unfolding kept_total
mean_none ready none = record { ready = ready; within = omega arith; total_is = λ _ _. none }

module _ {side : Side} {tails : List Kept} {i j t : ℕ} {total : Kept} (done : MeanBelow side tails i j t total) where
  pub total_operand : Operand total
  total_operand = rw (done.total_is _ done.ready.entries) (ranged_operand (done.ready.sum_ranged t done.within))

  -- Of m tails from that at i on, which are no more than the layer has.
  module _ {m : ℕ} (few : m ≤ layer_width i j) where
    as_many : length (take m (drop i tails)) ≡ m
    unfolding working_places
    as_many =
        let rest : m ≤ length (drop i tails) = rw (length-drop i tails) (omega (arith, done.ready.layer, done.ready.entries.places_are)) in
        length-take-le m (drop i tails) rest

    -- The tail at i + t.
    module _ (more : t < length (take m (drop i tails))) (d : Kept) where
      within_part : t < m
      within_part = rw as_many at more

      within_layer : i + t ≤ j
      within_layer = omega (arith, within_part, few, done.ready.layer.order)

      tail_is : (tail : ℕ → Kept) → Entries (suc working_places) (suc j) tails tail → get_or (take m (drop i tails)) t d ≡ tail (i + t)
      tail_is tail e = get_or-take m (drop i tails) t d within_part ∙ get_or-drop i tails t d ∙ e.entry d (i + t) (omega (arith, within_layer))

      pub sum_operands : Operand total × Operand (get_or (take m (drop i tails)) t d)
      sum_operands = (total_operand, rw (tail_is _ done.ready.entries) (ranged_operand (done.ready.tail_ranged (i + t) within_layer)))

      pub tail_more : {x : Kept} → x ≡ rounded_sum side total (get_or (take m (drop i tails)) t d) → MeanBelow side tails i j (t + 1) x
      unfolding kept_total
      tail_more sum = rw (add-one t) (record {
        ready = done.ready;
        within = omega (arith, within_part, few);
        total_is = λ tail e. rw (sum, done.total_is tail e, tail_is tail e);
      })

  -- Once all are added.
  pub mean_made : {m : ℕ} {r : Kept} → m ≡ layer_width i j → length (take m (drop i tails)) ≤ t
      → ((wide : 0 < layer_width i j) → r ≡ rounded_quotient side total (layer_width i j) wide) → MeanMade side tails i j r
  mean_made {m} all most quotient =
      let as_wide : t ≡ layer_width i j = omega (arith, done.within, rw (as_many {m = m} (omega (arith, all))) at most) in
      record { mean = λ tail e. rw (quotient (layer_wide i j), done.total_is tail e, as_wide) refl }

-- ---- from row n of a side: c is what step 4 makes of it, and `tails` what step 5 makes of c

module _ {side : Side} {n : ℕ} {row c tails : List Kept} {i j : ℕ} (ready : BoundReady side n row i j) (chances : ChancesMade side n row c) (made : TailsMade side n c tails) where
  tails_within : {entry : ℕ → Kept} → Entries working_places (suc n) row entry → Entries (suc working_places) (suc j) tails (kept_tail side n (kept_chances side n entry))
  tails_within e =
      let all = made.tails_are _ (chances.chances _ e) in
      record { places_are = all.places_are; entry = λ d k l. all.entry d k (omega (arith, ready.layer.to)) }

  pub mean_ready : MeanReady side tails i j
  unfolding kept_tail
  mean_ready = record {
    layer = record { from = ready.layer.from; order = ready.layer.order; to = omega (arith, ready.layer.to, ready.steps.assets) };
    tail = kept_tail side n (kept_chances side n ready.steps.entry);
    entries = tails_within ready.steps.entries;
    tail_ranged = λ k l. ready.steps.ranged (of_tails (is_tail (suc n - k) (omega arith)));
    sum_ranged = λ m l. ready.steps.ranged (of_layers i j ready.layer.to (is_sum m l));
  }

  pub bound_made : {r : Kept} → MeanMade side tails i j r → BoundMade side n row i j r
  unfolding kept_layer
  bound_made mean = record { bound = λ entry e. mean.mean _ (tails_within e) }
