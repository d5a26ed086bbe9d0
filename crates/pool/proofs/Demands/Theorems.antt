-- The contract of each call implies what is demanded of it.
-- Assumes nothing.
use Rattle.std.specs.Prelude.{Result, Ok, Err, ℕ, suc, ◌+◌, ◌-◌, ◌*◌, ◌/◌, ◌≤◌, ◌<◌, ◌≡◌, ◌⊎◌, List, length, get_or, drop, ℤ, Float}
use Rattle.std.proofs.Math.Path.{refl, sym, subst}
use Rattle.std.proofs.Common.{ap, ◌∙◌, inl, inr, arith, lit<, lit≤, length-take, length-take-le, get_or-take}
use Rattle.std.proofs.Math.Bridge.{le_prop}
use Rattle.std.proofs.Math.Decide.{dec_le}
use Rattle.std.proofs.Math.ListN.{take, get_or-map, get_or-eq_default}
use Rattle.std.proofs.lemmas.List.{length-map, get_or-replicate}
use Rattle.model.specs.Number.{triangle}
use Rattle.model.specs.Number.Laws.{triangle_closed}
use Rattle.model.specs.Fraction.{Fraction, Same, AtMost, integer, whole, complement, over}
use Rattle.model.specs.Fraction.Laws.{same_refl, same_sym, same_trans, times_same, fraction_sum_same}
use Rattle.model.specs.Chances.{Chances, chance, expected_loss}
use Rattle.model.proofs.Chances.Laws.{layer_tranche, layer_tranche_wide}
use Rattle.model.specs.Touching.{Touching, total_loss, pool_loss}
use Rattle.model.specs.CorrelatedBinomial.{defaults}
use Rattle.model.proofs.CorrelatedBinomial.Theorems.{defaults_layer}
use Rattle.kept.specs.declared.Kept.{Kept}
use Rattle.kept.specs.declared.Side.{Side}
use Rattle.kept.specs.declared.Side.TheVariants.{Low, High}
use Rattle.kept.specs.Rounding.{OnSide, value, nought}
use Rattle.kept.specs.Rounding.Leading.{side_same}
use Rattle.kept.specs.Binary64.{least_shown, IsBinary64}
use Rattle.kept.specs.Binary64.Laws.{exact_value_lem}
use Rattle.steps.specs.CorrelatedBinomial.Rows.{kept_row}
use Rattle.steps.specs.Column.{units_of_certainty, exact_units, half, printed_tail, tenths}
use Rattle.steps.proofs.Column.Laws.{in_units_at_most, in_units_next, within_weaken}
use Rattle.steps.specs.Enclosure.{Enclosed}
use Rattle.steps.specs.declared.Tranche.{Tranche}
use Rattle.steps.specs.Loss.{untouched, raised_to_shown, carried, Says}
use Rattle.steps.specs.Tranches.{tranche_places, tranche_at, recoveries, lowers, uppers, TranchesTouch, exact_total, bound_total, carried_total}
use Rattle.steps.proofs.Tranches.Laws.{answer_length, losses_untouched}
use Rattle.steps.proofs.Layers.Laws.{layer_untouched}
use Rattle.steps.proofs.Loss.Laws.{raised_greater, least_shown_value}
use Rattle.steps.specs.Inputs.{up_to, largest_pool, fine_pool, distance_for, tenths_for, LayerInRange}
use Rattle.steps.proofs.Inputs.Laws.{up_to_both}
use Rattle.steps.specs.Promises.{HoldsSteps, HoldsColumn, HoldsLoss, HoldsTranche, HoldsLosses, HoldsLayer}
use Rattle.steps.specs.Chances.{kept_tail, kept_loss}
use Rattle.expected_losses.specs.Loss.{loss_of, losses_in}
use Rattle.expected_losses.specs.Loss.Laws.{one_loss}
use Rattle.working.specs.Slices.{overwritten, entries_after, number_at}
use Rattle.working.proofs.Slices.Laws.{overwritten_length, overwritten_later, entries_kept, entries_length, entries_later}
use Rattle.rows.specs.Store.{filled_side, stored}
use Rattle.rows.specs.Store.Laws.{stored_length}
use Rattle.grounds.specs.Grounds.{Ground, first_ground, column_grounds, EachAtLeast}
use Rattle.grounds.specs.Grounds.Laws.{row_accepted, entries_accepted, layer_accepted}
use Rattle.steps.specs.declared.Pool.{Pool}
use Rattle.expected_losses.specs.declared.Loss.{Loss}
use Rattle.expected_losses.specs.declared.Loss.TheVariants.{Untouched, Faint, Shown}
use Rattle.pool.specs.declared.losses.Answer.{Answer}
use Rattle.grounds.specs.declared.refusal.Refusal.{Refusal}
use Rattle.grounds.specs.Refusals.{refusal_number}
use Rattle.pool.specs.Answers.{loss_in}
use Rattle.store.specs.Stores.{Store, store, lengths, side_of, place, store_after}
use Rattle.store.specs.Calls.{Fills, fill_refusal, HandsRow, row_refusal}
use Rattle.store.proofs.Calls.Laws.{fills_kept, fills_head, fills_accepted}
use Rattle.pool.specs.Calls.{column_refusal, Prints, loss_refusal, RepliesLosses, Replies, layer_refusal, LayerReplies}
use Rattle.pool.specs.Demands.{kept_zero, parts_for, BoundDemands, StepsDemands, one_half, PrintedDemands, one_and_a_half, units_off, Demand3Column, Slices, significands_on, lent, number_on, lengths_of, from, TableDemands, StoreDemands, edge, BitsDemands, LossDemands, AnswerDemands, TrancheDemands, given_at, loss_at, Touch, Carries, CarriesTwo, loss_of_pool, added_up, SharedDemands, LossesDemands}
use Rattle.pool.specs.Demands.{FillDemands, RowDemands, EntriesDemands, ColumnDemandsBy, ColumnDemands, TranchesDemandsBy, TranchesDemands, loss_told, LayerLossDemands, LayerDemands}

-- The four slices of a store.
abbrev pub slices : Store → Slices
slices s = record {
  low_significands = s.low.significands;
  high_significands = s.high.significands;
  low_exponents = s.low.exponents;
  high_exponents = s.high.exponents;
}

-- They are lent in the order in which a contract takes them.
pub slices_lent : (low_significands high_significands : List ℕ) (low_exponents high_exponents : List ℤ)
    → slices (store low_significands high_significands low_exponents high_exponents) ≡ lent low_significands high_significands low_exponents high_exponents
unfolding store lent
slices_lent ls hs le he = refl

-- ---- the store

pub bounds_meet : {parts : ℕ} {low high : Kept} {v : Fraction} → Enclosed parts low high v → BoundDemands parts low high v
unfolding nought kept_zero
bounds_meet enclosed = record {
  two = record { from_below = enclosed.from_below; from_above = enclosed.from_above };
  three = record { apart = enclosed.distance; of_zero = enclosed.of_zero };
}

-- What steps 4 to 6 make of any row.
pub steps_meet : {parts : ℕ} {r : Chances} {c : Side → ℕ → Kept} {Made : Side → Kept → Type 0} → HoldsSteps parts r c Made → StepsDemands parts r.assets r c Made
steps_meet steps = record {
  chances = λ j l. bounds_meet (steps.enclosed.chances l);
  tails = λ k. bounds_meet (steps.enclosed.tails k);
  exponents = λ side number. let ranged = steps.ranged side number in (ranged.least, ranged.most);
}

-- What stands behind rows 0 to n in a slice that was filled.
later_filled : {A : Type 0} (side : Side) (n p ρ : ℕ) (field : Kept → A) (old : List A)
    → drop ((n + 1) * (n + 2) / 2) (overwritten (stored side p ρ field n) old) ≡ drop ((n + 1) * (n + 2) / 2) old
unfolding triangle
later_filled side n p ρ field old =
    let places : length (stored side p ρ field n) ≡ (n + 1) * (n + 2) / 2 = omega (arith, stored_length side p ρ field n, triangle_closed (suc n)) in
    overwritten_later (stored side p ρ field n) old places

-- Such a slice is as long as it was.
length_filled : {A : Type 0} (side : Side) (n p ρ : ℕ) (field : Kept → A) (old : List A) → triangle (suc n) ≤ length old
    → length (overwritten (stored side p ρ field n) old) ≡ length old
length_filled side n p ρ field old room = overwritten_length (stored side p ρ field n) old (omega (arith, stored_length side p ρ field n))

module _ {number : ℕ} {parts : ℕ → ℕ} {pool head head' : Pool} {before after : Store} {refusal : ℕ} (fills : Fills number parts pool head before after refusal head') where
  -- A refused call leaves the slices as they were.
  pub store_kept : (refusal ≡ 0 → ⊥) → slices after ≡ slices before
  store_kept some = ap slices (fills_kept fills some).0

  module _ (none : refusal ≡ 0) where
    made_on : (side : Side) (j k : ℕ) → j ≤ k → k ≤ pool.assets
        → number_on side (slices after) (k * (k + 1) / 2 + j) ≡ kept_row side pool.probability pool.correlation k j
    unfolding side_of number_at place
    made_on Low = (fills.holds none).made Low
    made_on High = (fills.holds none).made High

    table_meets : TableDemands pool parts (slices after)
    unfolding number_at place defaults
    table_meets = record {
      made = made_on;
      entries = λ j k l m. bounds_meet ((fills.holds none).enclosed j k l m);
      steps = steps_meet (fills.steps_hold none);
    }

    abbrev filled_is : Type 0
    filled_is = after ≡ store_after pool.assets pool.probability pool.correlation 0 before

    lengths_meet : EachAtLeast (triangle (suc pool.assets)) (lengths before) → lengths_of (slices after) ≡ lengths_of (slices before)
    unfolding store_after filled_side lengths
    lengths_meet room =
        let is : filled_is = rw none at fills.store_is in
        rw (
          is,
          length_filled Low pool.assets pool.probability pool.correlation (λ x. x.significand) before.low.significands room.0,
          length_filled High pool.assets pool.probability pool.correlation (λ x. x.significand) before.high.significands room.1.0,
          length_filled Low pool.assets pool.probability pool.correlation (λ x. x.exponent) before.low.exponents room.1.1.0,
          length_filled High pool.assets pool.probability pool.correlation (λ x. x.exponent) before.high.exponents room.1.1.1.0,
        ) refl

    later_meets : let places = (pool.assets + 1) * (pool.assets + 2) / 2 in from places (slices after) ≡ from places (slices before)
    unfolding store_after filled_side
    later_meets =
        let is : filled_is = rw none at fills.store_is in
        rw is (simp later_filled refl)

  pub store_meets : StoreDemands pool parts head (slices before) (slices after) refusal head'
  unfolding fill_refusal lengths largest_pool
  store_meets = record {
    head_is = fills_head fills;
    head_kept = λ some. (fills_kept fills some).1;
    accepted = fills.accepted;
    lengths = λ none. lengths_meet none (fills_accepted fills none).store;
    table = table_meets;
    later = later_meets;
  }

  -- With a slice beside the store, whatever grounds the call checks and whatever entries it writes.
  pub entries_meet : {A : Type 0} {grounds : List Ground} (f : ℕ → A) (old : List A) {new : List A} → number ≡ first_ground grounds
      → (refusal ≡ 0 → pool.assets < length old)
      → new ≡ entries_after pool.assets f refusal old → EntriesDemands pool parts grounds head (slices before) (slices after) old new refusal head'
  entries_meet f old is room entries = record {
    one = record { number = fills.refusal_is ∙ is; untouched = λ some. rw (store_kept some, entries_kept pool.assets f old entries some) refl };
    store = store_meets;
    entries_length = λ none. entries_length pool.assets f old entries none (room none);
    later_entries = entries_later pool.assets f old entries;
  }

pub fill_meets : {pool head head' : Pool} {before after : Store} {refusal : ℕ} → Fills (fill_refusal pool before) distance_for pool head before after refusal head'
    → FillDemands pool head (slices before) (slices after) refusal head'
unfolding fill_refusal lengths largest_pool up_to fine_pool distance_for parts_for
fill_meets fills = record { one = record { number = fills.refusal_is; untouched = store_kept fills }; store = store_meets fills }

-- ---- the row

significand_on : (side : Side) (s : Slices) (i : ℕ) → get_or (significands_on side s) i 0 ≡ (number_on side s i).significand
significand_on Low s i = refl
significand_on High s i = refl

pub row_meets : {n k : ℕ} {significands part : List ℕ} {refusal : ℕ} → HandsRow n k significands part → refusal ≡ row_refusal n k significands
    → RowDemands n k significands part refusal
unfolding row_refusal place largest_pool
row_meets {n} {k} {significands} hands is = record {
  number = is;
  refused = λ some. hands.refused_empty (λ none. some (is ∙ none));
  entries = λ none. hands.accepted_length (sym is ∙ none);
  entry = λ none. hands.entries (sym is ∙ none);
  of_filled = λ none parts pool s filled more side same j l.
      let row : k ≤ n = (row_accepted largest_pool n k (length significands) is none).row in
      hands.entries (sym is ∙ none) j l
      ∙ rw same (significand_on side s (k * (k + 1) / 2 + j) ∙ ap (λ x. x.significand) (filled.made side j k l (omega arith)));
}

-- ---- the column

-- The printed tails of any chances of the low side.
pub printed_meet : (n : ℕ) (low : ℕ → Kept) → PrintedDemands (kept_tail Low n low) (printed_tail n low)
unfolding units_of_certainty exact_units half one_half printed_tail
printed_meet n low = record {
  at_zero = refl;
  not_above = λ k. in_units_at_most (kept_tail Low n low (suc k));
  next_above = λ k. in_units_next (kept_tail Low n low (suc k));
}

-- 1.5 units, or 2.
off_within : (n : ℕ) → AtMost (tenths (tenths_for n)) (units_off n)
unfolding tenths tenths_for up_to fine_pool units_off one_and_a_half integer
off_within n = up_to_both (λ t off. AtMost (tenths t) off) 64 n (λ _. record { cross = lit≤ tt }) (λ _. record { cross = lit≤ tt })

-- The column of any row.
pub rows_meet : {r : Chances} (low : ℕ → Kept) {units : List ℕ} → HoldsColumn (tenths (tenths_for r.assets)) r low units
    → Demand3Column r.assets (kept_tail Low r.assets low) (printed_tail r.assets low) (chance r) units
unfolding units_of_certainty exact_units
rows_meet {r} low holds = record {
  printed_is = printed_meet r.assets low;
  difference = holds.difference;
  last = holds.last;
  total = holds.total;
  not_above = λ k l. (within_weaken (off_within r.assets) (holds.near k l)).not_above;
  not_below = λ k l. (within_weaken (off_within r.assets) (holds.near k l)).not_below;
}

module _ {pool head head' : Pool} {before after : Store} {units units' : List ℕ} {refusal : ℕ} where
  -- Whatever list refuses, at any distances.
  pub column_meets_by : {refuses : Pool → Store → List ℕ → ℕ} {parts : ℕ → ℕ} {grounds : List Ground} → Prints refuses parts pool head before after units units' refusal head'
      → refuses pool before units ≡ first_ground grounds → (refusal ≡ 0 → column_refusal pool before units ≡ 0)
      → ColumnDemandsBy pool parts grounds head (slices before) (slices after) units units' refusal head'
  unfolding defaults column_refusal column_grounds
  column_meets_by prints is by_library = record {
    leaves =
        entries_meet prints.fills _ _ is (λ none. (entries_accepted 8 largest_pool _ _ _ _ _ (lit< tt) refl (by_library none)).entries)
        prints.prints.units_are;
    column = λ none. rows_meet _ (prints.prints.holds_column none);
  }

  pub column_meets : Prints column_refusal distance_for pool head before after units units' refusal head'
      → ColumnDemands pool head (slices before) (slices after) units units' refusal head'
  unfolding column_refusal lengths largest_pool up_to fine_pool distance_for parts_for
  column_meets prints = column_meets_by prints refl (λ none. sym prints.fills.refusal_is ∙ none)

-- ---- the loss

-- The greater of a bound and 2^−800 is one of them.
either_of : (x : Kept) → Same (value (raised_to_shown x)) (value x) ⊎ Same (value (raised_to_shown x)) least_shown
either_of x = elim (raised_greater x).2 [
  | inl is ↦ inl (rw is same_refl)
  | inr is ↦ inr (rw is least_shown_value)
]

bits_meet : {x : Kept} {number : Float} → IsBinary64 x number → BitsDemands x number
bits_meet is = record { exactly = is.exact; sign = is.sign; exponent_field = is.exponent_field; fraction_field = is.fraction_field }

loss_meets : (parts : ℕ) (low high : Kept) (v : Fraction) (loss : Loss) → Says parts low high v (loss_of loss) → LossDemands low high loss
unfolding loss_of least_shown edge nought kept_zero
loss_meets parts low high v Untouched says = (says.low_zero, says.high_zero)
loss_meets parts low high v (Faint number) says = record {
  low_below = says.low_below;
  high_not_zero = says.high_not_zero;
  greater = raised_to_shown high;
  number_is = bits_meet says.is;
  from_high = (raised_greater high).0;
  from_edge = says.from_least;
  either = either_of high;
}
loss_meets parts low high v (Shown bounds) says =
    record { low_not_below = says.low_not_below; lower_is = bits_meet says.lower_is; upper_is = bits_meet says.upper_is }

-- What stands at a place of the answer, and what the contract says of it.
at_place : (losses : List Loss) (i : ℕ) → get_or (losses_in losses) i untouched ≡ loss_of (get_or losses i Untouched)
unfolding losses_in loss_of
at_place losses i = get_or-map loss_of losses i Untouched

untouched_there : (loss : Loss) → loss_of loss ≡ untouched → loss ≡ Untouched
unfolding loss_of
untouched_there loss is = one_loss loss Untouched is

-- A loss, from what holds of it.
answer_meets : {parts : ℕ} {bound : Side → Kept} {exact : Fraction} (loss : Loss) → HoldsLoss parts bound exact (loss_of loss) → AnswerDemands parts bound exact loss
answer_meets loss holds = record { bounds = bounds_meet holds.enclosed; says = loss_meets _ _ _ _ loss holds.says }

tranche_meets : {parts : ℕ} {r : Chances} {c : Side → ℕ → Kept} (t : Tranche) (loss : Loss) (wide : 0 < (t.upper - t.lower) * r.assets)
    → HoldsTranche parts r c t wide (loss_of loss) → TrancheDemands parts r c t loss
tranche_meets t loss wide holds = record { wide = wide; answer = answer_meets loss holds }

-- The numbers that a loss carries: there are two, and no others.
carries_meet : (parts : ℕ) (low high : Kept) (v : Fraction) (loss : Loss) → Says parts low high v (loss_of loss) → CarriesTwo loss
unfolding loss_of
carries_meet parts low high v Untouched says = record { low = integer 0; high = integer 0; carries = (same_refl, same_refl) }
carries_meet parts low high v (Faint number) says = record { low = integer 0; high = value (raised_to_shown high); carries = (same_refl, says.is.exact) }
carries_meet parts low high v (Shown bounds) says = record { low = value low; high = value high; carries = (says.lower_is.exact, says.upper_is.exact) }

carries_same : (loss : Loss) (low high : Fraction) → Carries low high loss → Same (carried Low (loss_of loss)) low × Same (carried High (loss_of loss)) high
unfolding loss_of carried
carries_same Untouched low high carries = (same_sym carries.0, same_sym carries.1)
carries_same (Faint number) low high carries = (same_sym carries.0, exact_value_lem number high carries.1)
carries_same (Shown bounds) low high carries = (exact_value_lem bounds.low low carries.0, exact_value_lem bounds.high high carries.1)

-- What is made of a tranche and its width is the same for the same tranche.
of_tranche : {X : Type 0} (n : ℕ) (f : (R A B : ℕ) → 0 < (B - A) * n → X) {t u : Tranche} → t ≡ u
    → (wide : 0 < (t.upper - t.lower) * n) (wide' : 0 < (u.upper - u.lower) * n) → f t.recovery t.lower t.upper wide ≡ f u.recovery u.lower u.upper wide'
of_tranche n f {t} is wide wide' =
    subst (λ u. (wide' : 0 < (u.upper - u.lower) * n) → f t.recovery t.lower t.upper wide ≡ f u.recovery u.lower u.upper wide') is
    (λ wide'. ap (f t.recovery t.lower t.upper) (le_prop wide wide')) wide'

equal_same : {x y : Fraction} → x ≡ y → Same x y
equal_same is = rw is same_refl

-- Tranches that touch.
module _ (tranches : List Tranche) (count : ℕ) (touch : Touch tranches count) where
  -- All of them are given.
  touch_count : count ≤ length tranches
  touch_count = elim (dec_le count (length tranches)) [
    | yes l ↦ l
    | no more ↦
        let past : length tranches ≤ count - 1 = omega arith in
        absurd (omega (arith, sym (ap (λ t. t.upper) (get_or-eq_default tranches (record { recovery = 0; lower = 0; upper = 0 }) past)) ∙ touch.last))
  ]

  some : 0 < count
  some = omega (arith, touch.some)

  as_many : length (take count tranches) ≡ count
  as_many = length-take-le count tranches touch_count

  at : (i : ℕ) → i < count → tranche_at (take count tranches) i ≡ given_at tranches i
  at i l = get_or-take count tranches i _ l

  recovery_at : (i : ℕ) → i < count → recoveries (take count tranches) i ≡ (given_at tranches i).recovery
  recovery_at i l = ap (λ t. t.recovery) (at i l)

  lower_at : (i : ℕ) → i < count → lowers (take count tranches) i ≡ (given_at tranches i).lower
  lower_at i l = ap (λ t. t.lower) (at i l)

  upper_at : (i : ℕ) → i < count → uppers (take count tranches) i ≡ (given_at tranches i).upper
  upper_at i l = ap (λ t. t.upper) (at i l)

  tranches_touch : TranchesTouch (take count tranches)
  unfolding whole
  tranches_touch =
      let ts = take count tranches in
      subst (λ m. Touching m (recoveries ts) (lowers ts) (uppers ts)) (sym as_many)
      (record {
        some = some;
        first = lower_at 0 some ∙ touch.first;
        next = λ i l. lower_at (suc i) l ∙ touch.next i l ∙ sym (upper_at i (omega arith));
        last = upper_at (count - 1) (omega (arith, some)) ∙ touch.last;
        one_recovery = λ i l. recovery_at i l ∙ touch.recoveries i l ∙ sym (recovery_at 0 some);
      })

  -- Losses that are the same add up to the same.
  added_same : {x : (i : ℕ) → i < length (take count tranches) → Fraction} {y : (i : ℕ) → i < count → Fraction}
      → ((i : ℕ) (l : i < length (take count tranches)) (h : i < count) → Same (x i l) (y i h))
      → Same (total_loss (length (take count tranches)) (lowers (take count tranches)) (uppers (take count tranches)) x) (added_up tranches count y)
  unfolding total_loss
  added_same same = fraction_sum_same as_many (λ i l h. rw (upper_at i h, lower_at i h) (times_same same_refl (same i l h)))

  module _ {g p : ℕ} {r : Chances} {c : Side → ℕ → Kept} (answer : Answer) (holds : HoldsLosses g p r c (take count tranches) (losses_in answer.losses)) where
    asked : (i : ℕ) → i < count → i < length (take count tranches)
    asked i l = rw as_many l

    amount : Same (pool_loss p (recoveries (take count tranches) 0)) (loss_of_pool p (given_at tranches 0).recovery)
    unfolding pool_loss loss_of_pool over complement whole
    amount = rw (recovery_at 0 some) (record { cross = refl })

    widths : (i : ℕ) → i < count → 0 < ((given_at tranches i).upper - (given_at tranches i).lower) * r.assets
    widths i l = rw (upper_at i l, lower_at i l) at (holds.wide i (asked i l))

    bounds_meet_on : (side : Side) → OnSide side
        (added_up tranches count (λ i l. let t = given_at tranches i in value (kept_loss side r.assets (c side) t.recovery t.lower t.upper (widths i l))))
        (loss_of_pool p (given_at tranches 0).recovery)
    unfolding bound_total
    bounds_meet_on side =
        side_same side (added_same (λ i l h. equal_same (ap value (of_tranche r.assets (kept_loss side r.assets (c side)) (at i h) _ _)))) amount
        ((holds.shares_out tranches_touch).bounds side)

    carried_meet_on : (side : Side) (x : ℕ → Fraction) → ((i : ℕ) → i < count → Same (carried side (loss_of (loss_at answer i))) (x i))
        → OnSide side (added_up tranches count (λ i l. x i)) (loss_of_pool p (given_at tranches 0).recovery)
    unfolding carried_total
    carried_meet_on side x same =
        side_same side (added_same (λ i l h. rw (at_place answer.losses i) (same i h))) amount ((holds.shares_out tranches_touch).carry side)

    shared_meets : SharedDemands p r c tranches count answer
    unfolding exact_total
    shared_meets = record {
      wide = widths;
      exact =
          same_trans (same_sym (added_same (λ i l h. equal_same (of_tranche r.assets (expected_loss r) (at i h) _ _))))
          (same_trans (holds.shares_out tranches_touch).exact amount);
      low_bounds = bounds_meet_on Low;
      high_bounds = bounds_meet_on High;
      carried = λ i l.
          carries_meet _ _ _ _ (loss_at answer i) (rw (at_place answer.losses i) at (holds.loss i (asked i l) (holds.wide i (asked i l))).says);
      low_carried = λ low high carries. carried_meet_on Low low (λ i l. (carries_same _ _ _ (carries i l)).0);
      high_carried = λ low high carries. carried_meet_on High high (λ i l. (carries_same _ _ _ (carries i l)).1);
    }

-- The losses that any call answers, for eight tranches.
pub losses_meet : {parts p : ℕ} {r : Chances} {c : Side → ℕ → Kept} {tranches : List Tranche} {count : ℕ} (answer : Answer) → length tranches ≡ 8
    → RepliesLosses parts p r c (take count tranches) (refusal_number answer.outcome) (losses_in answer.losses) → LossesDemands parts p r c tranches count answer
unfolding tranche_places losses_in
losses_meet {parts} {p} {r} {c} {tranches} {count} answer eight replies = record {
  eight =
      sym (length-map answer.losses loss_of) ∙ ap length replies.losses_are
      ∙ answer_length r.assets c (take count tranches) (refusal_number answer.outcome) (omega (arith, length-take count tranches, eight));
  within = λ none i l m.
      let holds = replies.holds_losses none in
      let asked : i < length (take count tranches) = omega (arith, length-take count tranches, eight) in
      subst (λ t. TrancheDemands parts r c t (loss_at answer i)) (get_or-take count tranches i _ m)
      (tranche_meets _ _ (holds.wide i asked) (rw (at_place answer.losses i) at (holds.loss i asked (holds.wide i asked))));
  past = λ none i l m.
      untouched_there _ (sym (at_place answer.losses i) ∙ (replies.holds_losses none).past i (omega (arith, length-take count tranches, eight)));
  shared = λ none touch. shared_meets tranches count touch answer (replies.holds_losses none);
  refused = λ some i l.
      untouched_there _ (sym (at_place answer.losses i) ∙ rw (replies.losses_are ∙ sym (losses_untouched _ _ _ _ some)) (get_or-replicate tranche_places i untouched untouched l));
}

module _ {pool head head' : Pool} {tranches : List Tranche} {count : ℕ} {before after : Store} (answer : Answer) where
  -- Whatever list refuses, at any distances.
  pub tranches_meet_by : {refuses : Pool → List Tranche → ℕ → Store → ℕ} {parts : ℕ → ℕ} {grounds : List Ground} → length tranches ≡ 8
      → Replies refuses parts pool head tranches count before after (refusal_number answer.outcome) head' (losses_in answer.losses)
      → refuses pool tranches count before ≡ first_ground grounds → TranchesDemandsBy pool head tranches count parts grounds (slices before) (slices after) answer head'
  tranches_meet_by eight replies first = record {
    one = record { number = replies.fills.refusal_is ∙ first; untouched = store_kept replies.fills };
    store = store_meets replies.fills;
    losses = losses_meet answer eight replies.replies;
  }

  pub tranches_meet : length tranches ≡ 8 → Replies loss_refusal distance_for pool head tranches count before after (refusal_number answer.outcome) head' (losses_in answer.losses)
      → TranchesDemands pool head tranches count (slices before) (slices after) answer head'
  unfolding loss_refusal lengths largest_pool up_to fine_pool distance_for parts_for
  tranches_meet eight replies = tranches_meet_by eight replies refl

-- ---- the layer

-- The layer of any row.
layer_loss_meets : {parts : ℕ} {r : Chances} {c : Side → ℕ → Kept} {i j : ℕ} (loss : Loss) → LayerInRange r.assets i j → HoldsLayer parts r c i j (loss_of loss)
    → LayerLossDemands parts r c i j loss
unfolding whole
layer_loss_meets {r} {i} {j} loss layer holds = record {
  answer = answer_meets loss holds;
  of_tranche = λ A B lower upper.
      let wide = layer_tranche_wide r i j A B layer.from layer.order lower upper in
      record { wide = wide; same = layer_tranche r i j A B layer.from layer.order lower upper wide };
}

-- The loss that an answer stands for.
told_meets : (answer : Result Loss Refusal) → loss_in answer ≡ loss_told answer
told_meets (Ok loss) = refl
told_meets (Err refusal) = refl

pub layer_meets : {pool head head' : Pool} {i j : ℕ} {before after : Store} (answer : Result Loss Refusal)
    → LayerReplies pool head i j before after (refusal_number answer) head' (loss_of (loss_in answer)) → LayerDemands pool head i j (slices before) (slices after) answer head'
unfolding defaults layer_refusal lengths largest_pool up_to fine_pool distance_for parts_for over whole
layer_meets {pool} {i} {j} answer is =
    let replies = rw (told_meets answer) at is in
    let accepted = layer_accepted largest_pool _ _ _ _ _ _ replies.fills.refusal_is in
    record {
      one = record { number = replies.fills.refusal_is; untouched = store_kept replies.fills };
      store = store_meets replies.fills;
      layer = λ none. layer_loss_meets (loss_told answer) (accepted none).layer (replies.replies.holds_loss none);
      of_all = λ none.
          let given = (accepted none).fill.pool in
          record { cross = (defaults_layer pool.probability pool.correlation given.range.probability given.range.correlation pool.assets given.not_empty).cross };
      refused = λ some. untouched_there _ (replies.replies.loss_is ∙ sym (layer_untouched _ _ _ _ _ some));
    }
