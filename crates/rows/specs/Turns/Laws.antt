-- The laws of one turn.
-- Assumes nothing.
use Prim.Native.Nat.{ℕ, suc, ◌+◌, ◌-◌, ◌≤◌, ◌<◌}
use Rattle.std.specs.Prelude.{◌≡◌, List, get_or, set}
use Rattle.std.proofs.Math.Path.{refl, ap, ap₂}
use Rattle.std.proofs.Common.{◌∙◌, zero-add, le_refl, le_of_lt}
use native.Mathlib.Omega.{arith}
use Rattle.std.proofs.Math.Decide.{dec_le}
use Rattle.std.proofs.Math.Numerals.{add-one}
use borrow.Author.Tests.{lt-ltb, le-ltb}
use Rattle.model.specs.Fraction.{complement}
use Rattle.model.specs.Passes.{pass, passed}
use Rattle.kept.specs.declared.Kept.{Kept}
use Rattle.kept.specs.declared.Side.{Side}
use Rattle.kept.specs.Rounding.{Operand, nought, rounded_product, rounded_sum}
use Rattle.steps.specs.CorrelatedBinomial.Exponents.{RowNumber, of_rows, is_a, is_ρ, is_q, is_conditional_product, is_conditional, is_joint}
use Rattle.steps.specs.CorrelatedBinomial.Exponents.{is_power, is_weight, is_passed, is_pass_product}
use Rattle.steps.proofs.Exponents.Laws.{ranged_operand}
use Rattle.steps.proofs.CorrelatedBinomial.Theorems.{exponents}
use Rattle.steps.specs.CorrelatedBinomial.Rows.{constant, kept_conditional, kept_joint, kept_power, kept_weight, kept_pass_step, kept_row}
use Rattle.steps.specs.Inputs.{working_assets, InRange}
use Rattle.steps.proofs.Inputs.Laws.{range_below}
use Rattle.working.specs.Working.{working_places, Entries, Changed}
use Rattle.working.specs.Working.Laws.{changed_none, changed_more}
use Rattle.working.specs.Slices.{SideStore, number_at, with_number, HasPlaces, Stored}
use Rattle.working.proofs.Slices.Laws.{standing_start, stored_none, stored_more}
use Rattle.rows.specs.declared.Recurrence.{Recurrence}
use Rattle.rows.specs.Turns.{recurrence, Continuable, Continued, Weighable, Passable, Passed, MadeFrom, Turnable, Turned}

-- Every number of steps 1 to 3 can be an operand.
row_operand : {side : Side} {n p ρ : ℕ} {x y : Kept} → InRange working_assets n p ρ → RowNumber side n p ρ y → x ≡ y → Operand x
row_operand {side} range number is = rw is (ranged_operand (exponents range side (of_rows number)))

-- ---- step 2

module _ {side : Side} {step : Recurrence} (ready : Continuable side step) where
  operand : {x y : Kept} → RowNumber side (suc ready.k) ready.p ready.ρ y → x ≡ y → Operand x
  operand = row_operand ready.range

  pub conditional_operands : Operand step.conditional × Operand step.q
  unfolding recurrence
  conditional_operands = rw ready.is (operand (is_conditional ready.k (omega arith)) refl, operand is_q refl)

  module _ {x : Kept} (product : x ≡ rounded_product side step.conditional step.q) where
    pub sum_operands : Operand x × Operand step.correlation
    unfolding recurrence
    sum_operands =
        rw ready.is (operand (is_conditional_product ready.k (omega arith)) (rw ready.is at product), operand is_ρ refl)

    pub joint_operands : {y : Kept} → y ≡ rounded_sum side x step.correlation → Operand step.joint × Operand y
    unfolding recurrence kept_conditional
    joint_operands sum =
        rw ready.is (
          operand (is_joint ready.k (omega arith)) refl,
          operand (is_conditional (suc ready.k) (le_refl _)) (rw (product, ready.is) at sum),
        )

pub continued : {side : Side} {step : Recurrence} {x y z : Kept} → x ≡ rounded_product side step.conditional step.q
    → y ≡ rounded_sum side x step.correlation → z ≡ rounded_product side step.joint y
    → Continued side step (record { correlation = step.correlation; q = step.q; conditional = y; joint = z })
unfolding recurrence kept_conditional kept_joint
continued product sum next = record { next = λ p ρ k is. rw (next, sum, product, is) refl }

-- ---- the weights

-- g_0 to g_(j−1) are put in h' where it was h, and `power` is q^j.
pub record Weighing (side : Side) (n p ρ j : ℕ) (a q power : Kept) (h h' : SideStore) : Type 0 where
  pub ready : Weighable n p ρ h
  pub a_is : a ≡ constant side (complement p)
  pub q_is : q ≡ constant side (complement ρ)
  pub power_is : power ≡ kept_power side ρ j
  pub weights : Stored (kept_weight side p ρ) j 0 h h'

module _ {side : Side} {n p ρ j : ℕ} {a q power : Kept} {h h' : SideStore} (at : Weighing side n p ρ j a q power h h') (l : j < n) where
  -- What g_j and q^(j+1) are made from.
  pub weight_operands : (Operand a × Operand power) × (Operand power × Operand q)
  weight_operands =
      let range = at.ready.range in
      let power_operand = row_operand range (is_power j (le_of_lt l)) at.power_is in
      ((row_operand range is_a at.a_is, power_operand), (power_operand, row_operand range is_q at.q_is))

  pub weighing_more : {x y : Kept} → x ≡ rounded_product side a power → y ≡ rounded_product side power q
      → Weighing side n p ρ (j + 1) a q y h (with_number x j h')
  unfolding kept_weight kept_power
  weighing_more weight next = record {
    ready = at.ready;
    a_is = at.a_is;
    q_is = at.q_is;
    power_is = rw (add-one j, next, at.power_is, at.q_is);
    weights =
        rw (zero-add j) at
        (stored_more at.weights (record { significands = omega arith; exponents = omega arith })
        (weight ∙ ap₂ (rounded_product side) at.a_is at.power_is));
  }

-- ---- the passes

-- The pass that follows s of them over row k, which were in w, has reached entry j, and u is what stands there.
pub record Passing (side : Side) (correlation : Kept) (k s j : ℕ) (w u : List Kept) : Type 0 where
  pub p : ℕ
  pub ρ : ℕ
  pub range : InRange working_assets k p ρ
  pub correlation_is : correlation ≡ constant side ρ
  pub entries : Entries working_places (suc k) w (passed (kept_pass_step side (constant side ρ)) (suc k) s (kept_row side p ρ k))
  pub changed : Changed working_places (suc k) j w u (λ i. kept_pass_step side correlation (get_or w i nought) (get_or w (suc i) nought))

pub passing_none : {side : Side} {k s from : ℕ} {correlation : Kept} {h : SideStore} {w : List Kept}
    → Passable side k from correlation h → Passed side correlation k s from h w → Passing side correlation k s 0 w w
passing_none ready done =
    let entries = rw ready.correlation_is at (done.entries _ ready.row) in
    record {
      p = ready.p;
      ρ = ready.ρ;
      range = ready.range;
      correlation_is = ready.correlation_is;
      entries = entries;
      changed = changed_none entries.places_are;
    }

module _ {side : Side} {correlation : Kept} {k s j : ℕ} {w u : List Kept} (at : Passing side correlation k s j w u) where
  pub passing_all : {from : ℕ} {h : SideStore} → Passed side correlation k s from h w → j ≡ k - s → Passed side correlation k (s + 1) from h u
  unfolding passed pass
  passing_all done e = rw (add-one s) (record {
    entries = λ f standing.
        let old = (done.entries f standing).entry in
        record {
          places_are = at.changed.new.places_are;
          entry = λ d i h. elim (dec_le (suc k - suc s) i) [
            | yes l ↦ rw (le-ltb i (suc k - suc s) l) (at.changed.old d i (omega arith) h ∙ old d i h)
            | no l ↦
                rw (lt-ltb i (suc k - suc s) (omega arith))
                (at.changed.new.entry d i (omega arith) ∙ ap₂ (kept_pass_step side correlation) (old nought i h) (old nought (suc i) (omega arith)))
          ];
        };
  })

  -- The next entry, and what it is made from.
  module _ (l : j < k) where
    unreached : (i : ℕ) → j ≤ i → i ≤ k
        → get_or u i nought ≡ passed (kept_pass_step side (constant side at.ρ)) (suc k) s (kept_row side at.p at.ρ k) i
    unreached i m h = at.changed.old nought i m (omega arith) ∙ at.entries.entry nought i (omega arith)

    pub pass_product_operands : Operand correlation × Operand (get_or u (j + 1) nought)
    pass_product_operands = (
      row_operand at.range is_ρ at.correlation_is,
      row_operand at.range (is_passed k s (j + 1) (le_refl k) (omega arith)) (unreached (j + 1) (omega arith) (omega arith)),
    )

    module _ {x : Kept} (product : x ≡ rounded_product side correlation (get_or u (j + 1) nought)) where
      pub pass_sum_operands : Operand (get_or u j nought) × Operand x
      pass_sum_operands = (
        row_operand at.range (is_passed k s j (le_refl k) (omega arith)) (unreached j (le_refl j) (omega arith)),
        row_operand at.range (is_pass_product k s (j + 1) (le_refl k) (omega arith))
            (product ∙ ap₂ (rounded_product side) at.correlation_is (unreached (j + 1) (omega arith) (omega arith))),
      )

      pub passing_more : {y : Kept} → y ≡ rounded_sum side (get_or u j nought) x → Passing side correlation k s (j + 1) w (set u j y)
      unfolding kept_pass_step working_places
      passing_more sum =
          let old = at.changed.old nought in
          record {
            p = at.p;
            ρ = at.ρ;
            range = at.range;
            correlation_is = at.correlation_is;
            entries = at.entries;
            changed =
                changed_more at.changed (omega (arith, at.range.assets))
                (rw (sum, product, old j (le_refl j) (omega arith), old (j + 1) (omega arith) (omega arith), add-one j));
          }

-- ---- one turn

module _ {side : Side} {k from : ℕ} {step : Recurrence} {weights h : SideStore} where
  correlation_made : {p ρ : ℕ} → MadeFrom side p ρ k from step weights h → step.correlation ≡ constant side ρ
  unfolding recurrence
  correlation_made made = ap (λ r. r.correlation) made.step_is

  pub turn_passable : {to : ℕ} → Turnable side k from to step weights h → Passable side k from step.correlation h
  turn_passable ready = record {
    p = ready.p;
    ρ = ready.ρ;
    range = range_below (omega arith) (le_refl working_assets) ready.range;
    correlation_is = correlation_made ready.made_from;
    row = ready.made_from.row;
  }

  module _ {w : List Kept} (passes : Passed side step.correlation k k from h w) {j : ℕ} (l : j < suc k) where
    after_passes : {p ρ : ℕ} → MadeFrom side p ρ k from step weights h
        → get_or w j nought ≡ passed (kept_pass_step side (constant side ρ)) (suc k) k (kept_row side p ρ k) j
    after_passes made = (rw (correlation_made made) at (passes.entries _ made.row)).entry nought j l

    module _ {g : Kept} (weight : g ≡ number_at weights j) where
      pub weighted_operands : {to : ℕ} → Turnable side k from to step weights h → Operand (get_or w j nought) × Operand g
      weighted_operands ready =
          let made = ready.made_from in (
            row_operand ready.range (is_passed k k j (omega arith) (omega arith)) (after_passes made),
            row_operand ready.range (is_weight j (omega arith)) (weight ∙ standing_start made.weight j l),
          )

      pub turned_more : {to : ℕ} {x : Kept} {h' : SideStore} → Turnable side k from to step weights h → x ≡ rounded_product side (get_or w j nought) g
          → Turned side k j from to step weights h h' → Turned side k (j + 1) from to step weights h (with_number x (to + j) h')
      unfolding kept_row
      turned_more ready product done = record {
        stored = λ made.
            stored_more (done.stored made) (record { significands = omega arith; exponents = omega arith })
            (rw (product, after_passes made, weight, standing_start made.weight j l, lt-ltb j (suc k) l));
      }

  -- The places of row k + 1 are still there.
  pub turned_room : {to m : ℕ} {h' : SideStore} → Turnable side k from to step weights h → Turned side k m from to step weights h h'
      → HasPlaces (to + suc (suc k)) h'
  turned_room ready done =
      let lengths = (done.stored ready.made_from).lengths in
      record { significands = omega arith; exponents = omega arith }

  pub turned_none : {to : ℕ} → Turned side k 0 from to step weights h h
  turned_none = record { stored = λ made. stored_none }

  -- The last entry is m_(k+1).
  pub turned_all : {to j : ℕ} {h' : SideStore} → Turnable side k from to step weights h → Turned side k j from to step weights h h' → j ≡ suc k
      → Turned side k (suc (suc k)) from to step weights h (with_number step.joint (to + suc k) h')
  unfolding kept_row recurrence
  turned_all ready done all =
      rw (← add-one (suc k)) (record {
        stored = λ made.
            stored_more ((rw all at done).stored made) ready.room
            (rw (le-ltb (suc k) (suc k) (le_refl (suc k))) (ap (λ r. r.joint) made.step_is));
      })
