-- Loss units, the running total of an expected loss, the losses of tranches one after the other, and which answer it is.
-- Assumes nothing.
use Rattle.std.specs.Prelude.{ℕ, zero, suc, ◌+◌, ◌-◌, ◌*◌, ◌^◌, ◌≤◌, ◌<◌, ◌≡◌, refl, List, [], ◌∷◌, map, length, get_or, set, take, replicate}
use Rattle.std.proofs.Common.{sym, ◌∙◌, add-one, arith, length-take-le, Fits}
use Rattle.std.proofs.Math.Path.{ap}
use Rattle.std.proofs.Math.Nat.{mul-le-mul}
use Rattle.std.proofs.Math.ListN.{length-set}
use Rattle.std.proofs.lemmas.List.{length-map, take_all}
use Rattle.std.specs.Int.{w32}
use Rattle.model.specs.Fraction.{whole}
use Rattle.model.specs.Chances.{loss_units}
use Rattle.kept.specs.declared.Kept.{Kept}
use Rattle.kept.specs.declared.Side.{Side}
use Rattle.kept.specs.declared.Side.TheVariants.{Low, High}
use Rattle.kept.specs.Rounding.{Operand, of_integer, rounded_product, rounded_sum, rounded_quotient}
use Rattle.steps.specs.Chances.{kept_total, kept_term, kept_loss}
use Rattle.steps.proofs.Chances.Laws.{units_either}
use Rattle.steps.proofs.Exponents.Laws.{ranged_operand}
use Rattle.steps.specs.Inputs.{working_assets, TrancheInRange}
use Rattle.steps.specs.declared.Tranche.{Tranche}
use Rattle.steps.specs.Loss.{untouched}
use Rattle.steps.specs.Tranches.{tranche_places, tranche_losses}
use Rattle.steps.proofs.Tranches.Laws.{losses_more}
use Rattle.steps.specs.Numbers.{is_units, is_term, is_total, of_losses}
use Rattle.working.specs.Working.{working_places, Entries}
use Rattle.working.specs.Working.Laws.{entries_more}
use Rattle.chances.specs.Chances.{ChancesMade}
use Rattle.chances.specs.Chances.Laws.{entry_operand, chances_ready}
use Rattle.expected_losses.specs.declared.Loss.{Loss}
use Rattle.expected_losses.specs.declared.Loss.TheVariants.{Untouched, Faint, Shown}
use Rattle.expected_losses.specs.Loss.{UnitsMade, LossReady, LossMade, loss_of, TrancheAnswered, EachReady, EachAnswered, losses_in, TranchesReady}

-- ---- loss units

-- The product of two numbers of basis points fits an i32, and so a word.
pub basis_points_signed : {x y : ℕ} → x ≤ whole → y ≤ whole → x * y < 2 ^ 31
unfolding whole
basis_points_signed l m = omega (arith, mul-le-mul l m)

pub basis_points_word : {x y : ℕ} → x ≤ whole → y ≤ whole → Fits w32 (x * y)
basis_points_word l m = record { fits = omega (arith, basis_points_signed l m) }

-- ---- loss units in kept numbers

-- Those of fewer than X defaults are made in r.
pub record UnitsBelow (n : ℕ) (t : Tranche) (X : ℕ) (r : List Kept) : Type 0 where
  pub assets : n ≤ working_assets
  pub tranche : TrancheInRange t.recovery t.lower t.upper
  pub within : X ≤ suc n
  pub made : (side : Side) → Entries working_places X r (λ X. of_integer side (loss_units n t.recovery t.lower t.upper X))

module _ {n : ℕ} {t : Tranche} {X : ℕ} {r : List Kept} (done : UnitsBelow n t X r) where
  pub units_more : X ≤ n → {u : ℕ} {x : Kept} → u ≡ loss_units n t.recovery t.lower t.upper X → x ≡ of_integer Low u → UnitsBelow n t (X + 1) (set r X x)
  unfolding working_places working_assets whole
  units_more l units is =
      let part : t.upper - t.lower ≤ whole = omega (arith, done.tranche.upper) in
      let narrow : (t.upper - t.lower) * n < 2 ^ 32 = omega (arith, mul-le-mul part done.assets) in
      record {
        assets = done.assets;
        tranche = done.tranche;
        within = omega arith;
        made = λ side.
            entries_more (done.made side) (omega (arith, done.assets))
            (is ∙ ap (of_integer Low) units ∙ units_either Low side n t.recovery t.lower t.upper X narrow);
      }

  pub units_all : X ≡ suc n → UnitsMade n t r
  units_all all = record { units = rw all at done.made }

-- ---- the running total

-- The terms of fewer than X defaults are added.
pub record LossBelow (side : Side) (n : ℕ) (chances units : List Kept) (t : Tranche) (X : ℕ) (total : Kept) : Type 0 where
  pub ready : LossReady side n chances t
  pub units_are : UnitsMade n t units
  pub within : X ≤ suc n
  pub terms : (c : ℕ → Kept) → Entries working_places (suc n) chances c → total ≡ kept_total side (kept_term side n c t.recovery t.lower t.upper) X

module _
    {side : Side} {n : ℕ} {chances units : List Kept} {t : Tranche} {X : ℕ} {total : Kept} (done : LossBelow side n chances units t X total) where
  pub total_operand : Operand total
  total_operand = rw (done.terms _ done.ready.entries) (ranged_operand (done.ready.ranged (is_total X done.within)))

  -- The term of X defaults.
  module _ (l : X ≤ n) (d : Kept) where
    units_is : get_or units X d ≡ of_integer side (loss_units n t.recovery t.lower t.upper X)
    units_is = (done.units_are.units side).entry d X (omega arith)

    pub product_operands : Operand (get_or chances X d) × Operand (get_or units X d)
    product_operands = (
      entry_operand done.ready.entries done.ready.entry_ranged d X l,
      rw units_is (ranged_operand (done.ready.ranged (is_units X l))),
    )

    module _ {y : Kept} (product : y ≡ rounded_product side (get_or chances X d) (get_or units X d)) where
      term_is : (c : ℕ → Kept) → Entries working_places (suc n) chances c → y ≡ kept_term side n c t.recovery t.lower t.upper X
      unfolding kept_term
      term_is c e = rw (product, e.entry d X (omega arith), units_is)

      pub sum_operands : Operand total × Operand y
      sum_operands = (total_operand, rw (term_is _ done.ready.entries) (ranged_operand (done.ready.ranged (is_term X l))))

      pub term_more : {z : Kept} → z ≡ rounded_sum side total y → LossBelow side n chances units t (X + 1) z
      unfolding kept_total
      term_more sum = rw (add-one X) (record {
        ready = done.ready;
        units_are = done.units_are;
        within = omega arith;
        terms = λ c e. rw (sum, done.terms c e, term_is c e);
      })

  pub loss_made : {r : Kept} → X ≡ suc n → ((wide : 0 < (t.upper - t.lower) * n) → r ≡ rounded_quotient side total ((t.upper - t.lower) * n) wide)
      → LossMade side n chances t r
  unfolding kept_loss
  loss_made all quotient = record { loss = λ c e wide. rw (quotient wide, done.terms c e, all) }

-- ---- the losses of tranches, one after the other

map_set : {A B : Type 0} (f : A → B) (xs : List A) (i : ℕ) (x : A) → map f (set xs i x) ≡ set (map f xs) i (f x)
map_set f [] i x = refl
map_set f (y ∷ ys) zero x = refl
map_set f (y ∷ ys) (suc i) x = ap (λ r. f y ∷ r) (map_set f ys i x)

-- The losses of the first i tranches are made.
pub record LossesBelow (n : ℕ) (low high : List Kept) (ts : List Tranche) (i : ℕ) (losses : List Loss) : Type 0 where
  pub ready : EachReady n low high ts
  pub within : i ≤ length ts
  pub places_are : length losses ≡ tranche_places
  pub made : EachAnswered n low high (take i ts) (losses_in losses)

pub losses_none : {n : ℕ} {low high : List Kept} {ts : List Tranche} (losses : List Loss) → EachReady n low high ts
    → losses_in losses ≡ replicate tranche_places untouched → LossesBelow n low high ts 0 losses
unfolding losses_in tranche_losses tranche_places
losses_none losses ready are = record {
  ready = ready;
  within = omega arith;
  places_are = sym (length-map losses loss_of) ∙ ap length are;
  made = record { answers_are = λ _ _. are };
}

module _ {n : ℕ} {low high : List Kept} {ts : List Tranche} {i : ℕ} {losses : List Loss} (done : LossesBelow n low high ts i losses) where
  pub loss_more : i < length ts → (d : Tranche) (loss : Loss) → TrancheAnswered n low high (get_or ts i d) (loss_of loss)
      → LossesBelow n low high ts (i + 1) (set losses i loss)
  unfolding losses_in
  loss_more l d loss answered = rw (add-one i) (record {
    ready = done.ready;
    within = omega arith;
    places_are = length-set losses i loss ∙ done.places_are;
    made = record {
      answers_are = λ c on.
          map_set loss_of losses i loss
          ∙ rw (done.made.answers_are c on) (losses_more n c ts i d l (omega (arith, done.ready.places)) (answered.answer_is c on));
    };
  })

  pub losses_all : i ≡ length ts → EachAnswered n low high ts (losses_in losses)
  losses_all all = rw (take_all i ts (omega arith)) at done.made

-- From rows that are ready: low' and high' are the chances that step 4 makes of them.
pub each_ready : {n : ℕ} {low high low' high' : List Kept} {ts : List Tranche} {count : ℕ} → TranchesReady n low high ts count → length ts ≡ tranche_places
    → ChancesMade Low n low low' → ChancesMade High n high high' → EachReady n low' high' (take count ts)
unfolding chances_ready
each_ready {ts} {count} ready as_many low high = record {
  places = rw (length-take-le count ts (rw as_many ready.places)) ready.places;
  ready = λ i l. let range = ready.tranches.at i l in record {
    not_empty = ready.not_empty;
    tranche = range;
    low_ready = chances_ready ready.low_ready low (λ _. of_losses _ _ _ range.upper);
    high_ready = chances_ready ready.high_ready high (λ _. of_losses _ _ _ range.upper);
    answerable = ready.answerable _ _ _ range.upper;
  };
}

-- ---- which losses they are shows in what they stand for

pub one_loss : (x y : Loss) → loss_of x ≡ loss_of y → x ≡ y
unfolding loss_of
one_loss Untouched Untouched same = refl
one_loss Untouched (Faint b) same = cc same
one_loss Untouched (Shown b) same = cc same
one_loss (Faint a) Untouched same = cc same
one_loss (Faint a) (Faint b) same = cc same
one_loss (Faint a) (Shown b) same = cc same
one_loss (Shown a) Untouched same = cc same
one_loss (Shown a) (Faint b) same = cc same
one_loss (Shown a) (Shown b) same =
    let low : a.low ≡ b.low = cc same in
    let high : a.high ≡ b.high = cc same in
    let bounds : Shown (record { low = a.low; high = a.high }) ≡ Shown (record { low = b.low; high = b.high }) = rw (low, high) refl in
    bounds

pub same_losses : (xs ys : List Loss) → losses_in xs ≡ losses_in ys → xs ≡ ys
unfolding losses_in
same_losses [] [] same = refl
same_losses [] (y ∷ ys) same = cc same
same_losses (x ∷ xs) [] same = cc same
same_losses (x ∷ xs) (y ∷ ys) same =
    let first : x ≡ y = one_loss x y (cc same) in
    let rest : losses_in xs ≡ losses_in ys = cc same in
    rw (first, same_losses xs ys rest) refl
