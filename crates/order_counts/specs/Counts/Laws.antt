-- One row of Pascal's triangle made the next, entry by entry.
-- Assumes nothing.
use Rattle.std.specs.Prelude.{ℕ, suc, ◌+◌, ◌-◌, ◌^◌, ◌≤◌, ◌<◌, ◌≡◌, refl, List, get_or, set, replicate}
use Rattle.std.proofs.Common.{sym, ◌∙◌, le_refl, lt_of_lt_of_le, add-sub_cancel, pow_mono}
use Rattle.std.proofs.Math.Decide.{dec_le}
use native.Mathlib.Omega.{arith}
use Rattle.std.proofs.lemmas.List.{length-replicate, get_or-replicate}
use Rattle.model.specs.Number.{pascal_row}
use Rattle.model.specs.Number.Laws.{pascal_inside, pascal_past, pascal_choose, choose_below}
use Rattle.working.specs.Working.{working_places}
use Rattle.working.specs.Working.Laws.{changed_more}
use Rattle.steps.specs.Inputs.{working_assets}
use Rattle.kept.specs.declared.Side.{Side}
use Rattle.kept.specs.Rounding.{Operand, unity, rounded_sum}
use Rattle.steps.specs.Counts.{exact_assets, summed_count}
use Rattle.steps.proofs.Counts.Laws.{summed_ranged}
use Rattle.steps.proofs.Exponents.Laws.{ranged_operand}
use Rattle.order_counts.specs.Counts.{Pascal, PascalBelow}

pub pascal_first : {A : Type 0} (one : A) (plus : A → A → A) → Pascal one plus 0 (replicate working_places one)
pascal_first one plus = record {
  places_are = length-replicate working_places one;
  entry = λ d j l. get_or-replicate working_places j one d l ∙ sym (pascal_past one plus 0 j (omega arith));
}

-- Inside a row each entry is the sum of the two above.
pascal_next : {A : Type 0} (one : A) (plus : A → A → A) {k j : ℕ} → 1 ≤ j → j ≤ k → plus (pascal_row one plus k (j - 1)) (pascal_row one plus k j) ≡ pascal_row one plus (suc k) j
pascal_next one plus {k} {j} from l =
    let next : suc (j - 1) ≡ j = omega arith in
    sym (rw next at (pascal_inside one plus k (j - 1) (omega arith)))

module _ {A : Type 0} {one : A} {plus : A → A → A} where
  -- Entry 0 stays one.
  pub pascal_none : {k : ℕ} {row : List A} → Pascal one plus k row → PascalBelow one plus k 1 row row one
  unfolding working_places pascal_row
  pascal_none start = record {
    start = start;
    changed = record {
      new = record {
        places_are = start.places_are;
        entry = λ d j l. let first : j ≡ 0 = omega arith in rw first (start.entry d 0 (omega arith));
      };
      old = λ d i l h. refl;
    };
    from = omega arith;
    within = omega arith;
    neighbour = refl;
  }

  module _ {k j : ℕ} {row w : List A} {before : A} (done : PascalBelow one plus k j row w before) where
    module _ (l : j ≤ k) (few : k < working_places) (d : A) where
      here_is : get_or w j d ≡ pascal_row one plus k j
      here_is = done.changed.old d j (le_refl j) (omega arith) ∙ done.start.entry d j (omega arith)

      -- What holds of the entries of row k holds of both that are added.
      pub pascal_added : (P : A → Type 0) → ((i : ℕ) → i ≤ k → P (pascal_row one plus k i)) → P before × P (get_or w j d)
      pascal_added P holds = (rw done.neighbour (holds (j - 1) (omega arith)), rw here_is (holds j l))

      pascal_sum : plus before (get_or w j d) ≡ pascal_row one plus (suc k) j
      pascal_sum = rw (done.neighbour, here_is) (pascal_next one plus done.from l)

      pub pascal_more : {v : A} → v ≡ plus before (get_or w j d) → PascalBelow one plus k (j + 1) row (set w j v) (get_or w j d)
      pascal_more sum = record {
        start = done.start;
        changed = changed_more done.changed (omega arith) (sum ∙ pascal_sum);
        from = omega arith;
        within = omega arith;
        neighbour = rw (add-sub_cancel j 1) here_is;
      }

    -- From k + 1 on both rows are one.
    pub pascal_all : j ≡ suc k → Pascal one plus (suc k) w
    pascal_all all = record {
      places_are = done.changed.new.places_are;
      entry = λ d i l. elim (dec_le j i) [
        | yes past ↦
            done.changed.old d i past l ∙ done.start.entry d i l ∙ pascal_past one plus k i (omega arith) ∙ sym (pascal_past one plus (suc k) i (omega arith))
        | no past ↦ done.changed.new.entry d i (omega arith)
      ];
    }

-- In whole numbers C(k+1,j) is below 2^(k+1).
pub words_add : (k j : ℕ) → k < exact_assets → 1 ≤ j → j ≤ k → pascal_row 1 ◌+◌ k (j - 1) + pascal_row 1 ◌+◌ k j < 2 ^ 64
unfolding exact_assets
words_add k j few from l =
    rw (pascal_next 1 ◌+◌ from l, pascal_choose (suc k) j (omega arith)) (lt_of_lt_of_le (choose_below k j) (pow_mono few))

pub pascal_word : {k j : ℕ} {row w : List ℕ} {before : ℕ} → PascalBelow 1 ◌+◌ k j row w before → j ≤ k → k < working_places → k < exact_assets
    → before + get_or w j 0 < 2 ^ 64
pascal_word {k} {j} done l few exact = rw (done.neighbour, here_is done l few 0) (words_add k j exact done.from l)

-- Sums of kept numbers have exponents in their range.
pub kept_add : (side : Side) (k j : ℕ) → k < working_assets → 1 ≤ j → j ≤ k
    → Operand (pascal_row unity (rounded_sum side) k (j - 1)) × Operand (pascal_row unity (rounded_sum side) k j)
unfolding working_assets summed_count
kept_add side k j few from l =
    (ranged_operand (summed_ranged side k (j - 1) (omega arith) (omega arith)), ranged_operand (summed_ranged side k j (omega arith) l))
