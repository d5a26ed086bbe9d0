-- A working row of chances, place by place.
-- Assumes nothing.
use Rattle.std.specs.Prelude.{ℕ, suc, ◌+◌, ◌≤◌, ◌≡◌, List, get_or, set}
use Rattle.std.proofs.Common.{arith}
use Rattle.kept.specs.declared.Kept.{Kept}
use Rattle.kept.specs.declared.Side.{Side}
use Rattle.kept.specs.Rounding.{Operand, rounded_product}
use Rattle.steps.specs.Counts.{kept_count, is_count}
use Rattle.steps.specs.Chances.{kept_chance, kept_chances}
use Rattle.steps.specs.Exponents.{Ranged}
use Rattle.steps.proofs.Exponents.Laws.{ranged_operand}
use Rattle.steps.specs.Numbers.{StepNumber, of_counts, is_chance, of_chances}
use Rattle.working.specs.Working.{working_places, Entries}
use Rattle.working.specs.Working.Laws.{entries_more}
use Rattle.chances.specs.Chances.{RowReady, StepsReady, ChancesMade}

-- An entry of any working row.
pub entry_operand : {n : ℕ} {row : List Kept} {f : ℕ → Kept} → Entries working_places (suc n) row f → ((j : ℕ) → j ≤ n → Ranged (f j))
    → (d : Kept) (j : ℕ) → j ≤ n → Operand (get_or row j d)
entry_operand entries ranged d j l = rw (entries.entry d j (omega arith)) (ranged_operand (ranged j l))

-- The chances of fewer than j defaults are made in r.
pub record ChancesBelow (side : Side) (n j : ℕ) (row orders r : List Kept) : Type 0 where
  pub ready : StepsReady side n row
  pub counts : Entries working_places (suc n) orders (kept_count side n)
  pub within : j ≤ suc n
  pub made : (entry : ℕ → Kept) → Entries working_places (suc n) row entry → Entries working_places j r (kept_chances side n entry)

module _ {side : Side} {n j : ℕ} {row orders r : List Kept} (done : ChancesBelow side n j row orders r) where
  -- The chance of j defaults.
  module _ (l : j ≤ n) (d : Kept) where
    pub chance_operands : Operand (get_or orders j d) × Operand (get_or row j d)
    chance_operands = (
      entry_operand done.counts (λ j l. done.ready.ranged (of_chances (of_counts (is_count j l)))) d j l,
      entry_operand done.ready.entries done.ready.entry_ranged d j l,
    )

    pub chance_more : {x : Kept} → x ≡ rounded_product side (get_or orders j d) (get_or row j d) → ChancesBelow side n (j + 1) row orders (set r j x)
    unfolding working_places kept_chance kept_chances
    chance_more product = record {
      ready = done.ready;
      counts = done.counts;
      within = omega arith;
      made = λ entry e.
          entries_more (done.made entry e) (omega (arith, done.ready.assets))
          (rw (product, done.counts.entry d j (omega arith), e.entry d j (omega arith)));
    }

  pub chances_all : j ≡ suc n → ChancesMade side n row r
  chances_all all = record { chances = rw all at done.made }

-- The chances that step 4 makes are ready for a step whose numbers are among those of steps 4 to 6.
unfoldable pub chances_ready : {side : Side} {n : ℕ} {row c : List Kept} {Number : (ℕ → Kept) → Kept → Type 0} (ready : StepsReady side n row) → ChancesMade side n row c
    → ((x : Kept) → Number (kept_chances side n ready.entry) x → StepNumber side n ready.entry x) → RowReady n c Number
unfolding kept_chances
chances_ready {side} {n} ready made among = record {
  assets = ready.assets;
  entry = kept_chances side n ready.entry;
  entries = made.chances _ ready.entries;
  entry_ranged = λ j l. ready.ranged (of_chances (is_chance j l));
  ranged = λ number. ready.ranged (among _ number);
}
