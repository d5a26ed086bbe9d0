-- The laws of a working row.
-- Assumes nothing.
use Rattle.std.specs.Prelude.{ℕ, ◌+◌, ◌≤◌, ◌<◌, ◌≡◌, refl, List, length, get_or, set}
use Rattle.std.proofs.Common.{subst, ◌∙◌, arith, le_trans, length-set, get_or-set_same, get_or-set_other, below_more}
use Rattle.working.specs.Working.{Entries, Changed}

-- ---- entries that are stored one after the other

module _ {A : Type 0} {places : ℕ} {f : ℕ → A} where
  pub entries_none : {row : List A} → length row ≡ places → Entries places 0 row f
  entries_none places_are = record { places_are = places_are; entry = λ d j l. absurd (omega arith) }

  pub entries_more : {j : ℕ} {row : List A} {v : A} → Entries places j row f → j < places → v ≡ f j → Entries places (j + 1) (set row j v) f
  entries_more {j} {row} {v} entries l new = record {
    places_are = length-set row j v ∙ entries.places_are;
    entry = λ d.
        below_more (λ i. get_or (set row j v) i d ≡ f i) j
        (λ i h. get_or-set_other row j i v d (λ e. omega arith) ∙ entries.entry d i h)
        (get_or-set_same row j v d (omega (arith, entries.places_are)) ∙ new);
  }

  pub entries_less : {m j : ℕ} {row : List A} → m ≤ j → Entries places j row f → Entries places m row f
  entries_less l entries = record { places_are = entries.places_are; entry = λ d i h. entries.entry d i (le_trans h l) }

  pub entries_same : {m : ℕ} {row : List A} {g : ℕ → A} → Entries places m row f → ((j : ℕ) → j < m → f j ≡ g j) → Entries places m row g
  entries_same entries same = record { places_are = entries.places_are; entry = λ d j l. entries.entry d j l ∙ same j l }

-- ---- a row that is changed from its first entry up

module _ {A : Type 0} {places m : ℕ} {f : ℕ → A} where
  pub changed_none : {row : List A} → length row ≡ places → Changed places m 0 row row f
  changed_none places_are = record { new = entries_none places_are; old = λ d i l h. refl }

  pub changed_more : {j : ℕ} {row w : List A} {v : A} → Changed places m j row w f → j < places → v ≡ f j → Changed places m (j + 1) row (set w j v) f
  changed_more {j} {w} {v} changed l new = record {
    new = entries_more changed.new l new;
    old = λ d i h b. get_or-set_other w j i v d (λ e. omega arith) ∙ changed.old d i (omega arith) b;
  }

  -- Once all that were to be changed are.
  pub changed_all : {j k : ℕ} {row w : List A} → j ≤ k → k ≤ j → Changed places m j row w f → Changed places m k row w f
  changed_all {j} {k} {row} {w} most least = let same : j ≡ k = omega arith in subst (λ i. Changed places m i row w f) same
