-- The laws of what is written to slices.
-- Assumes nothing.
use Prim.Native.Nat.{ℕ, zero, suc, ◌+◌, ◌-◌, ◌≤◌, ◌<◌}
use Rattle.std.specs.Prelude.{◌≡◌, get_or, set, drop, pos}
use Rattle.std.proofs.Math.Path.{refl, sym}
use Rattle.std.proofs.Common.{ap, ap₂, ◌∙◌, zero-add, add-one, length-drop, get_or-drop}
use mathlib.Core.List.{List, [], ◌∷◌, ◌++◌, map, map-append, append-nil, append_assoc}
use Rattle.std.proofs.Math.Decide.{dec_le}
use Rattle.std.proofs.Math.Nat.{add-zero, add-suc}
use native.Mathlib.Omega.{arith}
use Rattle.std.proofs.Math.ListN.{length, length-append, length-map, length-set, get_or-append, get_or-map}
use Rattle.std.proofs.Math.Seq.{drop-cons, drop-append_seam, set-append_seam, get_or-append-add, ext_get_or}
use Rattle.std.proofs.lemmas.List.{set-get_or, get_or_at}
use Rattle.kept.specs.declared.Kept.{Kept}
use Rattle.kept.specs.Rounding.{nought}
use Rattle.working.specs.Working.{Changed}
use Rattle.working.specs.Slices.{tabulate, overwritten, entries_after, SideStore, side_store, number_at, with_number, HasPlaces, Holding, Standing, Stored}

-- ---- lists

module _ {A : Type 0} where
  pub length_tabulate : (m : ℕ) (f : ℕ → A) → length (tabulate m f) ≡ m
  unfolding tabulate
  length_tabulate zero f = refl
  length_tabulate (suc m) f = rw (length-append, length_tabulate m f) (add-one m)

  pub get_d_tabulate : (m : ℕ) (f : ℕ → A) (j : ℕ) (d : A) → j < m → get_or (tabulate m f) j d ≡ f j
  unfolding tabulate
  get_d_tabulate zero f j d l = absurd (omega arith)
  get_d_tabulate (suc m) f j d l = elim (dec_le m j) [
    | yes h ↦ let last : j ≡ m = omega arith in rw last (get_or_at (tabulate m f) (f m) [] d m (length_tabulate m f))
    | no h ↦ get_or-append (tabulate m f) (f m ∷ []) d j (omega (arith, length_tabulate m f)) ∙ get_d_tabulate m f j d (omega arith)
  ]

  pub tabulate_same : {f g : ℕ → A} (m : ℕ) → ((i : ℕ) → i < m → f i ≡ g i) → tabulate m f ≡ tabulate m g
  unfolding tabulate
  tabulate_same zero same = refl
  tabulate_same (suc m) same = rw (tabulate_same m (λ i l. same i (omega arith)), same m (omega arith))

  overwritten_at : (new old : List A) (i : ℕ) (d : A) → i < length new → get_or (overwritten new old) i d ≡ get_or new i d
  unfolding overwritten
  overwritten_at new old i d l = get_or-append new _ d i l

  pub overwritten_length : (new old : List A) → length new ≤ length old → length (overwritten new old) ≡ length old
  unfolding overwritten
  overwritten_length new old l = rw (length-append, length-drop) (omega arith)

  pub overwritten_later : (new old : List A) {m : ℕ} → length new ≡ m → drop m (overwritten new old) ≡ drop m old
  unfolding overwritten
  overwritten_later new old is = rw (← is) (drop-append_seam new (drop (length new) old))

  pub overwritten_none : (old : List A) → old ≡ overwritten [] old
  unfolding overwritten
  overwritten_none old = refl

  -- Writing goes on where it stopped.
  pub overwritten_more : (new old : List A) (v : A) {t : List A} {at : ℕ} → t ≡ overwritten new old → length new ≡ at → at < length t
      → set t at v ≡ overwritten (new ++ (v ∷ [])) old
  unfolding overwritten
  overwritten_more new old v is place l =
      let room : length new < length old = omega (arith, simp (length-append, length-drop) at (rw is at l)) in
      rw (is, ← place, drop-cons old (length new) v room, set-append_seam, append_assoc, length-append, add-one)

  -- A slice whose first m places are changed.
  pub changed_overwritten : (d : A) {m : ℕ} (old : List A) {new : List A} {f g : ℕ → A} → Changed (length old) (length old) m old new f → m ≤ length old
      → ((i : ℕ) → i < m → f i ≡ g i) → new ≡ overwritten (tabulate m g) old
  unfolding overwritten
  changed_overwritten d {m} old {new} {g} done l same =
      let written : List A = tabulate m g in
      let long = length_tabulate m g in
      let places = done.new.places_are in
      ext_get_or d new _ (places ∙ sym (overwritten_length written old (omega arith))) (λ i h. elim (dec_le m i) [
        | yes past ↦
            let there : i ≡ length written + (i - m) = omega arith in
            done.old d i past (omega arith) ∙ sym (rw (there, get_or-append-add, get_or-drop))
        | no past ↦
            let below : i < m = omega arith in
            done.new.entry d i below ∙ same i below ∙ sym (overwritten_at written old i d (omega arith) ∙ get_d_tabulate m g i d below)
      ])

-- ---- entries 0 to n of a call

-- A slice whose first n + 1 places are changed.
pub changed_entries : {A : Type 0} (d : A) {n k : ℕ} (old : List A) {new : List A} {f : ℕ → A} → Changed (length old) (length old) k old new f → k ≡ suc n
    → n < length old → new ≡ entries_after n f 0 old
unfolding entries_after
changed_entries d old done all l = changed_overwritten d old (rw all at done) l (λ i h. refl)

-- The same entries by another function.
pub after_same : {A : Type 0} {n : ℕ} (f g : ℕ → A) (old : List A) {new : List A} → new ≡ entries_after n f 0 old → ((k : ℕ) → k ≤ n → f k ≡ g k)
    → new ≡ entries_after n g 0 old
unfolding entries_after
after_same {n} f g old is same = is ∙ ap (λ entries. overwritten entries old) (tabulate_same (suc n) (λ k l. same k (omega arith)))

module _ {A : Type 0} (n : ℕ) (f : ℕ → A) (old : List A) where
  pub entries_untouched : (refusal : ℕ) → (refusal ≡ 0 → ⊥) → old ≡ entries_after n f refusal old
  unfolding entries_after
  entries_untouched zero some = absurd (some refl)
  entries_untouched (suc r) some = refl

  module _ {refusal : ℕ} {new : List A} (is : new ≡ entries_after n f refusal old) where
    pub entries_kept : (refusal ≡ 0 → ⊥) → new ≡ old
    entries_kept some = is ∙ sym (entries_untouched refusal some)

    module _ (none : refusal ≡ 0) where
      entries_written : new ≡ overwritten (tabulate (suc n) f) old
      unfolding entries_after
      entries_written = rw none at is

      pub entries_at : (d : A) (k : ℕ) → k ≤ n → get_or new k d ≡ f k
      entries_at d k l =
          rw (entries_written, overwritten_at (tabulate (suc n) f) old k d (rw (length_tabulate (suc n) f) (omega arith)))
          (get_d_tabulate (suc n) f k d (omega arith))

      pub entries_length : n < length old → length new ≡ length old
      entries_length room = rw (entries_written, overwritten_length (tabulate (suc n) f) old (rw length_tabulate (omega arith))) refl

      pub entries_later : drop (n + 1) new ≡ drop (n + 1) old
      entries_later = rw entries_written (overwritten_later (tabulate (suc n) f) old {m = n + 1} (rw length_tabulate (omega arith)))

-- ---- numbers from the start of one side

pub holding_none : {h : SideStore} → Holding [] 0 h h
holding_none = record { place = refl; significands = overwritten_none _; exponents = overwritten_none _ }

holding_more : {numbers : List Kept} {at : ℕ} {old h : SideStore} (x : Kept) → Holding numbers at old h → HasPlaces (suc at) h
    → Holding (numbers ++ (x ∷ [])) (suc at) old (with_number x at h)
holding_more x holding room = record {
  place = rw (length-append, holding.place) (add-one _);
  significands = rw map-append (overwritten_more _ _ _ holding.significands (rw length-map holding.place) (omega arith));
  exponents = rw map-append (overwritten_more _ _ _ holding.exponents (rw length-map holding.place) (omega arith));
}

-- Putting what stands there already changes nothing.
with_same : (h : SideStore) (i : ℕ) → with_number (number_at h i) i h ≡ h
unfolding number_at
with_same h i = ap₂ side_store (set-get_or h.significands i 0) (set-get_or h.exponents i (pos 0))

-- What stands at the first places.
holding_own : (at : ℕ) {h : SideStore} → HasPlaces at h → Holding (tabulate at (number_at h)) at h h
unfolding tabulate
holding_own zero room = holding_none
holding_own (suc at) {h} room =
    rw (with_same h at) at (holding_more (number_at h at) (holding_own at (record { significands = omega arith; exponents = omega arith })) room)

-- One field of a number.
pub overwritten_field : {A : Type 0} (field : Kept → A) (numbers : List Kept) (old : List A) (i : ℕ) → i < length numbers
    → get_or (overwritten (map field numbers) old) i (field nought) ≡ field (get_or numbers i nought)
overwritten_field field numbers old i l =
    overwritten_at (map field numbers) old i (field nought) (rw length-map l) ∙ get_or-map field numbers i nought

module _ {numbers : List Kept} {at : ℕ} {old h : SideStore} (holding : Holding numbers at old h) where
  holding_room : HasPlaces at h
  unfolding overwritten
  holding_room = record {
    significands = rw (holding.significands, length-append, length-map, holding.place) (omega arith);
    exponents = rw (holding.exponents, length-append, length-map, holding.place) (omega arith);
  }

  holding_number : (i : ℕ) → i < at → number_at h i ≡ get_or numbers i nought
  unfolding number_at nought
  holding_number i l =
      let within : i < length numbers = omega (arith, holding.place) in
      rw (
        holding.significands,
        holding.exponents,
        overwritten_field (λ x. x.significand) numbers old.significands i,
        overwritten_field (λ x. x.exponent) numbers old.exponents i,
      ) refl

-- The last of them stand where they were put.
holding_standing : {m at : ℕ} {f : ℕ → Kept} {old h : SideStore} (numbers : List Kept) → length numbers ≡ at
    → Holding (numbers ++ tabulate m f) (at + m) old h → Standing m at h f
holding_standing {m} {at} {f} numbers place holding = record {
  room = holding_room holding;
  number = λ j l.
      holding_number holding (at + j) (omega arith)
      ∙ rw (← place) (get_or-append-add numbers (tabulate m f) j nought ∙ get_d_tabulate m f j nought l);
}

-- ---- numbers that are put one after the other

module _ {f : ℕ → Kept} {at : ℕ} {h : SideStore} where
  pub stored_none : Stored f 0 at h h
  unfolding tabulate
  stored_none = record {
    lengths = record { significands = refl; exponents = refl };
    holding = λ holding. rw (append-nil, add-zero at) holding;
  }

  pub stored_more : {j : ℕ} {h' : SideStore} {x : Kept} → Stored f j at h h' → HasPlaces (at + suc j) h → x ≡ f j
      → Stored f (j + 1) at h (with_number x (at + j) h')
  unfolding tabulate
  stored_more {j} {x} stored room new =
      let lengths = stored.lengths in
      record {
        lengths = record { significands = rw length-set lengths.significands; exponents = rw length-set lengths.exponents };
        holding = λ holding.
            rw (add-one j, add-suc at j, ← append_assoc, ← new)
            (holding_more x (stored.holding holding) (record { significands = omega arith; exponents = omega arith }));
      }

  -- They stand there.
  pub stored_standing : {m : ℕ} {h' : SideStore} → Stored f m at h h' → HasPlaces at h → Standing m at h' f
  stored_standing stored room =
      let before = holding_own at room in
      holding_standing (tabulate at (number_at h)) before.place (stored.holding before)

-- From the first place on, where the place is the index.
pub stored_start : {m : ℕ} {f : ℕ → Kept} {h h' : SideStore} → Stored f m 0 h h' → Standing m 0 h' f
stored_start stored = stored_standing stored (record { significands = omega arith; exponents = omega arith })

pub standing_start : {m : ℕ} {f : ℕ → Kept} {h : SideStore} → Standing m 0 h f → (j : ℕ) → j < m → number_at h j ≡ f j
standing_start standing j l = rw (zero-add j) at (standing.number j l)
