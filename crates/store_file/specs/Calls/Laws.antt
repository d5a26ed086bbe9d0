-- That a file is accepted exactly if it is what is written from some head and some arrays of kept numbers, and what is read back of one that is.
-- Assumes nothing.
use Prim.Native.Nat.{ℕ, zero, suc, ◌+◌, ◌-◌, ◌^◌, ◌≤◌, ◌<◌}
use Rattle.std.specs.Prelude.{◌≡◌, true, List}
use Rattle.std.proofs.Math.Path.{refl, sym, ap, ap₂, subst}
use Rattle.std.proofs.Common.{◌∙◌, inl, inr, arith, le-leb}
use Rattle.std.proofs.Math.Decide.{dec_le}
use Rattle.std.proofs.Math.ListN.{length}
use Rattle.model.specs.Fraction.{whole}
use Rattle.model.specs.Number.{triangle}
use Rattle.model.specs.Number.Laws.{triangle_mono}
use Rattle.kept.specs.declared.Kept.{Kept}
use Rattle.kept.specs.declared.Side.{Side}
use Rattle.kept.specs.declared.Side.TheVariants.{Low, High}
use Rattle.kept.specs.Rounding.{nought, IsKept}
use Rattle.steps.specs.Exponents.{Ranged}
use Rattle.steps.specs.Inputs.{largest_pool}
use Rattle.working.specs.Slices.{SideStore, number_at, HasPlaces}
use Rattle.grounds.specs.Grounds.{first_ground, file_grounds, store_places, file_bytes, is_kept, EachAtLeast, AllKept, FillAccepted, FileAccepted}
use Rattle.grounds.specs.Grounds.Laws.{store_places_lem, file_accepted, file_answered}
use Rattle.planes.specs.Planes.{AreBytes}
use Rattle.planes.specs.Sides.{side_after, FitsTypes, AllFit}
use Rattle.planes.specs.Sides.Laws.{side_arrays_same, side_number, side_lengths}
use Rattle.steps.specs.declared.Pool.{Pool}
use Rattle.store.specs.Stores.{Store, lengths, side_of, place, HoldsEntries}
use Rattle.store.specs.Stores.Laws.{place_triangle, enclosed_same}
use Rattle.store.specs.Calls.{head_after, Fills}
use Rattle.store.proofs.Calls.Laws.{head_untouched, fills_head, fills_accepted}
use Rattle.store_file.specs.Files.{file_arrays, file_of, head_in, entry_in, entries_in, store_with}
use Rattle.store_file.specs.Files.Laws.{laid_bytes, head_read, entry_read, file_from_parts, entry_fits, side_from}
use Rattle.store_file.specs.Calls.Rooms.{form_room, file_places}
use Rattle.store_file.specs.Calls.{write_refusal, read_refusal, file_after, store_after_read, WritesBytes, ReadsBytes, Written, SameNumbers, WritesFile, ReadsFile}

-- ---- the outcome of a call

-- A store of two sides.
abbrev pub both : SideStore → SideStore → Store
both low high = record { low = low; high = high }

-- What reading each side leaves.
pub both_read : (file : List ℕ) (before : Store) {after : Store} {low high : SideStore}
    → low ≡ side_after (store_places (head_in file).assets) (entries_in Low file) before.low
    → high ≡ side_after (store_places (head_in file).assets) (entries_in High file) before.high → after.low ≡ low → after.high ≡ high
    → after ≡ store_with file before
unfolding store_with
both_read file before low high low_left high_left = ap₂ both (low_left ∙ low) (high_left ∙ high)

-- On either side.
pub on_each : (P : (ℕ → Kept) → Type 0) (s : Store) → P (number_at s.low) → P (number_at s.high) → (side : Side) → P (number_at (side_of side s))
unfolding side_of
on_each P s low high Low = low
on_each P s low high High = high

module _ (head : Pool) (s : Store) (before : List ℕ) where
  file_untouched : (refusal : ℕ) → (refusal ≡ 0 → ⊥) → before ≡ file_after head s refusal before
  unfolding file_after
  file_untouched zero some = absurd (some refl)
  file_untouched (suc r) some = refl

  pub writes_refused : {refusal : ℕ} → (refusal ≡ 0 → ⊥) → refusal ≡ write_refusal head s (length before) → WritesBytes head s before before refusal
  writes_refused {refusal} some is = record { refusal_is = is; file_is = file_untouched refusal some; fits = λ none. absurd (some none) }

  pub writes_done : {after : List ℕ} → 0 ≡ write_refusal head s (length before) → after ≡ file_of head s
      → ((side : Side) → AllFit (store_places head.assets) (number_at (side_of side s))) → WritesBytes head s before after 0
  unfolding file_after
  writes_done is file fits = record { refusal_is = is; file_is = file; fits = λ _. fits }

module _ (head : Pool) (file : List ℕ) (before : Store) (are : AreBytes file) where
  read_untouched : (refusal : ℕ) → (refusal ≡ 0 → ⊥) → before ≡ store_after_read file refusal before
  unfolding store_after_read
  read_untouched zero some = absurd (some refl)
  read_untouched (suc r) some = refl

  pub reads_refused : {refusal : ℕ} → (refusal ≡ 0 → ⊥) → refusal ≡ read_refusal file before → ReadsBytes head file before before refusal head
  reads_refused {refusal} some is =
      record { refusal_is = is; store_is = read_untouched refusal some; head_is = head_untouched refusal (head_in file) head some; bytes = are }

  pub reads_done : {after : Store} {head' : Pool} → 0 ≡ read_refusal file before → after ≡ store_with file before → head' ≡ head_in file
      → ReadsBytes head file before after 0 head'
  unfolding store_after_read head_after
  reads_done is left new = record { refusal_is = is; store_is = left; head_is = new; bytes = are }

-- ---- a file that is written

module _ {head : Pool} {s : Store} {before after : List ℕ} {refusal : ℕ} (writes : WritesBytes head s before after refusal) where
  pub writes_kept : (refusal ≡ 0 → ⊥) → after ≡ before
  writes_kept some = writes.file_is ∙ sym (file_untouched head s before refusal some)

  module _ (none : refusal ≡ 0) where
    pub writes_file : after ≡ file_of head s
    unfolding file_after
    writes_file = rw none at writes.file_is

    writes_accepted : FileAccepted largest_pool head.assets head.probability head.correlation (length before) (lengths s) (number_at s.low) (number_at s.high)
    unfolding write_refusal
    writes_accepted = file_accepted _ _ _ _ _ _ _ _ writes.refusal_is none

    pub writes_written : Written head s after
    writes_written =
        let accepted = writes_accepted in
        let n = head.assets in
        record {
          fill = accepted.form.fill;
          kept = on_each (AllKept (triangle (suc n))) s accepted.low_kept accepted.high_kept;
          fits = λ side. subst (λ (m : ℕ). AllFit m (number_at (side_of side s))) (store_places_lem n) (writes.fits none side);
          file_is = writes_file;
        }

module _ {head : Pool} {s : Store} {file : List ℕ} (written : Written head s file) where
  pub written_bytes : length file ≡ file_bytes head.assets
  unfolding file_of
  written_bytes = rw (written.file_is, laid_bytes head (store_places head.assets) (number_at s.low) (number_at s.high), file_places) refl

  side_fits : (side : Side) (i : ℕ) → i < store_places head.assets → FitsTypes (side_from (number_at s.low) (number_at s.high) side i)
  unfolding side_of
  side_fits Low i l = (written.fits Low).at i (rw (store_places_lem head.assets) at l)
  side_fits High i l = (written.fits High).at i (rw (store_places_lem head.assets) at l)

  n_fits : head.assets < 2 ^ 32
  unfolding largest_pool
  n_fits = omega (arith, written.fill.pool.range.assets)

  p_fits : head.probability < 2 ^ 32
  unfolding whole
  p_fits = omega (arith, written.fill.pool.range.probability)

  ρ_fits : head.correlation < 2 ^ 32
  unfolding whole
  ρ_fits = omega (arith, written.fill.pool.range.correlation)

  pub written_head : head_in file ≡ head
  unfolding file_of
  written_head = rw written.file_is (head_read head (store_places head.assets) (number_at s.low) (number_at s.high) n_fits p_fits ρ_fits side_fits)

  pub entry_written : (side : Side) (i : ℕ) → i < store_places head.assets
      → entry_in (store_places head.assets) side file i ≡ side_from (number_at s.low) (number_at s.high) side i
  unfolding file_of
  entry_written side i l =
      rw written.file_is (entry_read head (store_places head.assets) (number_at s.low) (number_at s.high) n_fits p_fits ρ_fits side_fits side i l)

  pub written_entry : (side : Side) (i : ℕ) → i < triangle (suc head.assets) → entries_in side file i ≡ number_at (side_of side s) i
  unfolding entries_in side_of
  written_entry side i l =
      ap (λ (h : Pool). entry_in (store_places h.assets) side file i) written_head ∙ entry_written side i (rw (store_places_lem head.assets) l) ∙ by_side side
    where
      by_side : (side : Side) → side_from (number_at s.low) (number_at s.high) side i ≡ number_at (side_of side s) i
      by_side Low = refl
      by_side High = refl

  -- It is accepted into slices that are long enough.
  pub written_read : (t : Store) → EachAtLeast (triangle (suc head.assets)) (lengths t) → read_refusal file t ≡ 0
  unfolding read_refusal
  written_read t room =
      subst (λ (h : Pool). first_ground (file_grounds largest_pool h.assets h.probability h.correlation (length file) (lengths t) (entries_in Low file) (entries_in High file)) ≡ 0)
      (sym written_head)
      (file_answered _ _ _ _ _ _ _ _
      (record {
        form = record { fill = record { pool = written.fill.pool; store = room }; length = written_bytes };
        low_kept = record { at = λ i l. ap is_kept (written_entry Low i l) ∙ (written.kept Low).at i l };
        high_kept = record { at = λ i l. ap is_kept (written_entry High i l) ∙ (written.kept High).at i l };
      }))

-- ---- a file that is read

module _ {head head' : Pool} {file : List ℕ} {before after : Store} {refusal : ℕ} (reads : ReadsBytes head file before after refusal head') where
  pub reads_kept : (refusal ≡ 0 → ⊥) → (after ≡ before) × (head' ≡ head)
  reads_kept some =
      (reads.store_is ∙ sym (read_untouched head file before reads.bytes refusal some), reads.head_is ∙ sym (head_untouched refusal (head_in file) head some))

  module _ (none : refusal ≡ 0) where
    pub reads_head : head' ≡ head_in file
    unfolding head_after
    reads_head = rw none at reads.head_is

    pub reads_store : after ≡ store_with file before
    unfolding store_after_read
    reads_store = rw none at reads.store_is

    pub reads_accepted : let stored = head_in file in
        FileAccepted largest_pool stored.assets stored.probability stored.correlation (length file) (lengths before) (entries_in Low file) (entries_in High file)
    unfolding read_refusal
    reads_accepted = file_accepted _ _ _ _ _ _ _ _ reads.refusal_is none

    pub reads_number : (side : Side) (i : ℕ) → i < store_places (head_in file).assets → number_at (side_of side after) i ≡ entries_in side file i
    unfolding store_with side_of
    reads_number side i l = rw reads_store (by_side side)
      where
        by_side : (side : Side) → number_at (side_of side (store_with file before)) i ≡ entries_in side file i
        by_side Low = side_number _ (entries_in Low file) before.low i l
        by_side High = side_number _ (entries_in High file) before.high i l

    room_read : (side : Side) → HasPlaces (store_places (head_in file).assets) (side_of side before)
    room_read side = form_room side before reads_accepted.form

    pub reads_lengths : lengths after ≡ lengths before
    unfolding store_with lengths side_of
    reads_lengths =
        let low = side_lengths _ (entries_in Low file) before.low (room_read Low) in
        let high = side_lengths _ (entries_in High file) before.high (room_read High) in
        rw (reads_store, low.significands, low.exponents, high.significands, high.exponents) refl

    places_below : (i : ℕ) → i < triangle (suc (head_in file).assets) → i < store_places (head_in file).assets
    places_below i l = rw (store_places_lem (head_in file).assets) l

    kept_in : (side : Side) → AllKept (triangle (suc (head_in file).assets)) (entries_in side file)
    kept_in Low = reads_accepted.low_kept
    kept_in High = reads_accepted.high_kept

    fits_in : (side : Side) (i : ℕ) → FitsTypes (entries_in side file i)
    unfolding entries_in
    fits_in side i = entry_fits file reads.bytes _ side i

    file_read : file ≡ file_of (head_in file) after
    unfolding file_of file_arrays side_of entries_in
    file_read =
        let m = store_places (head_in file).assets in
        let long = reads_accepted.form.length ∙ file_places (head_in file).assets in
        sym (file_from_parts file reads.bytes m long)
        ∙ rw (side_arrays_same m (λ i l. reads_number Low i l), side_arrays_same m (λ i l. reads_number High i l)) refl

    -- What is read is what is written from it.
    pub reads_written : Written head' after file
    reads_written =
        rw reads_head
        (record {
          fill = rw reads_lengths reads_accepted.form.fill;
          kept = λ side. record { at = λ i l. ap is_kept (reads_number side i (places_below i l)) ∙ (kept_in side).at i l };
          fits = λ side. record { at = λ i l. subst FitsTypes (sym (reads_number side i (places_below i l))) (fits_in side i) };
          file_is = file_read;
        })

-- ---- what an accepted fill left

-- Every place of rows 0 to m − 1 is entry j of some row k.
pub record InRow (m i : ℕ) : Type 0 where
  pub row : ℕ
  pub entry : ℕ
  pub before : row < m
  pub within : entry ≤ row
  pub is : i ≡ triangle row + entry

pub in_row : (m i : ℕ) → i < triangle m → InRow m i
unfolding triangle
in_row zero i l = absurd (omega arith)
in_row (suc m) i l = elim (dec_le (triangle m) i) [
  | yes there ↦ record { row = m; entry = i - triangle m; before = omega arith; within = omega arith; is = omega arith }
  | no there ↦
      let found = in_row m i (omega arith) in
      record { row = found.row; entry = found.entry; before = omega (arith, found.before); within = found.within; is = found.is }
]

kept_test : {x : Kept} → IsKept x → is_kept x ≡ true
unfolding is_kept nought
kept_test {x} kept = elim kept.form [
  | inl none ↦ rw none refl
  | inr normal ↦ rw (le-leb (2 ^ 31) x.significand normal.least) refl
]

-- What holds of entries holds of the same entries elsewhere.
pub holds_same : {n p ρ : ℕ} {g : ℕ → ℕ} {s t : Store} → SameNumbers (triangle (suc n)) t s → HoldsEntries n p ρ g s → HoldsEntries n p ρ g t
unfolding triangle side_of
holds_same {n} {s = s} {t} same holds = record {
  made = λ side j k l m. at side j k l m ∙ holds.made side j k l m;
  enclosed = λ j k l m. enclosed_same (at Low j k l m) (at High j k l m) (holds.enclosed j k l m);
  ranged = λ side j k l m. rw (at side j k l m) (holds.ranged side j k l m);
}
  where
    at : (side : Side) (j k : ℕ) → j ≤ k → k ≤ n → number_at (side_of side t) (place k j) ≡ number_at (side_of side s) (place k j)
    at side j k l m =
        let rows : suc k ≤ suc n = omega arith in
        let within = triangle_mono rows in
        same.at side (place k j) (rw (place_triangle k j) (omega (arith, within)))

-- A head that a fill accepts, and numbers that the steps make, are written to a file of the right length.
pub ranged_write : (head : Pool) (s : Store) {bytes : ℕ} → FillAccepted largest_pool head.assets head.probability head.correlation (lengths s)
    → ((side : Side) (i : ℕ) → i < triangle (suc head.assets) → Ranged (number_at (side_of side s) i)) → bytes ≡ file_bytes head.assets
    → write_refusal head s bytes ≡ 0
unfolding write_refusal side_of
ranged_write head s fill ranged long =
    file_answered _ _ _ _ _ _ _ _
    (record {
      form = record { fill = fill; length = long };
      low_kept = record { at = λ i l. kept_test (ranged Low i l).kept };
      high_kept = record { at = λ i l. kept_test (ranged High i l).kept };
    })

module _ {number : ℕ} {g : ℕ → ℕ} {pool came head : Pool} {before after s : Store} (fills : Fills number g pool came before after 0 head)
    (same : SameNumbers (triangle (suc pool.assets)) s after) (room : EachAtLeast (triangle (suc pool.assets)) (lengths s)) where
  entry_ranged : (side : Side) (i : ℕ) → i < triangle (suc pool.assets) → Ranged (number_at (side_of side s) i)
  entry_ranged side i l =
      let found = in_row (suc pool.assets) i l in
      let there : i ≡ place found.row found.entry = found.is ∙ sym (place_triangle found.row found.entry) in
      subst Ranged (sym (same.at side i l ∙ ap (number_at (side_of side after)) there))
      ((fills.holds refl).ranged side found.entry found.row found.within (omega (arith, found.before)))

  filled_write : {bytes : ℕ} → bytes ≡ file_bytes pool.assets → write_refusal head s bytes ≡ 0
  filled_write {bytes} long =
      subst (λ (h : Pool). write_refusal h s bytes ≡ 0) (sym (fills_head fills refl))
      (ranged_write pool s (record { pool = (fills_accepted fills refl).pool; store = room }) entry_ranged long)

-- ---- the contracts

pub writes_all : {head : Pool} {s : Store} {before after : List ℕ} {refusal : ℕ} → WritesBytes head s before after refusal → WritesFile head s before after refusal
writes_all writes =
    record { writes = writes; written = writes_written writes; of_filled = λ fills same room long. writes.refusal_is ∙ filled_write fills same room long }

module _ {head head' head₀ : Pool} {file : List ℕ} {before after s : Store} {refusal : ℕ} (reads : ReadsBytes head file before after refusal head')
    (written : Written head₀ s file) (room : EachAtLeast (triangle (suc head₀.assets)) (lengths before)) where
  back_accepted : refusal ≡ 0
  back_accepted = reads.refusal_is ∙ written_read written before room

  back_head : head' ≡ head₀
  back_head = reads_head reads back_accepted ∙ written_head written

  back_same : SameNumbers (triangle (suc head₀.assets)) after s
  back_same = record {
    at = λ side i l.
        let in_file : i < store_places (head_in file).assets = rw (written_head written, store_places_lem head₀.assets) l in
        reads_number reads back_accepted side i in_file ∙ written_entry written side i l;
  }

pub reads_all : {head head' : Pool} {file : List ℕ} {before after : Store} {refusal : ℕ} → ReadsBytes head file before after refusal head'
    → ReadsFile head file before after refusal head'
reads_all {before = before} {after = after} reads = record {
  reads = reads;
  written = reads_written reads;
  of_written = λ written room. (back_accepted reads written room, back_head reads written room, back_same reads written room);
  of_filled = λ fills same writes room.
      let own = fills_head fills refl in
      let back = back_same reads (writes.written refl) (subst (λ (h : Pool). EachAtLeast (triangle (suc h.assets)) (lengths before)) (sym own) room) in
      holds_same (record { at = λ side i l. back.at side i (subst (λ (h : Pool). i < triangle (suc h.assets)) (sym own) l) ∙ same.at side i l }) (fills.holds refl);
}
