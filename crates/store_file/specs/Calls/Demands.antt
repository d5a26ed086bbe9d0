-- The contracts of writing and reading a file imply what is demanded of them.
-- Assumes nothing.
use Prim.Native.Nat.{ℕ, zero, suc, ◌+◌, ◌-◌, ◌*◌, ◌/◌, ◌^◌, ◌≤◌, ◌<◌}
use Rattle.std.specs.Prelude.{◌≡◌, ◌⊎◌, Bool, true, false, cond, ◌||◌, ◌&&◌, ltb, leb, eqb, ℤ, pos, negsuc, nat_abs, ◌≤ℤ◌, length}
use Rattle.std.proofs.Math.Path.{refl, sym, ap, subst, fun_ext}
use Rattle.std.proofs.Common.{◌∙◌, inl, inr, true≢false, add-mul, leb-true, eqb-true, le-leb, lit<, le→leb, leb→le, get_or-drop, SFits}
use mathlib.Core.List.{List}
use Rattle.std.proofs.Math.Nat.{zero-add}
use native.Mathlib.Omega.{arith}
use Rattle.std.proofs.Math.ListN.{get_or, drop}
use Rattle.std.proofs.Math.Seq.{drop-drop}
use Rattle.std.specs.Int.{w32}
use Rattle.model.specs.Fraction.{whole}
use Rattle.model.specs.Number.{triangle}
use Rattle.model.specs.Number.Laws.{triangle_mono}
use Rattle.kept.specs.declared.Kept.{Kept}
use Rattle.kept.specs.declared.Side.{Side}
use Rattle.kept.specs.declared.Side.TheVariants.{Low, High}
use Rattle.steps.specs.CorrelatedBinomial.Exponents.{is_entry, of_rows}
use Rattle.steps.proofs.CorrelatedBinomial.Theorems.{exponents}
use Rattle.steps.specs.Exponents.{Ranged}
use Rattle.steps.specs.Inputs.{largest_pool}
use Rattle.steps.proofs.Inputs.Laws.{working_range}
use Rattle.working.specs.Slices.{number_at}
use Rattle.grounds.specs.Grounds.{store_places, file_bytes, is_kept, EachAtLeast, FillAccepted, first_ground, file_grounds}
use Rattle.grounds.specs.Grounds.Laws.{store_places_lem, fill_accepted, file_answered}
use Rattle.planes.specs.Planes.{byte_of, byte_in, word_at, pattern, signed, AreBytes}
use Rattle.planes.specs.Planes.Laws.{byte_back, word_of_bytes, word_below, bytes_behind, pattern_signed, pattern_below, signed_pattern, laid_bytes}
use Rattle.planes.specs.Sides.Laws.{side_arrays_same, side_later}
use Rattle.planes.specs.Sides.{number_in, FitsTypes}
use Rattle.steps.specs.declared.Pool.{Pool}
use Rattle.store.specs.Stores.{Store, store, lengths, side_of, place}
use Rattle.store.specs.Stores.Laws.{place_triangle}
use Rattle.pool.specs.Demands.{kept_zero, Slices, lent, store_of, lengths_of, number_on, from, StoreDemands, TableDemands, byte_from, complement, from_complement, table_places}
use Rattle.pool.specs.Demands.{number_from, head_of, entry_from, entry_of, EntryDemands, RoomDemands, SameEntries, FileDemands, WrittenDemands, WriteDemands, ReadDemands}
use Rattle.pool.proofs.Demands.Theorems.{slices}
use Rattle.store_file.specs.Calls.Rooms.{file_places}
use Rattle.store_file.specs.Files.{file_arrays, file_of, head_in, entry_in, entries_in, store_with}
use Rattle.store_file.specs.Files.Laws.{side_from, head_parts, file_from_parts}
use Rattle.store_file.specs.Calls.{write_refusal, read_refusal, Written, SameNumbers, WritesFile, ReadsFile}
use Rattle.store_file.specs.Calls.Laws.{in_row, ranged_write, writes_kept, reads_kept, reads_head, reads_store, reads_number, reads_lengths, written_bytes, written_head, entry_written}

-- ---- the numbers of a file, by place

signed_same : (w : ℕ) → from_complement w ≡ signed w
unfolding from_complement signed
signed_same w = by_test (ltb w 2147483648)
  where
    by_test : (t : Bool) → cond t (pos w) (negsuc (4294967295 - w)) ≡ cond t (pos w) (negsuc (4294967296 - suc w))
    by_test true = refl
    by_test false = ap negsuc (omega arith)

pattern_same : (e : ℤ) → pattern e ≡ complement e
unfolding pattern complement
pattern_same (pos x) = refl
pattern_same (negsuc x) = omega arith

-- The byte of a number, by 256 and by 2.
byte_same : (k x : ℕ) → k < 4 → byte_of k x ≡ byte_from k x
unfolding byte_of byte_from
byte_same zero x l = refl
byte_same (suc zero) x l = refl
byte_same (suc (suc zero)) x l = refl
byte_same (suc (suc (suc zero))) x l = refl
byte_same (suc (suc (suc (suc k)))) x l = absurd (omega arith)

module _ (file : List ℕ) where
  byte_there : (at m i k place : ℕ) → place ≡ k * m + i → get_or file (at + place) 0 ≡ byte_in m (drop at file) i k
  byte_there at m i k place is = rw (is, ← get_or-drop at file (k * m + i) 0) refl

  number_there : (at m i : ℕ) → number_from file at m i ≡ word_at m (drop at file) i
  unfolding number_from word_at
  number_there at m i =
      rw (byte_there at m i 0 i (omega arith), byte_there at m i 1 (m + i) (omega arith), byte_there at m i 2 (2 * m + i) (omega arith), byte_there at m i 3 (3 * m + i) (omega arith)) refl

  head_there : head_of file ≡ head_in file
  unfolding head_of head_in
  head_there = rw (number_there 0 1 0, number_there 4 1 0, number_there 8 1 0) refl

  entry_there : (at m i : ℕ) → entry_from file at m i ≡ number_in m (drop at file) i
  unfolding entry_from number_in
  entry_there at m i = rw (number_there at m i, number_there (at + 4 * m) m i, ← drop-drop (4 * m) at file, signed_same (word_at m (drop (4 * m) (drop at file)) i)) refl

  entries_there : (side : Side) (i : ℕ) → entry_of side file i ≡ entries_in side file i
  unfolding entry_of entries_in entry_in store_places
  entries_there Low i = rw head_there (entry_there 12 _ i)
  entries_there High i = rw head_there (entry_there _ _ i)

-- ---- a file that is written

within : (n : ℕ) {i : ℕ} → i < table_places n → i < triangle (suc n)
unfolding store_places
within n l = rw (store_places_lem n) at l

within_back : (n : ℕ) {i : ℕ} → i < triangle (suc n) → i < table_places n
unfolding store_places
within_back n l = rw (← store_places_lem n) at l

number_on_lem : (side : Side) (s : Store) (i : ℕ) → number_at (side_of side s) i ≡ number_on side (slices s) i
unfolding number_at side_of
number_on_lem Low s i = refl
number_on_lem High s i = refl

kept_either : (x : Kept) → is_kept x ≡ true → (2147483648 ≤ x.significand) ⊎ (x ≡ kept_zero)
unfolding is_kept kept_zero
kept_either x is = by_tests (leb 2147483648 x.significand) (eqb x.significand 0) (eqb (nat_abs x.exponent) 0) refl refl refl is
  where
    zero_exponent : (e : ℤ) → nat_abs e ≡ 0 → e ≡ pos 0
    zero_exponent (pos k) none = ap pos none
    zero_exponent (negsuc k) none = absurd (omega arith)

    by_tests : (large none zero_power : Bool) → large ≡ leb 2147483648 x.significand → none ≡ eqb x.significand 0 → zero_power ≡ eqb (nat_abs x.exponent) 0
        → (large || (none && zero_power)) ≡ true → (2147483648 ≤ x.significand) ⊎ (x ≡ kept_zero)
    by_tests true none zero_power a b c is = inl (leb-true 2147483648 x.significand (sym a))
    by_tests false true true a b c is =
        inr (rw (eqb-true x.significand 0 (sym b), zero_exponent x.exponent (eqb-true (nat_abs x.exponent) 0 (sym c))) refl)
    by_tests false true false a b c is = absurd (true≢false (sym is))
    by_tests false false zero_power a b c is = absurd (true≢false (sym is))

fits_range : (e : ℤ) → SFits w32 e → (negsuc 2147483647 ≤ℤ e) × (e ≤ℤ pos 2147483647)
fits_range (pos k) fits = (record { le = tt }, record { le = le→leb k 2147483647 (omega (arith, fits.sfits)) })
fits_range (negsuc k) fits = (record { le = le→leb k 2147483647 (omega (arith, fits.sfits)) }, record { le = tt })

range_fits : (e : ℤ) → (negsuc 2147483647 ≤ℤ e) × (e ≤ℤ pos 2147483647) → SFits w32 e
range_fits (pos k) range = record { sfits = omega (arith, leb→le k 2147483647 range.1.le) }
range_fits (negsuc k) range = record { sfits = omega (arith, leb→le k 2147483647 range.0.le) }

entry_meets : (x : Kept) → is_kept x ≡ true → FitsTypes x → EntryDemands x
entry_meets x kept fits = record {
  number = elim (kept_either x kept) [ inl large ↦ inr (large, fits.significand) | inr none ↦ inl none ];
  exponent = fits_range x.exponent fits.exponent;
}

entry_kept : (x : Kept) → EntryDemands x → (is_kept x ≡ true) × FitsTypes x
unfolding is_kept kept_zero
entry_kept x demands = elim demands.number [
  | inl none ↦ (rw none refl, record { significand = rw none (lit< tt); exponent = range_fits x.exponent demands.exponent })
  | inr large ↦
      (rw (le-leb 2147483648 x.significand large.0) refl, record { significand = large.1; exponent = range_fits x.exponent demands.exponent })
]

-- Byte k of a number that stands in planes from a place on.
there : (file : List ℕ) → AreBytes file → (at m i x k place : ℕ) → k < 4 → word_at m (drop at file) i ≡ x → place ≡ at + (k * m + i) → get_or file place 0 ≡ byte_from k x
there file are at m i x k place l word is =
    rw is
    (byte_there file at m i k (k * m + i) refl
    ∙ sym (byte_back m (drop at file) (bytes_behind at file are) i k l) ∙ ap (byte_of k) word ∙ byte_same k x l)

-- The same from another place on, four arrays further, and of a number on its own.
nearer : (at j k m i : ℕ) → at + ((j + k) * m + i) ≡ (at + j * m) + (k * m + i)
nearer at j k m i = rw (add-mul j k m) (omega arith)

further : (k m i : ℕ) → (12 + 8 * m) + ((4 + k) * m + i) ≡ 12 + ((12 + k) * m + i)
further k m i = rw (add-mul 4 k m, add-mul 12 k m) (omega arith)

alone : (at k : ℕ) → at + (k * 1 + 0) ≡ at + k
alone at k = omega arith

module _ {head : Pool} {s : Store} {file : List ℕ} (written : Written head s file) where
  abbrev m : ℕ
  m = table_places head.assets

  are_bytes : AreBytes file
  unfolding file_of
  are_bytes = rw written.file_is (laid_bytes _)

  entry_number : (side : Side) (i : ℕ) → i < m → entry_in m side file i ≡ number_on side (slices s) i
  unfolding store_places number_at
  entry_number side i l = entry_written written side i l ∙ by_side side
    where
      by_side : (side : Side) → side_from (number_at s.low) (number_at s.high) side i ≡ number_on side (slices s) i
      by_side Low = refl
      by_side High = refl

  words_of : (at i : ℕ) (x : Kept) → number_in m (drop at file) i ≡ x
      → (word_at m (drop at file) i ≡ x.significand) × (word_at m (drop (at + 4 * m) file) i ≡ complement x.exponent)
  unfolding number_in
  words_of at i x is =
      let behind : List ℕ = drop (4 * m) (drop at file) in
      let below = word_below m behind (bytes_behind (4 * m) (drop at file) (bytes_behind at file are_bytes)) i in (
        ap (λ (y : Kept). y.significand) is,
        rw (← drop-drop (4 * m) at file) (sym (pattern_signed (word_at m behind i) below) ∙ ap (λ (y : Kept). pattern y.exponent) is ∙ pattern_same x.exponent),
      )

  low_words : (i : ℕ) → i < m
      → (word_at m (drop 12 file) i ≡ get_or s.low.significands i 0) × (word_at m (drop (12 + 4 * m) file) i ≡ complement (get_or s.low.exponents i (pos 0)))
  unfolding entry_in
  low_words i l = words_of 12 i _ (entry_number Low i l)

  high_words : (i : ℕ) → i < m
      → (word_at m (drop (12 + 8 * m) file) i ≡ get_or s.high.significands i 0)
      × (word_at m (drop (12 + 12 * m) file) i ≡ complement (get_or s.high.exponents i (pos 0)))
  unfolding entry_in
  high_words i l =
      let twelve : 12 + 8 * m + 4 * m ≡ 12 + 12 * m = omega arith in
      rw twelve at (words_of (12 + 8 * m) i _ (entry_number High i l))

  file_meets : FileDemands head (slices s) file
  unfolding file_bytes head_in
  file_meets =
      let byte = there file are_bytes in
      let head_is = written_head written in
      record {
        size = written_bytes written;
        assets = λ k l. byte 0 1 0 _ k k l (ap (λ (h : Pool). h.assets) head_is) (omega arith);
        probability = λ k l. byte 4 1 0 _ k (4 + k) l (ap (λ (h : Pool). h.probability) head_is) (omega arith);
        correlation = λ k l. byte 8 1 0 _ k (8 + k) l (ap (λ (h : Pool). h.correlation) head_is) (omega arith);
        low_significands = λ k i l h. byte 12 m i _ k _ l (low_words i h).0 refl;
        low_exponents = λ k i l h. byte (12 + 4 * m) m i _ k _ l (low_words i h).1 (nearer 12 4 k m i);
        high_significands = λ k i l h. byte (12 + 8 * m) m i _ k _ l (high_words i h).0 (nearer 12 8 k m i);
        high_exponents = λ k i l h. byte (12 + 12 * m) m i _ k _ l (high_words i h).1 (nearer 12 12 k m i);
      }

  room_of : EachAtLeast (triangle (suc head.assets)) (lengths s) → RoomDemands m (slices s)
  unfolding lengths store_places
  room_of each =
      let room = rw (← store_places_lem head.assets) at each in
      record { low_significands = room.0; high_significands = room.1.0; low_exponents = room.1.1.0; high_exponents = room.1.1.1.0 }

  written_meets : WrittenDemands head (slices s) file
  unfolding largest_pool whole
  written_meets =
      let pool = written.fill.pool in
      record {
        assets = (pool.not_empty, pool.range.assets);
        probability = pool.range.probability;
        correlation = pool.range.correlation;
        room = room_of written.fill.store;
        entries = λ side i l.
            subst EntryDemands (number_on_lem side s i)
            (entry_meets (number_at (side_of side s) i) ((written.kept side).at i (within head.assets l)) ((written.fits side).at i (within head.assets l)));
        bytes = file_meets;
      }

each_room : (n : ℕ) {s : Slices} → RoomDemands (table_places n) s → EachAtLeast (triangle (suc n)) (lengths_of s)
unfolding store_places
each_room n room = rw (← store_places_lem n) (room.low_significands, (room.high_significands, (room.low_exponents, (room.high_exponents, tt))))

-- ---- from what is demanded of a file, what it was written from

module _ (file : List ℕ) where
  word_there : (at m i x : ℕ) → x < 2 ^ 32 → ((k : ℕ) → k < 4 → get_or file (at + (k * m + i)) 0 ≡ byte_from k x) → word_at m (drop at file) i ≡ x
  word_there at m i x below byte =
      word_of_bytes m (drop at file) i x below (λ k l. get_or-drop at file (k * m + i) 0 ∙ byte k l ∙ sym (byte_same k x l))

  number_back : (at m i : ℕ) (x : Kept) → FitsTypes x → ((k : ℕ) → k < 4 → get_or file (at + (k * m + i)) 0 ≡ byte_from k x.significand)
      → ((k : ℕ) → k < 4 → get_or file (at + ((4 + k) * m + i)) 0 ≡ byte_from k (complement x.exponent)) → number_in m (drop at file) i ≡ x
  unfolding number_in
  number_back at m i x fits significands exponents =
      let behind : word_at m (drop (4 * m) (drop at file)) i ≡ pattern x.exponent =
      rw (drop-drop (4 * m) at file)
      (word_there (at + 4 * m) m i (pattern x.exponent) (pattern_below x.exponent fits.exponent)
      (λ k l. ap (λ (place : ℕ). get_or file place 0) (sym (nearer at 4 k m i)) ∙ exponents k l ∙ ap (byte_from k) (sym (pattern_same x.exponent)))) in
      rw (word_there at m i x.significand fits.significand significands, behind, signed_pattern x.exponent fits.exponent) refl

module _ {head : Pool} {s : Slices} {file : List ℕ} (are : AreBytes file) (demands : WrittenDemands head s file) where
  abbrev m₀ : ℕ
  m₀ = table_places head.assets

  head_back : head_in file ≡ head
  unfolding head_in
  head_back =
      head_parts _ head
      (word_there file 0 1 0 head.assets (omega (arith, demands.assets.1)) (λ k l. ap (λ (place : ℕ). get_or file place 0) (alone 0 k ∙ zero-add k) ∙ demands.bytes.assets k l))
      (word_there file 4 1 0 head.probability (omega (arith, demands.probability)) (λ k l. ap (λ (place : ℕ). get_or file place 0) (alone 4 k) ∙ demands.bytes.probability k l))
      (word_there file 8 1 0 head.correlation (omega (arith, demands.correlation)) (λ k l. ap (λ (place : ℕ). get_or file place 0) (alone 8 k) ∙ demands.bytes.correlation k l))

  fits_back : (side : Side) (i : ℕ) → i < m₀ → FitsTypes (number_on side s i)
  fits_back side i l = (entry_kept (number_on side s i) (demands.entries side i l)).1

  entry_back : (side : Side) (i : ℕ) → i < m₀ → entry_in m₀ side file i ≡ number_on side s i
  unfolding entry_in
  entry_back Low i l =
      number_back file 12 m₀ i (number_on Low s i) (fits_back Low i l) (λ k h. demands.bytes.low_significands k i h l) (λ k h. demands.bytes.low_exponents k i h l)
  entry_back High i l =
      number_back file (12 + 8 * m₀) m₀ i (number_on High s i) (fits_back High i l)
      (λ k h. ap (λ (place : ℕ). get_or file place 0) (sym (nearer 12 8 k m₀ i)) ∙ demands.bytes.high_significands k i h l)
      (λ k h. ap (λ (place : ℕ). get_or file place 0) (further k m₀ i) ∙ demands.bytes.high_exponents k i h l)

  number_back_on : (side : Side) (i : ℕ) → number_at (side_of side (store_of s)) i ≡ number_on side s i
  unfolding number_at side_of store
  number_back_on Low i = refl
  number_back_on High i = refl

  written_back : Written head (store_of s) file
  unfolding largest_pool whole file_of file_arrays file_bytes store_places side_of lengths store
  written_back = record {
    fill = record {
      pool = record { not_empty = demands.assets.0; range = record { assets = demands.assets.1; probability = demands.probability; correlation = demands.correlation } };
      store = each_room head.assets demands.room;
    };
    kept = λ side. record {
      at = λ i l. ap is_kept (number_back_on side i) ∙ (entry_kept (number_on side s i) (demands.entries side i (within_back head.assets l))).0;
    };
    fits = λ side. record { at = λ i l. subst FitsTypes (sym (number_back_on side i)) (fits_back side i (within_back head.assets l)) };
    file_is =
        sym (file_from_parts file are m₀ (demands.bytes.size ∙ file_places head.assets))
        ∙ rw (
          head_back,
          side_arrays_same m₀ (λ i l. entry_back Low i l ∙ sym (number_back_on Low i)),
          side_arrays_same m₀ (λ i l. entry_back High i l ∙ sym (number_back_on High i)),
        ) refl;
  }

-- ---- what an accepted call left

module _ {parts : ℕ → ℕ} {pool came head : Pool} {before after : Slices} (filled : StoreDemands pool parts came before after 0 head) where
  accepted : FillAccepted largest_pool pool.assets pool.probability pool.correlation (lengths_of before)
  unfolding largest_pool
  accepted = fill_accepted 100 _ _ _ _ refl (filled.accepted refl)

  module _ {s : Slices} (same : SameEntries (table_places pool.assets) s after) where
    made_there : (side : Side) (j k : ℕ) → j ≤ k → k ≤ pool.assets
        → number_on side s (k * (k + 1) / 2 + j) ≡ number_on side after (k * (k + 1) / 2 + j)
    unfolding triangle place
    made_there side j k l m =
        let rows : suc k ≤ suc pool.assets = omega arith in
        let inside = triangle_mono rows in
        same.entries side (place k j) (within_back pool.assets (rw (place_triangle k j) (omega (arith, inside))))

    table_there : TableDemands pool parts s
    table_there =
        let table = filled.table refl in
        record {
          made = λ side j k l m. made_there side j k l m ∙ table.made side j k l m;
          entries = λ j k l m. rw (made_there Low j k l m, made_there High j k l m) (table.entries j k l m);
          steps = table.steps;
        }

    ranged_there : (side : Side) (i : ℕ) → i < triangle (suc pool.assets) → Ranged (number_on side s i)
    unfolding place
    ranged_there side i l =
        let found = in_row (suc pool.assets) i l in
        let row : found.row ≤ pool.assets = omega (arith, found.before) in
        let there : i ≡ place found.row found.entry = found.is ∙ sym (place_triangle found.row found.entry) in
        subst Ranged (sym (ap (number_on side s) there ∙ table_there.made side found.entry found.row found.within row))
        (exponents (working_range accepted.pool.range) side (of_rows (is_entry found.row found.entry row found.within)))

filled_writes : {parts : ℕ → ℕ} {pool came head : Pool} {before after : Slices} (s : Store) {bytes : ℕ} → StoreDemands pool parts came before after 0 head
    → SameEntries (table_places pool.assets) (slices s) after → RoomDemands (table_places pool.assets) (slices s)
    → bytes ≡ 12 + 8 * ((pool.assets + 1) * (pool.assets + 2)) → write_refusal head s bytes ≡ 0
unfolding file_bytes lengths
filled_writes {pool = pool} s {bytes} filled same room long =
    subst (λ (h : Pool). write_refusal h s bytes ≡ 0) (sym (filled.head_is refl))
    (ranged_write pool s (record { pool = (accepted filled).pool; store = each_room pool.assets room })
    (λ side i l. subst Ranged (sym (number_on_lem side s i)) (ranged_there filled same side i l)) long)

-- What a file says that it is written from is written to it.
again_accepted : {head : Pool} {s : Store} {file : List ℕ} {bytes : ℕ} → AreBytes file → WrittenDemands head (slices s) file → bytes ≡ length file
    → write_refusal head s bytes ≡ 0
unfolding write_refusal side_of store lengths
again_accepted {head} {s} are demands long =
    let back = written_back are demands in
    file_answered _ _ _ _ _ _ _ _
    (record { form = record { fill = back.fill; length = long ∙ written_bytes back }; low_kept = back.kept Low; high_kept = back.kept High })

writes_again : {head : Pool} {s : Store} {before after : List ℕ} {refusal : ℕ} (file : List ℕ) → WritesFile head s before after refusal
    → ((i : ℕ) → get_or file i 0 < 256) → WrittenDemands head (slices s) file → length before ≡ length file → (refusal ≡ 0) × (after ≡ file)
unfolding store
writes_again file contract are demands long =
    let bytes : AreBytes file = record { at = are } in
    let none = contract.writes.refusal_is ∙ again_accepted bytes demands long in
    (none, (contract.written none).file_is ∙ sym (written_back bytes demands).file_is)

-- ---- the calls

pub write_meets : {head : Pool} {s : Store} {before after : List ℕ} {refusal : ℕ} → WritesFile head s before after refusal
    → WriteDemands head (slices s) before after refusal
unfolding write_refusal lengths largest_pool number_at
write_meets {s = s} contract = record {
  one = record { number = contract.writes.refusal_is; untouched = writes_kept contract.writes };
  written = λ none. written_meets (contract.written none);
  of_written = λ file are demands long. writes_again file contract are demands long;
  of_filled = λ parts pool came before₀ after₀ filled same room long. contract.writes.refusal_is ∙ filled_writes s filled same room long;
}

same_entries : (n : ℕ) {s t : Store} → SameNumbers (triangle (suc n)) s t → SameEntries (table_places n) (slices s) (slices t)
same_entries n {s} {t} same = record { entries = λ side i l. sym (number_on_lem side s i) ∙ same.at side i (within n l) ∙ number_on_lem side t i }

module _ {head head' : Pool} {file : List ℕ} {before after : Store} {refusal : ℕ} (contract : ReadsFile head file before after refusal head') where
  reads_number_is : refusal
      ≡ first_ground (file_grounds 100 (head_of file).assets (head_of file).probability (head_of file).correlation (length file) (lengths_of (slices before)) (entry_of Low file) (entry_of High file))
  unfolding read_refusal lengths largest_pool
  reads_number_is = rw (head_there file, fun_ext (entries_there file Low), fun_ext (entries_there file High)) contract.reads.refusal_is

  module _ (none : refusal ≡ 0) where
    places_read : table_places head'.assets ≡ store_places (head_in file).assets
    unfolding store_places
    places_read = ap (λ (h : Pool). table_places h.assets) (reads_head contract.reads none)

    read_entries : (side : Side) (i : ℕ) → i < table_places head'.assets → number_on side (slices after) i ≡ entry_of side file i
    read_entries side i l =
        sym (number_on_lem side after i) ∙ reads_number contract.reads none side i (rw places_read at l) ∙ sym (entries_there file side i)

    read_later : from (table_places head'.assets) (slices after) ≡ from (table_places head'.assets) (slices before)
    unfolding store_with lent
    read_later =
        let low = side_later (store_places (head_in file).assets) (entries_in Low file) before.low in
        let high = side_later (store_places (head_in file).assets) (entries_in High file) before.high in
        rw (places_read, reads_store contract.reads none, low.0, low.1, high.0, high.1) refl

  of_written : {head₀ : Pool} {s : Slices} → WrittenDemands head₀ s file → RoomDemands (table_places head₀.assets) (slices before)
      → (refusal ≡ 0) × (head' ≡ head₀) × SameEntries (table_places head₀.assets) (slices after) s
  unfolding lengths
  of_written {head₀} {s} demands room =
      let back = contract.of_written (written_back contract.reads.bytes demands) (each_room head₀.assets room) in (
        back.0,
        back.1,
        record { entries = λ side i l. (same_entries head₀.assets back.2).entries side i l ∙ sym (number_on_lem side (store_of s) i) ∙ number_back_on contract.reads.bytes demands side i },
      )

pub read_meets : {head head' : Pool} {file : List ℕ} {before after : Store} {refusal : ℕ} → ReadsFile head file before after refusal head'
    → ReadDemands head file (slices before) (slices after) refusal head'
unfolding lengths
read_meets {file = file} {before} {after} contract = record {
  one = record { number = reads_number_is contract; untouched = λ some. ap slices (reads_kept contract.reads some).0 };
  head_is = λ none. reads_head contract.reads none ∙ sym (head_there file);
  head_kept = λ some. (reads_kept contract.reads some).1;
  entries = read_entries contract;
  lengths = λ none. reads_lengths contract.reads none;
  later = read_later contract;
  written = λ none. written_meets (contract.written none);
  of_written = λ head₀ s demands room. of_written contract demands room;
  of_filled = λ parts pool came head₀ before₀ after₀ s old filled same writes room.
      let own = filled.head_is refl in
      let back = of_written contract (writes.written refl) (subst (λ (h : Pool). RoomDemands (table_places h.assets) (slices before)) (sym own) room) in
      let all : SameEntries (table_places pool.assets) (slices after) after₀ = record {
        entries = λ side i l. back.2.entries side i (subst (λ (h : Pool). i < table_places h.assets) (sym own) l) ∙ same.entries side i l;
      } in
      (back.0, back.1, all, table_there filled all);
}
