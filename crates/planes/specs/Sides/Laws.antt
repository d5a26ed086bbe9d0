-- What the loops over a side leave.
-- Assumes nothing.
use Rattle.std.specs.Prelude.{ℕ, zero, suc, ◌+◌, ◌*◌, ◌≤◌, ◌<◌, ◌≡◌, Bool, true, false, drop}
use Rattle.std.proofs.Math.Path.{refl, sym}
use Rattle.std.proofs.Common.{ap, ap₂, subst, ◌∙◌, add-one, mul-le-mul_right, arith, below_more}
use mathlib.Core.List.{List, [], ◌∷◌, ◌++◌, map, map-append, append_assoc}
use Rattle.std.proofs.Math.ListN.{length, length-append, length-map}
use Rattle.kept.specs.declared.Kept.{Kept}
use Rattle.kept.specs.Rounding.{nought}
use Rattle.working.specs.Slices.{tabulate, SideStore, number_at, HasPlaces, SameLengths, Stored}
use Rattle.working.proofs.Slices.Laws.{length_tabulate, get_d_tabulate, tabulate_same, overwritten_field, overwritten_length, overwritten_later, holding_none}
use Rattle.buffer.specs.Stores.{HasRoom, Puts, puts_none, puts_both, puts_length}
use Rattle.grounds.specs.Grounds.{is_kept, some_unkept}
use Rattle.grounds.specs.Grounds.Laws.{none_unkept, some_unkept_lem}
use Rattle.planes.specs.declared.words.Part.{Part}
use Rattle.planes.specs.declared.words.Part.TheVariants.{Significand, Exponent}
use Rattle.planes.specs.Planes.{byte_of, planes, laid}
use Rattle.planes.specs.Planes.Laws.{planes_length}
use Rattle.planes.specs.Sides.{word_of, array_of, side_arrays, side_after, FitsTypes, AllFit}

pub array_length : (part : Part) (m : ℕ) (f : ℕ → Kept) → length (array_of part m f) ≡ m
unfolding array_of
array_length part m f = length_tabulate m (λ i. word_of part (f i))

pub plane_length : (part : Part) (k m : ℕ) (f : ℕ → Kept) → length (map (byte_of k) (array_of part m f)) ≡ m
plane_length part k m f = length-map (array_of part m f) (byte_of k) ∙ array_length part m f

pub part_length : (part : Part) (m : ℕ) (f : ℕ → Kept) → length (planes (array_of part m f)) ≡ 4 * m
part_length part m f = rw (planes_length, array_length) refl

pub side_length : (m : ℕ) (f : ℕ → Kept) → length (laid (side_arrays m f)) ≡ 8 * m
unfolding laid side_arrays
side_length m f = rw (length-append, part_length, length-append, part_length) (omega arith)

-- Byte k of the first i of them is put.
abbrev pub PutsPlane : (part : Part) (k i : ℕ) (f : ℕ → Kept) (at : ℕ) (before after : List ℕ) (next : ℕ) → Type 0
PutsPlane part k i f = Puts (map (byte_of k) (array_of part i f))

module _ (part : Part) (k : ℕ) (f : ℕ → Kept) {at : ℕ} {before : List ℕ} where
  pub plane_none : PutsPlane part k 0 f at before before at
  unfolding array_of tabulate
  plane_none = puts_none at before

  module _ (i : ℕ) {next : ℕ} {after : List ℕ} (put : PutsPlane part k i f at before after next) where
    pub plane_room : (m byte : ℕ) → i < m → HasRoom (map (byte_of k) (array_of part m f)) at before → HasRoom (byte ∷ []) next after
    plane_room m byte l room =
        record { room = omega (arith, room.room, put.place, puts_length put, plane_length part k i f, plane_length part k m f) }

    pub plane_more : {byte next' : ℕ} {after' : List ℕ} → byte ≡ byte_of k (word_of part (f i)) → Puts (byte ∷ []) next after after' next'
        → PutsPlane part k (i + 1) f at before after' next'
    unfolding array_of tabulate
    plane_more is byte_put = rw (add-one i, map-append, ← is) (puts_both put byte_put)

    pub plane_all : (m : ℕ) → i ≤ m → m ≤ i → PutsPlane part k m f at before after next
    plane_all m most least = let same : i ≡ m = omega arith in subst (λ (j : ℕ). PutsPlane part k j f at before after next) same put

pub fit_none : {f : ℕ → Kept} → AllFit 0 f
fit_none = record { at = λ i l. absurd (omega arith) }

pub fit_more : {i : ℕ} {f : ℕ → Kept} → AllFit i f → FitsTypes (f i) → AllFit (i + 1) f
fit_more {i} {f} all next = record { at = below_more (λ j. FitsTypes (f j)) i all.at next }

pub fit_all : {m i : ℕ} {f : ℕ → Kept} → m ≤ i → AllFit i f → AllFit m f
fit_all most all = record { at = λ j l. all.at j (omega arith) }

-- The first k planes of numbers.
unfoldable pub first_planes : (k : ℕ) → List ℕ → List ℕ
first_planes zero xs = []
first_planes (suc k) xs = first_planes k xs ++ map (byte_of k) xs

module _ (xs : List ℕ) where
  pub all_planes : first_planes 4 xs ≡ planes xs
  unfolding first_planes planes
  all_planes = rw (append_assoc, append_assoc) refl

pub first_planes_length : (part : Part) (k m : ℕ) (f : ℕ → Kept) → length (first_planes k (array_of part m f)) ≡ k * m
unfolding first_planes
first_planes_length part zero m f = omega arith
first_planes_length part (suc k) m f = rw (length-append, first_planes_length part k m f, length-map, array_length) (omega arith)

pub plane_within : (k m : ℕ) → k < 4 → k * m + m ≤ 4 * m
plane_within k m l = let most : suc k * m ≤ 4 * m = mul-le-mul_right m l in omega arith

-- How many bytes are put.
pub ruleset lengths = (planes_length, plane_length, first_planes_length, plane_within, part_length, side_length)

-- Some are no kept numbers where a test says so that finds one and otherwise none.
pub unkept_found : {found : Bool} (m : ℕ) (f : ℕ → Kept) → (found ≡ true → (i : ℕ) × (i < m) × (is_kept (f i) ≡ false))
    → (found ≡ false → (i : ℕ) → i < m → is_kept (f i) ≡ true) → found ≡ some_unkept m f
unkept_found {found = true} m f some none = let bad = some refl in sym (some_unkept_lem m f bad.0 bad.1 bad.2)
unkept_found {found = false} m f some none = sym (none_unkept m f (record { at = none refl }))

-- Arrays of the same numbers.
pub side_arrays_same : {f g : ℕ → Kept} (m : ℕ) → ((i : ℕ) → i < m → f i ≡ g i) → side_arrays m f ≡ side_arrays m g
unfolding side_arrays array_of
side_arrays_same m same =
    ap₂ (λ (significands exponents : List ℕ). significands ∷ exponents ∷ [])
    (tabulate_same m (λ i l. ap (word_of Significand) (same i l))) (tabulate_same m (λ i l. ap (word_of Exponent) (same i l)))

module _ (m : ℕ) (f : ℕ → Kept) (h : SideStore) where
  side_numbers : length (tabulate m f) ≡ m
  side_numbers = length_tabulate m f

  pub side_number : (i : ℕ) → i < m → number_at (side_after m f h) i ≡ f i
  unfolding side_after number_at nought
  side_number i l =
      let within : i < length (tabulate m f) = omega (arith, side_numbers) in
      rw (
        overwritten_field (λ x. x.significand) (tabulate m f) h.significands i within,
        overwritten_field (λ x. x.exponent) (tabulate m f) h.exponents i within,
        get_d_tabulate m f i nought l,
      ) refl

  pub side_lengths : HasPlaces m h → SameLengths h (side_after m f h)
  unfolding side_after
  side_lengths room = record {
    significands = overwritten_length _ h.significands (rw (length-map, side_numbers) room.significands);
    exponents = overwritten_length _ h.exponents (rw (length-map, side_numbers) room.exponents);
  }

  pub side_later : (drop m (side_after m f h).significands ≡ drop m h.significands) × (drop m (side_after m f h).exponents ≡ drop m h.exponents)
  unfolding side_after
  side_later =
      let numbers : List Kept = tabulate m f in (
        overwritten_later (map (λ x. x.significand) numbers) h.significands {m = m} (rw length-map side_numbers),
        overwritten_later (map (λ x. x.exponent) numbers) h.exponents {m = m} (rw length-map side_numbers),
      )

-- What putting them in the slices leaves.
pub side_after_lem : {m : ℕ} {f : ℕ → Kept} {h h' : SideStore} → Stored f m 0 h h' → h' ≡ side_after m f h
unfolding side_after
side_after_lem stored =
    let holding = stored.holding holding_none in
    rw (holding.significands, holding.exponents) refl
