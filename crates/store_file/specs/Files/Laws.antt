-- The head and the entries of a file that was written, and that a file of the right length is what is written from its head and its entries.
-- Assumes nothing.
use Rattle.std.specs.Prelude.{ℕ, zero, suc, ◌+◌, ◌*◌, ◌^◌, ◌<◌, ◌≡◌, length, get_or, drop}
use Rattle.std.proofs.Math.Path.{refl, ap}
use Rattle.std.proofs.Common.{sym, ◌∙◌, arith, lit<, drop-drop}
use mathlib.Core.List.{List, [], ◌∷◌}
use Rattle.std.proofs.Math.Decide.{dec_le}
use Rattle.std.proofs.Math.ListN.{get_or-eq_default}
use Rattle.kept.specs.declared.Kept.{Kept}
use Rattle.kept.specs.declared.Side.{Side}
use Rattle.kept.specs.declared.Side.TheVariants.{Low, High}
use Rattle.working.specs.Slices.{tabulate}
use Rattle.working.proofs.Slices.Laws.{get_d_tabulate, tabulate_same}
use Rattle.planes.specs.declared.words.Part.{Part}
use Rattle.planes.specs.declared.words.Part.TheVariants.{Significand, Exponent}
use Rattle.planes.specs.Planes.{laid, arrays_in, words, word_at, signed, AreBytes, AreWords}
use Rattle.planes.specs.Planes.Laws.{laid_length, arrays_laid, laid_arrays, bytes_behind, word_below, pattern_signed, signed_pattern, signed_fits, pattern_below}
use Rattle.planes.specs.Sides.{word_of, array_of, side_arrays, number_in, FitsTypes}
use Rattle.planes.specs.Sides.Laws.{array_length}
use Rattle.steps.specs.declared.Pool.{Pool}
use Rattle.store_file.specs.Files.{file_arrays, head_in, entry_in}

-- How many numbers each array of a file has.
abbrev sizes : ℕ → List ℕ
sizes m = 1 ∷ 1 ∷ 1 ∷ m ∷ m ∷ m ∷ m ∷ []

-- The arrays of a file, each from its place on.
abbrev placed : (m : ℕ) (file : List ℕ) → List (List ℕ)
placed m file =
    words 1 file ∷ words 1 (drop 4 file) ∷ words 1 (drop 8 file) ∷ words m (drop 12 file) ∷ words m (drop (4 * m) (drop 12 file))
    ∷ words m (drop (12 + 8 * m) file) ∷ words m (drop (4 * m) (drop (12 + 8 * m) file)) ∷ []

parts : (m : ℕ) (file : List ℕ) → arrays_in (sizes m) file ≡ placed m file
unfolding arrays_in
parts m file =
    let eight : 12 + 4 * m + 4 * m ≡ 12 + 8 * m = omega arith in
    let high_side : drop (4 * m) (drop (4 * m) (drop 12 file)) ≡ drop (12 + 8 * m) file =
    ap (drop (4 * m)) (drop-drop (4 * m) 12 file) ∙ drop-drop (4 * m) (12 + 4 * m) file ∙ ap (λ (k : ℕ). drop k file) eight in
    rw (drop-drop 4 4 file, drop-drop 4 8 file, high_side) refl

-- ---- writing undoes reading

module _ (file : List ℕ) (are : AreBytes file) where
  side_words : (m at : ℕ) → side_arrays m (number_in m (drop at file)) ≡ words m (drop at file) ∷ words m (drop (4 * m) (drop at file)) ∷ []
  unfolding side_arrays array_of word_of number_in words
  side_words m at =
      let behind = bytes_behind (4 * m) (drop at file) (bytes_behind at file are) in
      ap (λ (xs : List ℕ). words m (drop at file) ∷ xs ∷ [])
      (tabulate_same m (λ i l. pattern_signed (word_at m (drop (4 * m) (drop at file)) i) (word_below m (drop (4 * m) (drop at file)) behind i)))

  arrays_are : (m : ℕ) → file_arrays (head_in file) m (entry_in m Low file) (entry_in m High file) ≡ arrays_in (sizes m) file
  unfolding file_arrays head_in entry_in words tabulate
  arrays_are m = rw (parts m file, side_words m 12, side_words m (12 + 8 * m)) refl

  pub file_from_parts : (m : ℕ) → length file ≡ 12 + 16 * m → laid (file_arrays (head_in file) m (entry_in m Low file) (entry_in m High file)) ≡ file
  file_from_parts m long = rw (arrays_are m) (laid_arrays (sizes m) file are (omega (arith, long)))

  pub entry_fits : (m : ℕ) (side : Side) (i : ℕ) → FitsTypes (entry_in m side file i)
  unfolding entry_in number_in
  entry_fits m side i = by_side side
    where
      at : (start : ℕ) → FitsTypes (number_in m (drop start file) i)
      at start =
          let from_there = bytes_behind start file are in
          record {
            significand = word_below m (drop start file) from_there i;
            exponent = signed_fits _ (word_below m (drop (4 * m) (drop start file)) (bytes_behind (4 * m) (drop start file) from_there) i);
          }

      by_side : (side : Side) → FitsTypes (entry_in m side file i)
      by_side Low = at 12
      by_side High = at (12 + 8 * m)

-- ---- reading undoes writing

array_at : (part : Part) (m : ℕ) (f : ℕ → Kept) (i : ℕ) → i < m → get_or (array_of part m f) i 0 ≡ word_of part (f i)
unfolding array_of
array_at part m f i l = get_d_tabulate m (λ i. word_of part (f i)) i 0 l

word_fits : (part : Part) (x : Kept) → FitsTypes x → word_of part x < 2 ^ 32
unfolding word_of
word_fits Significand x fits = fits.significand
word_fits Exponent x fits = pattern_below x.exponent fits.exponent

number_read : (bytes : List ℕ) (m : ℕ) (f : ℕ → Kept) (i : ℕ) → i < m → FitsTypes (f i) → get_or (words m bytes) i 0 ≡ word_of Significand (f i)
    → get_or (words m (drop (4 * m) bytes)) i 0 ≡ word_of Exponent (f i) → number_in m bytes i ≡ f i
unfolding number_in words word_of
number_read bytes m f i l fits significand exponent =
    let is : word_at m bytes i ≡ (f i).significand = sym (get_d_tabulate m (word_at m bytes) i 0 l) ∙ significand in
    let behind : List ℕ = drop (4 * m) bytes in
    let back : signed (word_at m behind i) ≡ (f i).exponent =
    ap signed (sym (get_d_tabulate m (word_at m behind) i 0 l) ∙ exponent) ∙ signed_pattern (f i).exponent fits.exponent in
    rw (is, back) refl

one_in_file : (file : List ℕ) → get_or (words 1 file) 0 0 ≡ word_at 1 file 0
unfolding words tabulate
one_in_file file = refl

pub head_parts : (h head : Pool) → h.assets ≡ head.assets → h.probability ≡ head.probability → h.correlation ≡ head.correlation → h ≡ head
head_parts h head n p ρ = rw (n, p, ρ) refl

one_word : {x : ℕ} → x < 2 ^ 32 → AreWords (x ∷ [])
one_word {x} l = record { at = each }
  where
    each : (i : ℕ) → get_or (x ∷ []) i 0 < 2 ^ 32
    each zero = l
    each (suc i) = lit< tt

-- Of either side that of a side.
abbrev pub side_from : (low high : ℕ → Kept) → Side → ℕ → Kept
side_from low high Low = low
side_from low high High = high

module _ (head : Pool) (m : ℕ) (low high : ℕ → Kept) where
  pub laid_bytes : length (laid (file_arrays head m low high)) ≡ 12 + 16 * m
  unfolding file_arrays side_arrays
  laid_bytes =
      laid_length (file_arrays head m low high)
      ∙ rw (array_length Significand m low, array_length Exponent m low, array_length Significand m high, array_length Exponent m high) (omega arith)

  module _ (n_fits : head.assets < 2 ^ 32) (p_fits : head.probability < 2 ^ 32) (ρ_fits : head.correlation < 2 ^ 32)
      (fits : (side : Side) (i : ℕ) → i < m → FitsTypes (side_from low high side i)) where
    array_words : (part : Part) (f : ℕ → Kept) → ((i : ℕ) → i < m → FitsTypes (f i)) → AreWords (array_of part m f)
    array_words part f fit = record {
      at = λ i. elim (dec_le m i) [
        | yes past ↦ rw (get_or-eq_default (array_of part m f) 0 {n = i} (rw (array_length part m f) past)) (lit< tt)
        | no past ↦ rw (array_at part m f i (omega arith)) (word_fits part (f i) (fit i (omega arith)))
      ];
    }

    in_file : arrays_in (sizes m) (laid (file_arrays head m low high)) ≡ file_arrays head m low high
    unfolding file_arrays side_arrays
    in_file =
        let written = arrays_laid (file_arrays head m low high) (
          one_word n_fits,
          (
            one_word p_fits,
            (
              one_word ρ_fits,
              (
                array_words Significand low (fits Low),
                (
                  array_words Exponent low (fits Low),
                  (
                    array_words Significand high (fits High),
                    (array_words Exponent high (fits High), tt),
                  ),
                ),
              ),
            ),
          ),
        ) in
        rw (array_length Significand m low, array_length Exponent m low, array_length Significand m high, array_length Exponent m high) at written

    -- Number i of array j of them.
    number_in_file : (j i : ℕ) → get_or (get_or (placed m (laid (file_arrays head m low high))) j []) i 0 ≡ get_or (get_or (file_arrays head m low high) j []) i 0
    number_in_file j i = ap (λ (arrays : List (List ℕ)). get_or (get_or arrays j []) i 0) (sym (parts m (laid (file_arrays head m low high))) ∙ in_file)

    pub head_read : head_in (laid (file_arrays head m low high)) ≡ head
    unfolding head_in file_arrays
    head_read =
        head_parts _ head (sym (one_in_file _) ∙ number_in_file 0 0) (sym (one_in_file _) ∙ number_in_file 1 0) (sym (one_in_file _) ∙ number_in_file 2 0)

    pub entry_read : (side : Side) (i : ℕ) → i < m → entry_in m side (laid (file_arrays head m low high)) i ≡ side_from low high side i
    unfolding entry_in file_arrays side_arrays
    entry_read Low i l =
        number_read _ m low i l (fits Low i l) (number_in_file 3 i ∙ array_at Significand m low i l) (number_in_file 4 i ∙ array_at Exponent m low i l)
    entry_read High i l =
        number_read _ m high i l (fits High i l) (number_in_file 5 i ∙ array_at Significand m high i l) (number_in_file 6 i ∙ array_at Exponent m high i l)
