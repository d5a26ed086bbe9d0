-- Reading undoes writing on m numbers, and writing undoes reading on 4 × m bytes, for every m; of arrays one after the other likewise, and of signed numbers.
-- Assumes nothing.
use Prim.Native.Nat.{ℕ, zero, suc, ◌+◌, ◌-◌, ◌*◌, ◌/◌, ◌%◌, ◌^◌, ◌≤◌, ◌<◌}
use Rattle.std.specs.Prelude.{◌≡◌, Bool, cond, ℤ, pos, negsuc, take, drop}
use Rattle.std.proofs.Math.Path.{refl}
use Rattle.std.proofs.Common.{sym, ap, ap₂, subst, ◌∙◌, lit<, take-append-drop, length-append, length-take, length-drop, get_or-append-add, get_or-drop, get_or-take, ext_get_or}
use Rattle.std.proofs.Math.Bool.{true, false}
use mathlib.Core.List.{List, [], ◌∷◌, ◌++◌, map, append-nil, append_assoc}
use Rattle.std.proofs.Math.Nat.{zero-div}
use Rattle.std.proofs.Math.Decide.{dec_le}
use native.Mathlib.Omega.{arith}
use borrow.Author.Tests.{ltb-true, ltb-false, lt-ltb, le-ltb}
use Rattle.std.proofs.Math.Dec.{ltb}
use Rattle.std.proofs.Math.ListN.{length, get_or, get_or-append, get_or-map, get_or-eq_default}
use Rattle.std.proofs.lemmas.List.{length-map}
use Rattle.std.proofs.Math.Seq.{drop-append_seam}
use Rattle.std.specs.Int.{to_le_bytes}
use mir.Syntax.{w32}
use mir.Val.{SFits}
use Rattle.working.proofs.Slices.Laws.{length_tabulate, get_d_tabulate}
use Rattle.planes.specs.Planes.{byte_of, planes, byte_in, word_at, words, laid, arrays_in, pattern, signed, AreBytes, AreWords, AreIntegers}

-- ---- a number and its four bytes

-- A number of four bytes, from its bytes.
abbrev joined : (a b c d : ℕ) → ℕ
joined a b c d = a + 2 ^ 8 * b + 2 ^ 16 * c + 2 ^ 24 * d

byte_below : (k x : ℕ) → byte_of k x < 256
unfolding byte_of
byte_below k x = omega arith

by_two : (x : ℕ) → x / 65536 ≡ x / 256 / 256
by_two x = omega arith

by_three : (x : ℕ) → x / 16777216 ≡ x / 256 / 256 / 256
by_three x = omega arith

last_byte : (x : ℕ) → x < 2 ^ 32 → x / 256 / 256 / 256 % 256 ≡ x / 256 / 256 / 256
last_byte x l = omega arith

from_quotients : (x a b c p q r : ℕ) → x ≡ 256 * a + p → a ≡ 256 * b + q → b ≡ 256 * c + r → joined p q r c ≡ x
from_quotients x a b c p q r x_is a_is b_is = omega arith

joined_bytes : (x : ℕ) → x < 2 ^ 32 → joined (byte_of 0 x) (byte_of 1 x) (byte_of 2 x) (byte_of 3 x) ≡ x
unfolding byte_of
joined_bytes x l =
    rw (by_two x, by_three x, last_byte x l) (from_quotients x (x / 256) (x / 256 / 256) (x / 256 / 256 / 256) _ _ _ (omega arith) (omega arith) (omega arith))

module _ (a b c d : ℕ) (a_byte : a < 256) (b_byte : b < 256) (c_byte : c < 256) (d_byte : d < 256) where
  joined_below : joined a b c d < 2 ^ 32
  joined_below = omega arith

  byte_0 : byte_of 0 (joined a b c d) ≡ a
  unfolding byte_of
  byte_0 = omega arith

  byte_1 : byte_of 1 (joined a b c d) ≡ b
  unfolding byte_of
  byte_1 = omega arith

  byte_2 : byte_of 2 (joined a b c d) ≡ c
  unfolding byte_of
  byte_2 = omega arith

  byte_3 : byte_of 3 (joined a b c d) ≡ d
  unfolding byte_of
  byte_3 = omega arith

-- The bytes from the lowest, as std gives them.
pub le_bytes : (x : ℕ) → to_le_bytes w32 x ≡ planes (x ∷ [])
unfolding planes byte_of
le_bytes x = let whole : x / 1 ≡ x = omega arith in rw whole refl

pub le_byte : (k x : ℕ) → k < 4 → get_or (to_le_bytes w32 x) k 0 ≡ byte_of k x
unfolding planes
le_byte k x l = ap (λ (bytes : List ℕ). get_or bytes k 0) (le_bytes x) ∙ by_place k l
  where
    by_place : (k : ℕ) → k < 4 → get_or (planes (x ∷ [])) k 0 ≡ byte_of k x
    by_place zero l = refl
    by_place (suc zero) l = refl
    by_place (suc (suc zero)) l = refl
    by_place (suc (suc (suc zero))) l = refl
    by_place (suc (suc (suc (suc k)))) l = absurd (omega arith)

-- ---- an array

pub planes_length : (xs : List ℕ) → length (planes xs) ≡ 4 * length xs
unfolding planes
planes_length xs = rw (length-append, length-append, length-append, length-map, length-map, length-map, length-map) (omega arith)

byte_zero : (k : ℕ) → byte_of k 0 ≡ 0
unfolding byte_of
byte_zero k = rw (zero-div (2 ^ (8 * k))) refl

-- Byte k of number i stands at k × m + i.
module _ (xs rest : List ℕ) (i : ℕ) (within : i < length xs) where
  in_plane : (k : ℕ) (behind : List ℕ) → get_or (map (byte_of k) xs ++ behind) i 0 ≡ byte_of k (get_or xs i 0)
  in_plane k behind =
      get_or-append (map (byte_of k) xs) behind 0 i (rw length-map within)
      ∙ subst (λ (d : ℕ). get_or (map (byte_of k) xs) i d ≡ byte_of k (get_or xs i 0)) (byte_zero k) (get_or-map (byte_of k) xs i 0)

  past_plane : (k j : ℕ) (behind : List ℕ) → get_or (map (byte_of k) xs ++ behind) (length xs + j) 0 ≡ get_or behind j 0
  past_plane k j behind =
      subst (λ (m : ℕ). get_or (map (byte_of k) xs ++ behind) (m + j) 0 ≡ get_or behind j 0) (length-map xs (byte_of k)) (get_or-append-add (map (byte_of k) xs) behind j 0)

  pub byte_at : (k : ℕ) → k < 4 → get_or (planes xs ++ rest) (k * length xs + i) 0 ≡ byte_of k (get_or xs i 0)
  unfolding planes
  byte_at k l = rw (append_assoc, append_assoc, append_assoc) (by_plane k l)
    where
      by_plane : (k : ℕ) → k < 4
          → get_or (map (byte_of 0) xs ++ (map (byte_of 1) xs ++ (map (byte_of 2) xs ++ (map (byte_of 3) xs ++ rest)))) (k * length xs + i) 0 ≡ byte_of k (get_or xs i 0)
      by_plane zero l =
          let place : 0 * length xs + i ≡ i = omega arith in
          rw place (in_plane 0 _)
      by_plane (suc zero) l =
          let place : 1 * length xs + i ≡ length xs + i = omega arith in
          rw place (past_plane 0 _ _ ∙ in_plane 1 _)
      by_plane (suc (suc zero)) l =
          let place : 2 * length xs + i ≡ length xs + (length xs + i) = omega arith in
          rw place (past_plane 0 _ _ ∙ past_plane 1 _ _ ∙ in_plane 2 _)
      by_plane (suc (suc (suc zero))) l =
          let place : 3 * length xs + i ≡ length xs + (length xs + (length xs + i)) = omega arith in
          rw place (past_plane 0 _ _ ∙ past_plane 1 _ _ ∙ past_plane 2 _ _ ∙ in_plane 3 _)
      by_plane (suc (suc (suc (suc k)))) l = absurd (omega arith)

-- A number whose four bytes stand there.
pub word_of_bytes : (m : ℕ) (bytes : List ℕ) (i x : ℕ) → x < 2 ^ 32 → ((k : ℕ) → k < 4 → byte_in m bytes i k ≡ byte_of k x) → word_at m bytes i ≡ x
unfolding word_at
word_of_bytes m bytes i x below byte = rw (byte 0 (lit< tt), byte 1 (lit< tt), byte 2 (lit< tt), byte 3 (lit< tt)) (joined_bytes x below)

-- Reading undoes writing, whatever stands behind the array.
pub words_planes : (xs rest : List ℕ) → AreWords xs → words (length xs) (planes xs ++ rest) ≡ xs
unfolding words
words_planes xs rest are =
    let m = length xs in
    let bytes : List ℕ = planes xs ++ rest in
    ext_get_or 0 _ xs (length_tabulate m (word_at m bytes)) (λ i l.
    let within : i < m = omega (arith, length_tabulate m (word_at m bytes)) in
    get_d_tabulate m (word_at m bytes) i 0 within ∙ word_of_bytes m bytes i (get_or xs i 0) (are.at i) (byte_at xs rest i within))

module _ (m : ℕ) (bytes : List ℕ) (are : AreBytes bytes) where
  pub word_below : (i : ℕ) → word_at m bytes i < 2 ^ 32
  unfolding word_at
  word_below i = joined_below _ _ _ _ (are.at _) (are.at _) (are.at _) (are.at _)

  pub byte_back : (i k : ℕ) → k < 4 → byte_of k (word_at m bytes i) ≡ byte_in m bytes i k
  unfolding word_at
  byte_back i zero l = byte_0 _ _ _ _ (are.at _) (are.at _) (are.at _) (are.at _)
  byte_back i (suc zero) l = byte_1 _ _ _ _ (are.at _) (are.at _) (are.at _) (are.at _)
  byte_back i (suc (suc zero)) l = byte_2 _ _ _ _ (are.at _) (are.at _) (are.at _) (are.at _)
  byte_back i (suc (suc (suc zero))) l = byte_3 _ _ _ _ (are.at _) (are.at _) (are.at _) (are.at _)
  byte_back i (suc (suc (suc (suc k)))) l = absurd (omega arith)

  pub words_length : length (words m bytes) ≡ m
  unfolding words
  words_length = length_tabulate m (word_at m bytes)

  pub word_in : (i : ℕ) → i < m → get_or (words m bytes) i 0 ≡ word_at m bytes i
  unfolding words
  word_in i l = get_d_tabulate m (word_at m bytes) i 0 l

  pub words_are : AreWords (words m bytes)
  words_are = record {
    at = λ i. elim (dec_le m i) [
      | yes past ↦ rw (get_or-eq_default (words m bytes) 0 {n = i} (rw words_length past)) (lit< tt)
      | no past ↦ rw (word_in i (omega arith)) (word_below i)
    ];
  }

  -- Writing undoes reading.
  module _ (room : 4 * m ≤ length bytes) where
    byte_of_words : (k i : ℕ) → k < 4 → i < m → get_or (planes (words m bytes)) (k * m + i) 0 ≡ get_or bytes (k * m + i) 0
    byte_of_words k i l within =
        let at = byte_at (words m bytes) [] i (rw words_length within) k l in
        rw (append-nil, words_length, word_in i within, byte_back i k l) at at

    pub planes_words : planes (words m bytes) ≡ take (4 * m) bytes
    planes_words =
        let long : length (planes (words m bytes)) ≡ 4 * m = rw (planes_length, words_length) refl in
        ext_get_or 0 _ _ (rw (long, length-take) (omega arith)) (λ i l.
        let below : i < 4 * m = omega (arith, long) in
        in_some_plane i below ∙ sym (get_or-take (4 * m) bytes i 0 below))
      where
        in_some_plane : (i : ℕ) → i < 4 * m → get_or (planes (words m bytes)) i 0 ≡ get_or bytes i 0
        in_some_plane i l = elim (dec_le m i) [
          | yes one ↦ elim (dec_le (2 * m) i) [
            | yes two ↦ elim (dec_le (3 * m) i) [
              | yes three ↦ let is : i ≡ 3 * m + (i - 3 * m) = omega arith in rw is (byte_of_words 3 (i - 3 * m) (lit< tt) (omega arith))
              | no three ↦ let is : i ≡ 2 * m + (i - 2 * m) = omega arith in rw is (byte_of_words 2 (i - 2 * m) (lit< tt) (omega arith))
            ]
            | no two ↦ let is : i ≡ 1 * m + (i - m) = omega arith in rw is (byte_of_words 1 (i - m) (lit< tt) (omega arith))
          ]
          | no one ↦ let is : i ≡ 0 * m + i = omega arith in rw is (byte_of_words 0 i (lit< tt) (omega arith))
        ]

-- ---- arrays one after the other

abbrev pub AllWords : List (List ℕ) → Type 0
AllWords [] = Unit {0}
AllWords (xs ∷ arrays) = AreWords xs × AllWords arrays

-- The numbers of all of them.
abbrev pub total : List ℕ → ℕ
total [] = 0
total (m ∷ sizes) = m + total sizes

pub laid_length : (arrays : List (List ℕ)) → length (laid arrays) ≡ 4 * total (map length arrays)
unfolding laid
laid_length [] = refl
laid_length (xs ∷ arrays) = rw (length-append, planes_length xs, laid_length arrays) (omega arith)

bytes_both : (a b : List ℕ) → AreBytes a → AreBytes b → AreBytes (a ++ b)
bytes_both a b a_are b_are = record {
  at = λ i. elim (dec_le (length a) i) [
    | yes past ↦ let is : i ≡ length a + (i - length a) = omega arith in rw (is, get_or-append-add a b (i - length a) 0) (b_are.at (i - length a))
    | no past ↦ rw (get_or-append a b 0 i (omega arith)) (a_are.at i)
  ];
}

plane_bytes : (k : ℕ) (xs : List ℕ) → AreBytes (map (byte_of k) xs)
plane_bytes k xs = record { at = λ i. subst (λ (d : ℕ). get_or (map (byte_of k) xs) i d < 256) (byte_zero k) (rw (get_or-map (byte_of k) xs i 0) (byte_below k (get_or xs i 0))) }

-- All that is laid out is bytes.
pub laid_bytes : (arrays : List (List ℕ)) → AreBytes (laid arrays)
unfolding laid planes
laid_bytes [] = record { at = λ i. lit< tt }
laid_bytes (xs ∷ arrays) =
    bytes_both _ _ (bytes_both _ _ (plane_bytes 0 xs) (bytes_both _ _ (plane_bytes 1 xs) (bytes_both _ _ (plane_bytes 2 xs) (plane_bytes 3 xs)))) (laid_bytes arrays)

pub arrays_laid : (arrays : List (List ℕ)) → AllWords arrays → arrays_in (map length arrays) (laid arrays) ≡ arrays
unfolding arrays_in laid
arrays_laid [] are = refl
arrays_laid (xs ∷ arrays) are =
    ap₂ ◌∷◌ (words_planes xs (laid arrays) are.0)
    (rw (← planes_length xs, drop-append_seam (planes xs) (laid arrays)) (arrays_laid arrays are.1))

pub bytes_behind : (n : ℕ) (bytes : List ℕ) → AreBytes bytes → AreBytes (drop n bytes)
bytes_behind n bytes are = record { at = λ i. rw (get_or-drop n bytes i 0) (are.at (n + i)) }

pub laid_arrays : (sizes : List ℕ) (bytes : List ℕ) → AreBytes bytes → length bytes ≡ 4 * total sizes → laid (arrays_in sizes bytes) ≡ bytes
unfolding arrays_in laid
laid_arrays [] [] are long = refl
laid_arrays [] (b ∷ bytes) are long = absurd (omega arith)
laid_arrays (m ∷ sizes) bytes are long =
    let room : 4 * m ≤ length bytes = omega arith in
    let left : length (drop (4 * m) bytes) ≡ 4 * total sizes = rw length-drop (omega arith) in
    ap₂ ◌++◌ (planes_words m bytes are room) (laid_arrays sizes (drop (4 * m) bytes) (bytes_behind (4 * m) bytes are) left)
    ∙ take-append-drop (4 * m) bytes

-- ---- signed numbers

pub pattern_below : (z : ℤ) → SFits w32 z → pattern z < 2 ^ 32
unfolding pattern
pattern_below (pos x) fits = omega (arith, fits.sfits)
pattern_below (negsuc x) fits = omega arith

pub signed_pattern : (z : ℤ) → SFits w32 z → signed (pattern z) ≡ z
unfolding pattern signed
signed_pattern (pos x) fits = rw (lt-ltb x (2 ^ 31) fits.sfits) refl
signed_pattern (negsuc x) fits =
    let above : 2 ^ 31 ≤ 2 ^ 32 - suc x = omega (arith, fits.sfits) in
    rw (le-ltb (2 ^ 32 - suc x) (2 ^ 31) above) (ap negsuc (omega (arith, fits.sfits)))

module _ (w : ℕ) (below : w < 2 ^ 32) where
  pub pattern_signed : pattern (signed w) ≡ w
  unfolding pattern signed
  pattern_signed = by_test (ltb w (2 ^ 31))
    where
      by_test : (t : Bool) → pattern (cond t (pos w) (negsuc (2 ^ 32 - suc w))) ≡ w
      by_test true = refl
      by_test false = omega arith

  pub signed_fits : SFits w32 (signed w)
  unfolding signed
  signed_fits = by_test (ltb w (2 ^ 31)) refl
    where
      by_test : (t : Bool) → t ≡ ltb w (2 ^ 31) → SFits w32 (cond t (pos w) (negsuc (2 ^ 32 - suc w)))
      by_test true is = record { sfits = ltb-true w (2 ^ 31) (sym is) }
      by_test false is = record { sfits = omega (arith, ltb-false w (2 ^ 31) (sym is)) }

-- Of m of them: reading undoes writing, and writing undoes reading.
patterns_words : (zs : List ℤ) → AreIntegers zs → AreWords (map pattern zs)
unfolding pattern
patterns_words zs are = record { at = λ i. rw (get_or-map pattern zs i (pos 0)) (pattern_below (get_or zs i (pos 0)) (are.at i)) }

back_and_forth : (zs : List ℤ) → AreIntegers zs → map signed (map pattern zs) ≡ zs
back_and_forth [] are = refl
back_and_forth (z ∷ zs) are = ap₂ ◌∷◌ (signed_pattern z (are.at 0)) (back_and_forth zs (record { at = λ i. are.at (suc i) }))

forth_and_back : (xs : List ℕ) → AreWords xs → map pattern (map signed xs) ≡ xs
forth_and_back [] are = refl
forth_and_back (x ∷ xs) are = ap₂ ◌∷◌ (pattern_signed x (are.at 0)) (forth_and_back xs (record { at = λ i. are.at (suc i) }))

pub integers_planes : (zs : List ℤ) (rest : List ℕ) → AreIntegers zs → map signed (words (length zs) (planes (map pattern zs) ++ rest)) ≡ zs
integers_planes zs rest are =
    rw (← length-map zs pattern, words_planes (map pattern zs) rest (patterns_words zs are)) (back_and_forth zs are)

pub planes_integers : (m : ℕ) (bytes : List ℕ) → AreBytes bytes → 4 * m ≤ length bytes → planes (map pattern (map signed (words m bytes))) ≡ take (4 * m) bytes
planes_integers m bytes are room =
    let below : AreWords (words m bytes) = words_are m bytes are in
    rw (forth_and_back (words m bytes) below) (planes_words m bytes are room)
