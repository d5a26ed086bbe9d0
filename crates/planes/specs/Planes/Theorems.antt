-- Either way undoes the other, for every m: on m numbers of 32 bits and on 4 × m bytes, and the same with signed numbers.
-- Assumes nothing.
use Rattle.std.specs.Prelude.{ℕ, ◌*◌, ◌<◌, ◌≡◌, List, [], map, ℤ, pos, length, get_or, take}
use Rattle.std.proofs.Common.{subst, ◌∙◌, append-nil, arith, take_all, SFits}
use Rattle.std.specs.Int.{w32}
use Rattle.planes.specs.Planes.{planes, words, pattern, signed}
use Rattle.planes.specs.Planes.Laws.{words_planes, planes_words, integers_planes, planes_integers}

module _ (m : ℕ) where
  pub numbers_back : (xs : List ℕ) → length xs ≡ m → ((i : ℕ) → get_or xs i 0 < 4294967296) → words m (planes xs) ≡ xs
  numbers_back xs long are = subst (λ (k : ℕ). words k (planes xs) ≡ xs) long (rw append-nil at (words_planes xs [] (record { at = are })))

  pub integers_back : (zs : List ℤ) → length zs ≡ m → ((i : ℕ) → SFits w32 (get_or zs i (pos 0))) → map signed (words m (planes (map pattern zs))) ≡ zs
  integers_back zs long are =
      subst (λ (k : ℕ). map signed (words k (planes (map pattern zs))) ≡ zs) long (rw append-nil at (integers_planes zs [] (record { at = are })))

  module _ (bytes : List ℕ) (long : length bytes ≡ 4 * m) (are : (i : ℕ) → get_or bytes i 0 < 256) where
    all_bytes : take (4 * m) bytes ≡ bytes
    all_bytes = take_all (4 * m) bytes (omega (arith, long))

    pub bytes_back : planes (words m bytes) ≡ bytes
    bytes_back = planes_words m bytes (record { at = are }) (omega (arith, long)) ∙ all_bytes

    pub signed_bytes_back : planes (map pattern (map signed (words m bytes))) ≡ bytes
    signed_bytes_back = planes_integers m bytes (record { at = are }) (omega (arith, long)) ∙ all_bytes
