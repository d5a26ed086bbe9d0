-- Numbers, bytes and two's complement in figures.
-- Assumes nothing.
use Rattle.std.specs.Prelude.{◌≡◌, refl, [], ◌∷◌, pos, negsuc}
use Rattle.working.specs.Slices.{tabulate}
use Rattle.planes.specs.Planes.{byte_of, planes, word_at, words, laid, arrays_in, pattern, signed}

-- Two numbers of the bytes 1, 2, 3, 4 and 5, 6, 7, 8, from the lowest; one number; two arrays.
pub figures :
    (planes (67305985 ∷ 134678021 ∷ []) ≡ 1 ∷ 5 ∷ 2 ∷ 6 ∷ 3 ∷ 7 ∷ 4 ∷ 8 ∷ [])
    × (words 2 (1 ∷ 5 ∷ 2 ∷ 6 ∷ 3 ∷ 7 ∷ 4 ∷ 8 ∷ []) ≡ 67305985 ∷ 134678021 ∷ [])
    × (planes (67305985 ∷ []) ≡ 1 ∷ 2 ∷ 3 ∷ 4 ∷ [])
    × (laid ((67305985 ∷ []) ∷ (258 ∷ 4294967295 ∷ []) ∷ []) ≡ 1 ∷ 2 ∷ 3 ∷ 4 ∷ 2 ∷ 255 ∷ 1 ∷ 255 ∷ 0 ∷ 255 ∷ 0 ∷ 255 ∷ [])
    × (arrays_in (1 ∷ 2 ∷ []) (1 ∷ 2 ∷ 3 ∷ 4 ∷ 2 ∷ 255 ∷ 1 ∷ 255 ∷ 0 ∷ 255 ∷ 0 ∷ 255 ∷ []) ≡ (67305985 ∷ []) ∷ (258 ∷ 4294967295 ∷ []) ∷ [])
unfolding byte_of planes word_at words tabulate laid arrays_in
figures = (refl, refl, refl, refl, refl)

pub signs :
    (pattern (pos 0) ≡ 0)
    × (pattern (pos 2147483647) ≡ 2147483647)
    × (pattern (negsuc 0) ≡ 4294967295)
    × (pattern (negsuc 80000) ≡ 4294887295)
    × (pattern (negsuc 2147483647) ≡ 2147483648)
    × (signed 2147483647 ≡ pos 2147483647)
    × (signed 2147483648 ≡ negsuc 2147483647)
    × (signed 4294967295 ≡ negsuc 0)
unfolding pattern signed
signs = (refl, refl, refl, refl, refl, refl, refl, refl)
