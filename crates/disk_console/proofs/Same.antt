-- What `==` of the starts of two lists decides.
use Rattle.std.proofs.Common.{ℕ, ◌≡◌, ◌≤◌, Bool, List, length, take}
use Rattle.std.specs.Bool.{Decides}
use Rattle.std.specs.Cmp.Lexicographic.{pointwise}
use Rattle.std.proofs.lemmas.Slice.Eq.{slice_eq-Decides}
use Rattle.disk_console.specs.Compare.{Same}

pub same_decides : {A : Type 0} {E : A → A → Bool} → ((x y : A) → Decides (E x y) (x ≡ y)) → (count : ℕ) (xs ys : List A) (r : Bool)
    → count ≤ length xs → count ≤ length ys → r ≡ pointwise E (take count xs) (take count ys) → Decides r (Same count xs ys)
same_decides {A} {E} decides count xs ys r room other_room is =
    let equal = slice_eq-Decides decides (take count xs) (take count ys) r is in
    (λ yes. record { room = room; other_room = other_room; numbers = equal.0 yes }, λ same. equal.1 same.numbers)
