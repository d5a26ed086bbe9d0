-- When two lists are not the same, and when two pools are.
-- Assumes nothing.
use Rattle.std.specs.Prelude.{ℕ, ◌<◌, ◌≡◌, List, length, get_or}
use Rattle.std.proofs.Common.{arith, sym, ap, ◌∙◌, get_or-take}
use Rattle.steps.specs.declared.Pool.{Pool}
use Rattle.disk_console.specs.Compare.{Same}

module _ {A : Type 0} {count : ℕ} {xs ys : List A} where
  pub short : length xs < count → Same count xs ys → ⊥
  short less same = omega (arith, same.room)

  pub other_short : length ys < count → Same count xs ys → ⊥
  other_short less same = omega (arith, same.other_room)

  pub different : (nought : A) {i : ℕ} → i < count → (get_or xs i nought ≡ get_or ys i nought → ⊥) → Same count xs ys → ⊥
  different nought {i} within other same =
      other (sym (get_or-take count xs i nought within) ∙ ap (λ l. get_or l i nought) same.numbers ∙ get_or-take count ys i nought within)

pub same_pool : (a b : Pool) → a.assets ≡ b.assets → a.probability ≡ b.probability → a.correlation ≡ b.correlation → a ≡ b
same_pool a b assets probability correlation =
    ap (λ n. record { assets = n; probability = a.probability; correlation = a.correlation }) assets
    ∙ ap (λ p. record { assets = b.assets; probability = p; correlation = a.correlation }) probability
    ∙ ap (λ ρ. record { assets = b.assets; probability = b.probability; correlation = ρ }) correlation
