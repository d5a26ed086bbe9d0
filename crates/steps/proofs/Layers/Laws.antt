-- What a refused layer call answers.
-- Assumes nothing.
use Prim.Native.Nat.{ℕ, zero, suc}
use Rattle.std.specs.Prelude.{◌≡◌}
use Rattle.std.proofs.Math.Path.{refl}
use Rattle.kept.specs.declared.Kept.{Kept}
use Rattle.kept.specs.declared.Side.{Side}
use Rattle.steps.specs.Loss.{untouched}
use Rattle.steps.specs.Layers.{layer_after}

module _ (n : ℕ) (c : Side → ℕ → Kept) (i j : ℕ) where
  pub layer_untouched : (refusal : ℕ) → (refusal ≡ 0 → ⊥) → untouched ≡ layer_after n c i j refusal
  unfolding layer_after
  layer_untouched zero some = absurd (some refl)
  layer_untouched (suc refusal) some = refl
