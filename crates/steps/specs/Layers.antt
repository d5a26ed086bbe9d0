-- The loss of a layer, and what a layer call answers.
-- Assumes nothing.
use Rattle.std.specs.Prelude.{ℕ, zero, suc}
use Rattle.kept.specs.declared.Kept.{Kept}
use Rattle.kept.specs.declared.Side.{Side}
use Rattle.kept.specs.declared.Side.TheVariants.{Low, High}
use Rattle.steps.specs.Chances.{kept_layer}
use Rattle.steps.specs.Loss.{LossAnswer, untouched, loss_answer}

module _ (n : ℕ) (c : Side → ℕ → Kept) (i j : ℕ) where
  -- The loss of the layer from the i-th to the j-th default for n assets, from the kept chances of both sides: what its two bounds give.
  abbrev pub loss_of_layer : LossAnswer
  loss_of_layer = loss_answer (kept_layer Low n (c Low) i j) (kept_layer High n (c High) i j)

  -- What a call answers, by the number of its refusal: a refused one answers untouched.
  unfoldable pub layer_after : (refusal : ℕ) → LossAnswer
  layer_after zero = loss_of_layer
  layer_after (suc refusal) = untouched
