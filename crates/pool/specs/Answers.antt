-- The loss in the answer of a layer call.
-- Assumes nothing.
use Rattle.std.specs.Prelude.{Result, Ok, Err}
use Rattle.grounds.specs.declared.refusal.Refusal.{Refusal}
use Rattle.expected_losses.specs.declared.Loss.{Loss}
use Rattle.expected_losses.specs.declared.Loss.TheVariants.{Untouched}

-- A refusal carries no loss: the answer stands for an untouched one.
abbrev pub loss_in : Result Loss Refusal → Loss
loss_in (Ok loss) = loss
loss_in (Err refusal) = Untouched
