-- `tranche_losses` meets its contract.
use Rattle.std.proofs.Common.{arith}
use Rattle.steps.specs.Tranches.{tranche_places}
use Rattle.expected_losses.specs.Loss.Laws.{each_ready}
use Rattle.expected_losses.proofs.tranche_losses.Goals as goal

pub each_loss-requires : goal.each_loss-requires
unfolding tranche_places
each_loss-requires c = each_ready c.requires (omega arith) c.chances.ensures c.chances-2.ensures

pub returns : goal.returns
returns c = record {
  losses_are = λ entry rows.
      c.each_loss.ensures.answers_are _
      (record { on_low = c.chances.ensures.chances _ rows.on_low; on_high = c.chances-2.ensures.chances _ rows.on_high });
}
