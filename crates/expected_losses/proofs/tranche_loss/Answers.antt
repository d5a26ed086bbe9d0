-- `tranche_loss` meets its contract.
use Rattle.std.proofs.Common.{sym, ◌∙◌}
use Rattle.model.proofs.Chances.Laws.{tranche_wide}
use Rattle.steps.proofs.Tranches.Laws.{tranche_loss_is}
use Rattle.expected_losses.proofs.tranche_loss.Goals as goal

pub loss_answer-requires : goal.loss_answer-requires
loss_answer-requires c =
    let ready = c.requires in
    let wide = tranche_wide ready.not_empty ready.tranche.lower in
    rw (c.expected_loss.ensures.loss _ ready.low_ready.entries wide, c.expected_loss-2.ensures.loss _ ready.high_ready.entries wide)
    (ready.answerable wide)

pub returns : goal.returns
returns c =
    let wide = tranche_wide c.requires.not_empty c.requires.tranche.lower in
    record {
      answer_is = λ kept on.
          c.loss_answer.ensures
          ∙ rw (c.expected_loss.ensures.loss _ on.on_low wide, c.expected_loss-2.ensures.loss _ on.on_high wide)
          (sym (tranche_loss_is c.args.n kept c.args.tranche wide));
    }
