-- `loss_answer` meets its contract.
use Rattle.std.proofs.Common.{sym, ◌∙◌}
use Rattle.model.specs.Fraction.Laws.{at_most_trans}
use Rattle.kept.specs.Binary64.Laws.{below_shown_no}
use Rattle.steps.proofs.Loss.Laws.{shown_to_two, raised_shown}
use Rattle.expected_losses.proofs.loss_answer.Goals as goal

pub to_f64-requires : goal.to_f64-requires
to_f64-requires c = rw c.raised.ensures (raised_shown c.requires.high_kept c.requires.most)

pub to_f64-requires-2 : goal.to_f64-requires-2
to_f64-requires-2 c =
    let least = below_shown_no c.args.low (sym c.is_below_shown.ensures ∙ c.if-is_below_shown.false) in
    shown_to_two c.requires.low_kept least (at_most_trans c.requires.order c.requires.most)

pub to_f64-requires-3 : goal.to_f64-requires-3
to_f64-requires-3 c =
    let least = below_shown_no c.args.low (sym c.is_below_shown.ensures ∙ c.if-is_below_shown.false) in
    shown_to_two c.requires.high_kept (at_most_trans least c.requires.order) c.requires.most
