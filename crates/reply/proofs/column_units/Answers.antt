-- `column_units` meets its contract.
use Rattle.std.proofs.Common.{lit≤, lit<}
use Rattle.model.specs.Number.{triangle}
use Rattle.steps.specs.Inputs.{report_pool}
use Rattle.store.specs.Stores.{store, lengths}
use Rattle.reply.specs.Reply.Laws.{column_printed}
use Rattle.reply.proofs.column_units.Goals as goal

pub returns : goal.returns
unfolding triangle report_pool store lengths
returns c = column_printed c.column.ensures.prints c.requires (lit≤ tt, (lit≤ tt, (lit≤ tt, (lit≤ tt, tt)))) (lit< tt)
