-- After k turns the text has the header and the first k lines.
use Rattle.text.specs.Table.Lines.{Lines}
use Rattle.text.proofs.table.column_text.Given as goal

abbrev pub invariant-loop-k : goal.invariant-loop-k
invariant-loop-k g l = Lines l.n l.units l.text.items l.tail l.k
