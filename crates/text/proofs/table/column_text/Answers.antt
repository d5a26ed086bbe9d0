-- `column_text` meets its contract.
use Rattle.std.proofs.Common.{rules, arith}
use Rattle.text.specs.Ascii.{ascii}
use Rattle.text.specs.Table.{header}
use Rattle.text.specs.Table.Laws.{line_length}
use Rattle.text.specs.Table.Lines.{lines_none, row_at_most, lines_more, lines_all}
use Rattle.text.proofs.table.column_text.Goals as goal

pub loop-k-init : goal.loop-k-init
unfolding header ascii
loop-k-init g c = lines_none c.requires.units_value (search rules)

pub push_line-requires : goal.push_line-requires
push_line-requires g c = (search rules, omega (arith, line_length, row_at_most c.loop-k.invariant (omega arith)))

pub overflow_sub-tail : goal.overflow_sub-tail
overflow_sub-tail g c = row_at_most c.loop-k.invariant (omega arith)

pub loop-k-preserved : goal.loop-k-preserved
loop-k-preserved g c = lines_more c.loop-k.invariant (omega arith) c.requires.n_bound_1 c.push_line.ensures

pub returns : goal.returns
returns g c = lines_all c.loop-k.invariant (omega arith)
