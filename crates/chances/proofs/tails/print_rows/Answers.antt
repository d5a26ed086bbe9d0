-- `tails::print_rows` meets its contract.
use Rattle.std.proofs.Common.{◌≤◌, ◌+◌, length, refl, arith, length-take-le}
use Rattle.working.specs.Working.Laws.{entries_none, entries_more}
use Rattle.chances.specs.Tails.Laws.{rows_written}
use Rattle.chances.proofs.tails.print_rows.Goals as goal

pub loop-k-init : goal.loop-k-init
loop-k-init c = let room : c.args.n + 1 ≤ length c.args.units.now = omega arith in entries_none (length-take-le _ _ room)

pub loop-k-preserved : goal.loop-k-preserved
loop-k-preserved c = entries_more c.loop-k.invariant (omega arith) refl

pub returns : goal.returns
returns c = rows_written c.args.n _ c.loop-k.invariant (omega arith)
