-- `check_rows` meets its contract.
use Rattle.claims.specs.Check.Laws.{rows_ready, rows_checked}
use Rattle.claims.proofs.check_rows.Goals as goal

pub first_to_fail-requires : goal.first_to_fail-requires
first_to_fail-requires c = rows_ready c.chances.ensures c.chances-2.ensures c.requires

pub returns : goal.returns
returns c = rows_checked c.chances.ensures c.chances-2.ensures c.first_to_fail.ensures
