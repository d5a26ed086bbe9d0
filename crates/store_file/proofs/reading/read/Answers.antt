-- `read` meets its contract.
use Rattle.grounds.proofs.Refusals.{refusal_some}
use Rattle.store_file.specs.Calls.Laws.{reads_refused, reads_done, reads_all}
use Rattle.store_file.proofs.reading.read.Goals as goal

pub returns-in-Ok-clause-reads : goal.returns-in-Ok-clause-reads
returns-in-Ok-clause-reads c =
    let read = c.in-Ok.ensures in
    reads_all (reads_done _ _ _ (record { at = λ i. (c.type_inv.file i).fits }) read.refusal read.filled read.head)

pub returns-in-Err-clause-reads : goal.returns-in-Err-clause-reads
returns-in-Err-clause-reads c =
    let read = c.in-Err.ensures in
    rw read.untouched (reads_all (reads_refused _ _ _ (record { at = λ i. (c.type_inv.file i).fits }) (refusal_some _) read.refusal))
