-- `write` meets its contract.
use Rattle.std.proofs.Common.{◌≡◌, refl, rules}
use Rattle.steps.specs.Inputs.{largest_pool}
use Rattle.grounds.specs.Grounds.Laws.{file_accepted}
use Rattle.grounds.specs.Refusals.{number_of, refusal_number}
use Rattle.grounds.proofs.Refusals.{refusal_some}
use Rattle.store_file.specs.Calls.{write_refusal}
use Rattle.store_file.specs.Calls.Laws.{writes_refused, writes_done, writes_all}
use Rattle.store_file.proofs.writing.write.Goals as goal

pub returns-in_err-write_refusal : goal.returns-in_err-write_refusal
returns-in_err-write_refusal c =
    let same : refusal_number c.from_residual.result ≡ number_of c.in_err-write_refusal.field-0.0 = search rules in
    rw same (writes_all (writes_refused _ _ _ (refusal_some _) c.in_err-write_refusal.ensures.refusal))

pub put_store-requires : goal.put_store-requires
unfolding write_refusal largest_pool
put_store-requires c = (file_accepted _ _ _ _ _ _ _ _ c.in_ok-write_refusal.ensures.refusal refl).form

pub returns : goal.returns
returns c =
    let checked = c.in_ok-write_refusal.ensures in
    writes_all (writes_done _ _ _ checked.refusal c.put_store.ensures (checked.fits refl))
