-- `read_store` meets its contract.
use Rattle.std.proofs.Common.{◌≡◌, sym, ◌∙◌, rules}
use Rattle.grounds.specs.Grounds.{file_grounds, file_form_grounds}
use Rattle.grounds.specs.Grounds.Laws.{file_form_refused, file_by_entries}
use Rattle.grounds.specs.Refusals.{number_of, refusal_number}
use Rattle.grounds.proofs.Refusals.{refusal_some, refused_append}
use Rattle.std.proofs.lemmas.List.{take_rest}
use Rattle.store.specs.Stores.{store}
use Rattle.store_file.specs.Files.{store_with, entries_in, entry_in}
use Rattle.store_file.specs.Calls.Laws.{both_read}
use Rattle.store_file.specs.Calls.{read_refusal}
use Rattle.store_file.proofs.reading.read_store.Goals as goal

pub returns-in_err-head-clause-refusal : goal.returns-in_err-head-clause-refusal
unfolding read_refusal file_grounds file_form_grounds
returns-in_err-head-clause-refusal c =
    let same : refusal_number c.from_residual.result ≡ number_of c.in_err-head.field-0.0 = search rules in
    same ∙ refused_append _ _ _ c.in_err-head.ensures.refusal

pub returns-in_err-count-clause-refusal : goal.returns-in_err-count-clause-refusal
unfolding read_refusal
returns-in_err-count-clause-refusal c =
    let same : refusal_number c.from_residual-in_err-count.result ≡ number_of c.in_err-count.field-0.0 = search rules in
    same ∙ file_form_refused _ _ _ _ _ _ _ _ (rw (c.in_ok-head.ensures.head, c.lengths.ensures) at c.in_err-count.ensures.refusal) (refusal_some _)

pub returns-in_err-ground-clause-refusal : goal.returns-in_err-ground-clause-refusal
unfolding read_refusal entries_in entry_in
returns-in_err-ground-clause-refusal c =
    let same : refusal_number c.from_residual-in_err-ground.result ≡ number_of c.in_err-ground.field-0.0 = search rules in
    let head = c.in_ok-head.ensures.head in
    let form = rw (head, c.lengths.ensures) at c.in_ok-count.ensures.refusal in
    let low = rw (take_rest, c.in_ok-count.ensures.places, head) at c.some_unkept.ensures in
    let high = rw (take_rest, c.in_ok-count.ensures.places, head) at c.some_unkept-2.ensures in
    same ∙ c.in_err-ground.ensures ∙ rw (low, high) (file_by_entries _ _ _ _ _ _ _ _ (sym form))

pub returns-clause-refusal : goal.returns-clause-refusal
unfolding read_refusal entries_in entry_in
returns-clause-refusal c =
    let head = c.in_ok-head.ensures.head in
    let form = rw (head, c.lengths.ensures) at c.in_ok-count.ensures.refusal in
    let low = rw (take_rest, c.in_ok-count.ensures.places, head) at c.some_unkept.ensures in
    let high = rw (take_rest, c.in_ok-count.ensures.places, head) at c.some_unkept-2.ensures in
    c.in_ok-ground.ensures ∙ rw (low, high) (file_by_entries _ _ _ _ _ _ _ _ (sym form))

pub returns-clause-filled : goal.returns-clause-filled
unfolding store store_with entries_in entry_in
returns-clause-filled c =
    let head = c.in_ok-head.ensures.head in
    let low = rw (take_rest, c.in_ok-count.ensures.places, head) at c.read.ensures.read in
    let high = rw (take_rest, c.in_ok-count.ensures.places, head) at c.read-2.ensures.read in
    both_read c.args.file.now _ low high (search rules) (search rules)
