-- `write_refusal` meets its contract.
use Rattle.std.proofs.Common.{◌≡◌, sym, ◌∙◌, ◌||◌, false, rules}
use Rattle.std.proofs.lemmas.Bool.Decides.{nat_tests}
use Rattle.grounds.specs.Grounds.Laws.{neither, file_form_refused, file_by_entries}
use Rattle.grounds.specs.Refusals.{number_of, refusal_number}
use Rattle.grounds.proofs.Refusals.{refusal_some}
use Rattle.planes.specs.Sides.{AllFit}
use Rattle.store.specs.Lent.{contents}
use Rattle.store_file.specs.Calls.{write_refusal}
use Rattle.store_file.specs.Calls.Laws.{on_each}
use Rattle.store_file.proofs.writing.write_refusal.Goals as goal

pub returns-in_err-count-clause-refusal : goal.returns-in_err-count-clause-refusal
unfolding write_refusal
returns-in_err-count-clause-refusal c =
    let same : refusal_number c.from_residual.result ≡ number_of c.in_err-count.field-0.0 = search rules in
    same ∙ file_form_refused _ _ _ _ _ _ _ _ (rw c.lengths.ensures at c.in_err-count.ensures.refusal) (refusal_some _)

pub returns-clause-refusal : goal.returns-clause-refusal
unfolding write_refusal
returns-clause-refusal c =
    let counted = c.in_ok-count.ensures in
    let low = rw (counted.places, c.low.ensures) at c.side_unkept-low.ensures.value in
    let high = rw (counted.places, c.high.ensures) at c.side_unkept-high.ensures.value in
    c.ground.ensures ∙ rw (low, high) (file_by_entries _ _ _ _ _ _ _ _ (sym (rw c.lengths.ensures at counted.refusal)))

pub returns-clause-fits : goal.returns-clause-fits
returns-clause-fits c = λ none.
    let off : (c.side_unkept-low.result || c.side_unkept-high.result) ≡ false = search (rules, nat_tests) in
    let apart = neither c.side_unkept-low.result c.side_unkept-high.result off in
    let counted = c.in_ok-count.ensures in
    on_each (AllFit _) (contents c.args.store.now)
    (rw (counted.places, c.low.ensures) at (c.side_unkept-low.ensures.all_fit apart.0))
    (rw (counted.places, c.high.ensures) at (c.side_unkept-high.ensures.all_fit apart.1))
