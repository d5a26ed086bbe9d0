-- `read` meets its contract.
use Rattle.std.proofs.Common.{◌≡◌, refl, sym, ◌∙◌, arith}
use Rattle.kept.specs.declared.Side.TheVariants.{Low, High}
use Rattle.kept.specs.Rounding.{nought}
use Rattle.steps.specs.Inputs.{largest_pool, working_assets}
use Rattle.working.specs.Working.{working_places}
use Rattle.grounds.specs.Grounds.Laws.{desk_accepted}
use Rattle.store.specs.Stores.{side_of}
use Rattle.store.specs.Lent.{contents}
use Rattle.desk.specs.Calls.{desk_refusal}
use Rattle.desk.specs.Calls.Laws.{row_refused, row_read, row_readable, reads_row}
use Rattle.grounds.proofs.Refusals.{err_some, ok_none}
use Rattle.desk.proofs.read.Goals as goal

pub returns-then-is_err : goal.returns-then-is_err
unfolding desk_refusal largest_pool working_places working_assets
returns-then-is_err c =
    let is_zero : c.zero-zero.result ≡ nought = c.zero-zero.ensures in
    let some = (err_some _ c.is_err.ensures.value c.if-is_err.true) in
    reads_row c.args.head c.args.request c.args.ceiling _ _ (rw c.lengths.ensures at c.desk_refusal-outcome.ensures)
    (rw is_zero (row_refused _ _ some)) (rw is_zero (row_refused _ _ some))

pub row-low-requires : goal.row-low-requires
unfolding side_of largest_pool
row-low-requires c =
    rw c.low.ensures
    (row_readable Low (contents c.args.store.now)
    (desk_accepted _ _ _ _ _ _ _ _ _ (rw c.lengths.ensures at c.desk_refusal-outcome.ensures) (ok_none _ c.is_err.ensures.value c.if-is_err.false))
    (omega arith) c.row_start-from.ensures)

pub row-high-requires : goal.row-high-requires
unfolding side_of largest_pool
row-high-requires c =
    rw c.high.ensures
    (row_readable High (contents c.args.store.now)
    (desk_accepted _ _ _ _ _ _ _ _ _ (rw c.lengths.ensures at c.desk_refusal-outcome.ensures) (ok_none _ c.is_err.ensures.value c.if-is_err.false))
    (omega arith) c.row_start-from.ensures)

pub returns : goal.returns
unfolding desk_refusal side_of largest_pool
returns c =
    let lent = contents c.args.store.now in
    let number = rw c.lengths.ensures at c.desk_refusal-outcome.ensures in
    let none = ok_none _ c.is_err.ensures.value c.if-is_err.false in
    let from = c.row_start-from.ensures in
    let room = row_readable Low lent (desk_accepted _ _ _ _ _ _ _ _ _ number none) refl from in
    reads_row c.args.head c.args.request c.args.ceiling lent _ number
    (rw none (row_read _ (omega arith) from (omega (arith, room.places)) (rw c.low.ensures at c.row-low.ensures)))
    (rw none (row_read _ (omega arith) from (omega (arith, room.places)) (rw c.high.ensures at c.row-high.ensures)))
