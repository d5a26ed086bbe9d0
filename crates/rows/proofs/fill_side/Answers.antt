-- `fill_side` meets its contract.
use Rattle.std.proofs.Common.{arith, refl, rules}
use Rattle.rows.specs.Turns.Rows.{row_none, row_turnable, row_stored, row_next, row_readable, row_read}
use Rattle.rows.specs.Filling.Laws.{fillable_first, filling_none, filling_room, filling_more, filling_all}
use Rattle.rows.proofs.fill_side.Goals as goal

pub put-requires : goal.put-requires
put-requires c = fillable_first c.requires

pub loop-k-init : goal.loop-k-init
loop-k-init c =
    let first = rw c.one.ensures at c.put.ensures.written in (
      c.put.ensures.same,
      rw c.shared-weights.ensures (row_none c.requires.range c.first-step.ensures c.weights.ensures.weights first (fillable_first c.requires)),
      filling_none c.requires first,
    )

pub turn-requires : goal.turn-requires
turn-requires c =
    row_turnable c.loop-k.invariant.1 c.loop-k-test.true (filling_room c.loop-k.invariant.2 c.loop-k-test.true)

pub loop-k-preserved : goal.loop-k-preserved
loop-k-preserved c =
    let (same, row, filling) = c.loop-k.invariant in
    let below = c.loop-k-test.true in (
      search rules,
      row_next row below c.turn.ensures.turned c.next-step.ensures (filling_room filling below),
      filling_more filling refl (row_stored row below c.turn.ensures.turned),
    )

pub row-requires : goal.row-requires
row-requires c = rw c.shared.ensures (row_readable c.loop-k.invariant.1 (omega arith))

pub returns-clause-filled : goal.returns-clause-filled
returns-clause-filled c =
    let (same, row, filling) = c.loop-k.invariant in
    let first = rw c.one.ensures at c.put.ensures.written in
    filling_all filling c.requires first (omega arith) (row_read row (omega arith) (rw c.shared.ensures at c.row.ensures.new))
