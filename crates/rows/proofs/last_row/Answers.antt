-- `last_row` meets its contract.
use Rattle.std.proofs.Common.{arith, length-set, replicate, pos}
use Rattle.steps.specs.Inputs.{working_assets}
use Rattle.working.specs.Working.{working_places}
use Rattle.working.specs.Slices.{side_store, HasPlaces}
use Rattle.rows.specs.Turns.Rows.{row_none, row_turnable, row_stored, row_next, row_readable, row_read}
use Rattle.rows.proofs.last_row.Goals as goal

pub loop-k-init : goal.loop-k-init
unfolding working_places working_assets
loop-k-init c =
    let first = rw c.one.ensures at c.put.ensures.written in
    let places : HasPlaces 1 (side_store (replicate 101 0) (replicate 101 (pos 0))) = record { significands = omega arith; exponents = omega arith } in (
      rw c.shared-weights.ensures (row_none c.requires c.first-step.ensures c.weights.ensures.weights first places),
      rw c.put.ensures.written (record { significands = rw length-set (omega arith); exponents = rw length-set (omega arith) }),
    )

pub turn-requires : goal.turn-requires
unfolding working_places working_assets
turn-requires c =
    row_turnable c.loop-k.invariant.0 c.loop-k-test.true (record { significands = omega arith; exponents = omega arith })

pub loop-k-preserved : goal.loop-k-preserved
unfolding working_places working_assets
loop-k-preserved c =
    let (row, room) = c.loop-k.invariant in
    let below = c.loop-k-test.true in
    let stored = row_stored row below c.turn.ensures.turned in (
      row_next row below c.turn.ensures.turned c.next-step.ensures (record { significands = omega arith; exponents = omega arith }),
      record { significands = omega arith; exponents = omega arith },
    )

pub row-requires : goal.row-requires
row-requires c = rw c.shared.ensures (row_readable c.loop-k.invariant.0 (omega arith))

pub returns : goal.returns
returns c = row_read c.loop-k.invariant.0 (omega arith) (rw c.shared.ensures at c.row.ensures.new)
