-- `FileSide::read` meets its contract.
use Rattle.std.proofs.Common.{refl, zero-add, le_antisymm, rules, arith}
use Rattle.working.proofs.Slices.Laws.{stored_none, stored_more}
use Rattle.planes.specs.Sides.Laws.{side_after_lem}
use Rattle.planes.proofs.reading.FileSide.read.Goals as goal

pub loop-i-init : goal.loop-i-init
loop-i-init c = record { same = (refl, refl); stored = stored_none }

pub loop-i-preserved : goal.loop-i-preserved
loop-i-preserved c =
    let room = c.requires in
    let stored = stored_more c.loop-i.invariant.stored (record { significands = omega arith; exponents = omega arith }) c.at.ensures in
    record { same = search rules; stored = rw c.put.ensures.written (rw (zero-add c.loop-i.i) at stored) }

pub returns-clause-read : goal.returns-clause-read
returns-clause-read c = side_after_lem (rw (le_antisymm c.loop-i.auto.i-end c.loop-i-test.false) at c.loop-i.invariant.stored)
