-- `put_part` meets its contract.
use Rattle.std.proofs.Common.{add-one, le_antisymm}
use Rattle.buffer.specs.Stores.{puts_both}
use Rattle.planes.specs.Sides.Laws.{first_planes, all_planes}
use Rattle.planes.proofs.writing.put_part.Goals as goal

pub loop-k-preserved : goal.loop-k-preserved
unfolding first_planes
loop-k-preserved c = rw add-one (puts_both c.loop-k.invariant c.put_plane-next.ensures)

pub returns : goal.returns
returns c = rw (← all_planes, ← le_antisymm c.loop-k.auto.k-end c.loop-k-test.false) c.loop-k.invariant
