-- `put_side` meets its contract.
use Rattle.std.proofs.Common.{append-nil}
use Rattle.buffer.specs.Stores.{puts_both}
use Rattle.planes.specs.Planes.{laid}
use Rattle.planes.specs.Sides.{side_arrays}
use Rattle.planes.proofs.writing.put_side.Goals as goal

pub returns : goal.returns
unfolding laid side_arrays
returns c = rw append-nil (puts_both c.put_part-next.ensures c.put_part.ensures)
