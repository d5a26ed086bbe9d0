-- `binary64::scaled_by` meets its contract.
use Rattle.std.proofs.Common.{eq-eqb, ne_eqb}
use Rattle.kept.specs.Binary64.{scaled_by}
use Rattle.kept.proofs.binary64.scaled_by.Goals as goal

pub returns-then-digit-eq1 : goal.returns-then-digit-eq1
unfolding scaled_by
returns-then-digit-eq1 c = rw (eq-eqb _ 1 c.if-digit-eq1.true)

pub returns-else-digit-eq1 : goal.returns-else-digit-eq1
unfolding scaled_by
returns-else-digit-eq1 c = rw (ne_eqb _ 1 c.if-digit-eq1.false)
