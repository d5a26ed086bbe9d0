-- `read_field` meets its contract.
use Rattle.std.proofs.Common.{arith}
use Rattle.text.specs.Line.Fields.Laws.{reading_end, reading_more, field_goes_on}
use Rattle.text.proofs.line.read_field.Goals as goal

pub returns-in_default : goal.returns-in_default
returns-in_default c = reading_end c.loop-digits.invariant (omega arith) (omega arith) (omega arith)

pub returns-in_default-2 : goal.returns-in_default-2
returns-in_default-2 c = λ number rest begins. grind (arith, field_goes_on c.loop-digits.invariant begins)

pub loop-digits-preserved : goal.loop-digits-preserved
loop-digits-preserved c = reading_more c.loop-digits.invariant (omega arith) (omega arith) (omega arith) (omega arith) (omega arith) c.from.ensures

pub returns : goal.returns
returns c = λ number rest begins. omega (arith, field_goes_on c.loop-digits.invariant begins)
