-- Each byte so far is a digit of the value.
use Rattle.text.specs.Line.Fields.Laws.{Reading}
use Rattle.text.proofs.line.read_field.Given as goal

abbrev pub invariant-loop-digits : goal.invariant-loop-digits
invariant-loop-digits l = Reading l.end l.text l.digits l.value
