-- `differences::difference` meets its contract.
use Rattle.std.proofs.Common.{arith}
use Rattle.kept.specs.Rounding.Exponents.{difference_fits, difference_back}
use Rattle.steps.specs.Column.{units_of_certainty}
use Rattle.shift.proofs.differences.difference.Goals as goal

pub overflow_cast-result : goal.overflow_cast-result
unfolding units_of_certainty
overflow_cast-result c = record { sfits = omega arith }

pub overflow_cast-result-2 : goal.overflow_cast-result-2
unfolding units_of_certainty
overflow_cast-result-2 c = record { sfits = omega arith }

pub overflow_sub-result : goal.overflow_sub-result
unfolding units_of_certainty
overflow_sub-result c = difference_fits {a = c.args.a} {b = c.args.b} (omega arith) (omega arith)

pub returns : goal.returns
unfolding units_of_certainty
returns c = difference_back {a = c.args.a} {b = c.args.b} (omega arith) (omega arith)
