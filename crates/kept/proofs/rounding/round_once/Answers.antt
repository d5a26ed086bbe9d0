-- `round_once` meets its contract.
use Rattle.std.proofs.Common.{eq-eqb, to_z-of_z}
use Rattle.kept.specs.Rounding.{nought}
use Rattle.kept.specs.Rounding.Words.{RoundedDigits, rounded_once}
use Rattle.kept.proofs.rounding.round_once.Goals as goal

pub returns-then-x-eq0 : goal.returns-then-x-eq0
unfolding nought
returns-then-x-eq0 c = λ z between.
    let digits : RoundedDigits c.args.side c.args.v c.args.rest c.args.exponent c.round_digits-x.result =
    rw (to_z-of_z c.ranges.exponent) at c.round_digits-x.ensures in
    rw c.if-x-eq0.true (rw (eq-eqb _ 0 c.if-x-eq0.true) at (rounded_once c.requires.leading digits z between))
