-- `differences::print_shifts` meets its contract.
use Rattle.shift.specs.Differences.Laws.{tails_in_units, shifts_are}
use Rattle.shift.proofs.differences.print_shifts.Goals as goal

pub write_differences-requires-clause-units : goal.write_differences-requires-clause-units
write_differences-requires-clause-units c = tails_in_units c.requires.ready c.print_tails-printed.ensures

pub write_differences-requires-clause-base_units : goal.write_differences-requires-clause-base_units
write_differences-requires-clause-base_units c = tails_in_units c.requires.base_ready c.print_tails-base_printed.ensures

pub returns : goal.returns
returns c =
    let printed = c.print_tails-printed.ensures in
    let base = c.print_tails-base_printed.ensures in
    record { shifts_are = λ entry other e o. shifts_are _ _ _ _ _ (printed.tails_are entry e) (base.tails_are other o) c.write_differences.ensures }
