-- `tails::print_column` meets its contract.
use Rattle.std.proofs.Common.{rules}
use Rattle.chances.specs.Tails.Laws.{falling, rows_are}
use Rattle.chances.proofs.tails.print_column.Goals as goal

pub print_rows-requires : goal.print_rows-requires
print_rows-requires c =
    let ready = c.requires.ready in
    record { falling = falling ready (c.print_tails-printed.ensures.tails_are _ ready.steps.entries); places = search rules }

pub returns : goal.returns
returns c = record { units_are = λ entry e. rows_are _ _ _ (c.print_tails-printed.ensures.tails_are entry e) c.print_rows.ensures }
