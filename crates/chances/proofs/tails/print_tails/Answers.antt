-- `tails::print_tails` meets its contract.
use Rattle.std.proofs.Common.{ℕ, suc}
use Rattle.kept.specs.declared.Kept.{Kept}
use Rattle.kept.specs.declared.Side.TheVariants.{Low}
use Rattle.steps.specs.Chances.{kept_chances, kept_tail}
use Rattle.steps.specs.Numbers.{of_tails}
use Rattle.working.specs.Working.{working_places, Entries}
use Rattle.chances.specs.Chances.Laws.{chances_ready}
use Rattle.chances.specs.Tails.{Tails}
use Rattle.chances.specs.Tails.Laws.{printable}
use Rattle.chances.proofs.tails.print_tails.Goals as goal

-- The tails, from the entries of the row.
tails_are : (c : goal.After-tails-low_tails)
    → (entry : ℕ → Kept) → Entries working_places (suc c.args.n) c.args.row entry
    → Tails c.args.n c.tails-low_tails.result (kept_tail Low c.args.n (kept_chances Low c.args.n entry))
tails_are c entry e = c.tails-low_tails.ensures.tails_are _ (c.chances-low.ensures.chances entry e)

pub tails-low_tails-requires : goal.tails-low_tails-requires
tails-low_tails-requires c = chances_ready c.requires.steps c.chances-low.ensures (λ _. of_tails)

pub printed_tails-requires : goal.printed_tails-requires
printed_tails-requires c = printable c.requires (tails_are c _ c.requires.steps.entries)

pub returns : goal.returns
returns c = record { tails_are = λ entry e. c.printed_tails.ensures.printed_are _ (tails_are c.before entry e) }
