-- `tails::in_units` meets its contract.
use Rattle.std.proofs.Common.{◌+◌, ◌/◌, ◌≤◌, sym, ap, ◌∙◌, arith}
use Rattle.steps.specs.Column.{units_of_certainty}
use Rattle.steps.proofs.Column.Laws.{in_units_halves}
use Rattle.chances.specs.Tails.Laws.{halves_at_most}
use Rattle.chances.proofs.tails.in_units.Goals as goal

halves-few : (c : goal.After-times_whole-halves) → c.times_whole-halves.result ≤ 400000
unfolding units_of_certainty
halves-few c = rw c.times_whole-halves.ensures (halves_at_most c.args.x c.requires.to_two)

pub overflow_cast-halves : goal.overflow_cast-halves
overflow_cast-halves c = record { fits = omega (arith, halves-few c) }

pub overflow_add-result : goal.overflow_add-result
overflow_add-result c = record { fits = omega (arith, halves-few c) }

pub returns : goal.returns
unfolding units_of_certainty
returns c = ap (λ h. (h + 1) / 2) c.times_whole-halves.ensures ∙ sym (in_units_halves c.args.x)
