-- `row_passes` meets its contract.
use Rattle.std.proofs.Common.{ℕ, ◌≡◌, ◌+◌, ◌*◌, ◌&&◌, leb}
use Rattle.std.proofs.lemmas.Bool.{le-leb, lt-leb}
use Rattle.model.specs.Fraction.{integer, times}
use Rattle.model.specs.Fraction.Laws.{at_most_trans}
use Rattle.kept.specs.declared.Kept.{Kept}
use Rattle.kept.specs.declared.Side.TheVariants.{Low, High}
use Rattle.kept.specs.Rounding.{value}
use Rattle.kept.specs.Whole.{whole_of}
use Rattle.steps.specs.Column.{units_of_certainty}
use Rattle.steps.specs.Claims.{passes}
use Rattle.steps.proofs.Claims.Laws.{passes_halves}
use Rattle.claims.proofs.row_passes.Goals as goal

-- The two tests together are that of the row.
tests : (low high : Kept) (claim : ℕ) {least most : ℕ} → least ≡ whole_of High (times (integer (2 * units_of_certainty)) (value low))
    → most ≡ whole_of Low (times (integer (2 * units_of_certainty)) (value high)) → (leb least (2 * claim + 1) && leb (2 * claim) (most + 1)) ≡ passes low high claim
tests low high claim least most = rw (least, most) (passes_halves low high claim)

pub times_whole-least-requires-clause-to_two : goal.times_whole-least-requires-clause-to_two
times_whole-least-requires-clause-to_two c = at_most_trans c.requires.order c.requires.most

pub returns-then-least-claimed : goal.returns-then-least-claimed
unfolding units_of_certainty
returns-then-least-claimed c =
    let passed = le-leb c.times_whole-least.result (2 * c.args.claim + 1) c.if-least-claimed.true in
    rw passed at (tests c.args.low c.args.high c.args.claim c.times_whole-least.ensures c.times_whole-most.ensures)

pub returns-else-least-claimed : goal.returns-else-least-claimed
unfolding units_of_certainty
returns-else-least-claimed c =
    let failed = lt-leb c.times_whole-least.result (2 * c.args.claim + 1) c.if-least-claimed.false in
    rw failed (rw failed at (tests c.args.low c.args.high c.args.claim c.times_whole-least.ensures c.times_whole-most.ensures))
