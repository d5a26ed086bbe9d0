-- `one_more` meets its contract.
use Rattle.std.proofs.Common.{ℕ, zero, suc, ◌≡◌, ◌+◌, ◌/◌, ◌^◌, ◌<◌, arith}
use Rattle.kept.specs.declared.Side.{Side}
use Rattle.kept.specs.declared.Side.TheVariants.{Low, High}
use Rattle.kept.specs.Rounding.{increment}
use Rattle.kept.proofs.rounding.one_more.Goals as goal
use Rattle.kept.proofs.rounding.one_more.Goals.{in-Low, in-High}

abbrev addition : Side → ℕ
addition Low = 0
addition High = 0x7ffffffff

carried_over : (side : Side) (r : ℕ) → r < 2 ^ 35 → (r + addition side) / 2 ^ 35 ≡ increment side r
unfolding increment
carried_over Low r few = omega arith
carried_over High zero few = omega arith
carried_over High (suc r) few = omega arith

pub returns : goal.returns
returns c = elim c.match-side.branch [
  | in-Low w ↦ rw (w.added-is, w.in-Low.is) (carried_over Low c.args.dropped c.requires)
  | in-High w ↦ rw (w.added-is, w.in-High.is) (carried_over High c.args.dropped c.requires)
]
