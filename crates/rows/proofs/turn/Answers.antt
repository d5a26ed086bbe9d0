-- `turn` meets its contract.
use Rattle.std.proofs.Common.{arith, add-one, rules, refl}
use Rattle.kept.specs.Rounding.{nought}
use Rattle.rows.specs.Turns.Laws.{turn_passable, weighted_operands, turned_none, turned_more, turned_all}
use Rattle.rows.proofs.turn.Goals as goal

pub passes-w-requires : goal.passes-w-requires
passes-w-requires c = rw c.shared.ensures (turn_passable c.requires)

pub loop-j-init : goal.loop-j-init
loop-j-init c = ((refl, refl), turned_none)

pub product-requires : goal.product-requires
unfolding nought
product-requires c = let (operand, other) = weighted_operands (rw c.shared.ensures at c.passes-w.ensures) (omega arith) c.at-g.ensures c.requires in record { operand = operand; other = other }

pub loop-j-preserved : goal.loop-j-preserved
unfolding nought
loop-j-preserved c = (
  search rules,
  rw c.put.ensures.written
      (turned_more (rw c.shared.ensures at c.passes-w.ensures) (omega arith) c.at-g.ensures c.requires c.product.ensures c.loop-j.invariant.1),
)

pub returns-clause-turned : goal.returns-clause-turned
returns-clause-turned c = rw (c.put-2.ensures.written, add-one) (turned_all c.requires c.loop-j.invariant.1 (omega arith))
