-- `Recurrence::next` meets its contract.
use Rattle.rows.specs.Turns.Laws.{conditional_operands, sum_operands, joint_operands, continued}
use Rattle.rows.proofs.Recurrence.next.Goals as goal

pub product-requires : goal.product-requires
product-requires c = let (operand, other) = conditional_operands c.requires in record { operand = operand; other = other }

pub sum-conditional-requires : goal.sum-conditional-requires
sum-conditional-requires c = let (operand, other) = sum_operands c.requires c.product.ensures in record { operand = operand; other = other }

pub product-joint-requires : goal.product-joint-requires
product-joint-requires c = let (operand, other) = joint_operands c.requires c.product.ensures c.sum-conditional.ensures in record { operand = operand; other = other }

pub returns : goal.returns
returns c = continued c.product.ensures c.sum-conditional.ensures c.product-joint.ensures
