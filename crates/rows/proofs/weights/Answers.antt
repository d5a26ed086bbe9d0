-- `weights` meets its contract.
use Rattle.std.proofs.Common.{refl, rules}
use Rattle.model.specs.Fraction.{whole, complement}
use Rattle.steps.specs.CorrelatedBinomial.Rows.{constant, kept_power}
use Rattle.working.proofs.Slices.Laws.{stored_none}
use Rattle.rows.specs.Turns.Laws.{weight_operands, weighing_more}
use Rattle.rows.proofs.weights.Goals as goal

pub loop-j-init : goal.loop-j-init
unfolding constant complement whole kept_power
loop-j-init c = (
  (refl, refl),
  record {
    ready = c.requires;
    a_is = c.from_basis_points-a.ensures;
    q_is = c.from_basis_points-q.ensures;
    power_is = c.one-power.ensures;
    weights = stored_none;
  },
)

pub product-requires : goal.product-requires
product-requires c = let (operand, other) = (weight_operands c.loop-j.invariant.1 c.loop-j-test.true).0 in record { operand = operand; other = other }

pub product-power-requires : goal.product-power-requires
product-power-requires c = let (operand, other) = (weight_operands c.loop-j.invariant.1 c.loop-j-test.true).1 in record { operand = operand; other = other }

pub loop-j-preserved : goal.loop-j-preserved
loop-j-preserved c = (
  search rules,
  rw c.put.ensures.written (weighing_more c.loop-j.invariant.1 c.loop-j-test.true c.product.ensures c.product-power.ensures),
)
