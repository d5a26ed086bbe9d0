-- `BetaPool::entry` meets its contract.
use Rattle.std.proofs.Common.{arith}
use Rattle.steps.specs.BetaBinomial.{is_quotient, is_product}
use Rattle.steps.proofs.BetaBinomial.Theorems.{beta_exponents}
use Rattle.steps.proofs.Exponents.Laws.{ranged_operand}
use Rattle.beta_binomial_rows.proofs.BetaPool.entry.Goals as goal

pub product-product-requires-clause-operand : goal.product-product-requires-clause-operand
product-product-requires-clause-operand c =
    rw c.loop-t.invariant
    (ranged_operand
    (beta_exponents c.args.self.range c.args.self.below c.args.side (is_product c.args.j c.loop-t.t c.requires (omega arith))))

pub product-product-requires-clause-other : goal.product-product-requires-clause-other
product-product-requires-clause-other c =
    rw c.quotient-factor.ensures
    (ranged_operand
    (beta_exponents c.args.self.range c.args.self.below c.args.side (is_quotient c.args.j c.loop-t.t c.requires (omega arith))))
