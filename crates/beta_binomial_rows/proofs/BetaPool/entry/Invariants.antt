-- At the loop's head the quotients before t are multiplied on.
use Rattle.std.proofs.Common.{◌≡◌}
use Rattle.steps.specs.BetaBinomial.{kept_product, kept_quotient}
use Rattle.beta_binomial_rows.proofs.BetaPool.entry.Given as goal

abbrev pub invariant-loop-t : goal.invariant-loop-t
invariant-loop-t l = l.product ≡ kept_product l.side (kept_quotient l.side l.self.pool.probability l.self.pool.correlation l.j) l.t
