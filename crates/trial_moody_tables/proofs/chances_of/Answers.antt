-- `chances_of` is safe: 36 assets are fewer than a working row has places for.
use Rattle.std.proofs.Common.{rules, arith}
use Rattle.model.specs.Fraction.{whole}
use Rattle.model.specs.CorrelatedBinomial.{defaults}
use Rattle.steps.specs.Inputs.{largest_pool, working_assets}
use Rattle.steps.proofs.CorrelatedBinomial.Theorems.{within, placed}
use Rattle.chances.specs.Chances.Ready.{steps_ready}
use Rattle.trial_moody_tables.proofs.chances_of.Goals as goal

pub chances-requires : goal.chances-requires
unfolding largest_pool working_assets whole defaults
chances-requires c = steps_ready (within (search rules)) (placed (search rules)) (omega arith) _ c.last_row-row.ensures
