-- `fill_both` meets its contract.
use Rattle.std.proofs.Common.{refl, rules}
use Rattle.kept.specs.declared.Side.TheVariants.{Low, High}
use Rattle.store.specs.Stores.{store, side_of}
use Rattle.store.specs.Filling.Laws.{fillable, both_filled}
use Rattle.store.proofs.filling.fill_both.Goals as goal

pub fill_side-low-requires : goal.fill_side-low-requires
unfolding store side_of
fill_side-low-requires c = fillable Low _ c.requires

pub fill_side-high-requires : goal.fill_side-high-requires
unfolding store side_of
fill_side-high-requires c = fillable High _ c.requires

pub returns-clause-filled : goal.returns-clause-filled
unfolding store
returns-clause-filled c = both_filled c.fill_side-low.ensures.filled c.fill_side-high.ensures.filled refl refl (search rules) (search rules)
