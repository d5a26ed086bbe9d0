-- `layer_bound` meets its contract.
use Rattle.steps.specs.Numbers.{of_tails}
use Rattle.chances.specs.Chances.Laws.{chances_ready}
use Rattle.layer_losses.specs.Layer.Laws.{mean_ready, bound_made}
use Rattle.layer_losses.proofs.layer_bound.Goals as goal

pub tails-tails-requires : goal.tails-tails-requires
tails-tails-requires c = chances_ready c.requires.steps c.chances-chances.ensures (λ _. of_tails)

pub mean_tail-requires : goal.mean_tail-requires
mean_tail-requires c = mean_ready c.requires c.chances-chances.ensures c.tails-tails.ensures

pub returns : goal.returns
returns c = bound_made c.requires c.chances-chances.ensures c.tails-tails.ensures c.mean_tail.ensures
