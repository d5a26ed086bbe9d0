-- `layer_loss` meets its contract.
use Rattle.std.proofs.Common.{ℕ, ◌≡◌, List, refl, sym, ◌∙◌}
use Rattle.grounds.specs.Grounds.{first_ground, layer_grounds, LayerAccepted}
use Rattle.grounds.specs.Grounds.Laws.{layer_accepted}
use Rattle.model.specs.CorrelatedBinomial.{defaults}
use Rattle.steps.specs.CorrelatedBinomial.{kept_defaults}
use Rattle.steps.specs.CorrelatedBinomial.Rows.{kept_row}
use Rattle.steps.proofs.CorrelatedBinomial.Theorems.{pool_budgets, layer_answers}
use Rattle.steps.specs.Inputs.{largest_pool}
use Rattle.grounds.proofs.Refusals.{refusal_some}
use Rattle.expected_losses.specs.Loss.{loss_of}
use Rattle.store.proofs.Calls.Laws.{fills_filled}
use Rattle.pool.specs.Calls.{layer_refusal}
use Rattle.pool.specs.Calls.Laws.{layer_is_ready, layer_replied, layer_replies_untouched}
use Rattle.pool.proofs.layers.layer_loss.Goals as goal

-- What the inputs of a call that no ground refuses are.
accepted : {n p ρ i j refusal : ℕ} {slices : List ℕ} → refusal ≡ first_ground (layer_grounds largest_pool n p ρ i j slices) → refusal ≡ 0
    → LayerAccepted largest_pool n p ρ i j slices
accepted = layer_accepted _ _ _ _ _ _ _

pub returns-in-Err-clause-replies : goal.returns-in-Err-clause-replies
unfolding layer_refusal largest_pool loss_of
returns-in-Err-clause-replies c =
    layer_replies_untouched (refusal_some c.in-Err.refusal) (rw (c.in-Err.is, c.lengths.ensures) at c.layer_refusal.ensures) refl

pub fill_both-rows-requires : goal.fill_both-rows-requires
unfolding largest_pool
fill_both-rows-requires c = (accepted (rw (c.in_default.is, c.lengths.ensures) at c.layer_refusal.ensures) refl).fill

pub layer_loss-requires : goal.layer_loss-requires
unfolding largest_pool
layer_loss-requires c =
    let given = accepted (rw (c.in_default.is, c.lengths.ensures) at c.layer_refusal.ensures) refl in
    let rows = c.fill_both-rows.ensures.filled in
    layer_is_ready given.fill.pool.range _ _ given.layer (record { on_low = rows.low_row; on_high = rows.high_row })

pub returns-clause-replies : goal.returns-clause-replies
unfolding layer_refusal largest_pool defaults kept_defaults
returns-clause-replies c =
    let number = rw (c.in_default.is, c.lengths.ensures) at c.layer_refusal.ensures in
    let given = accepted number refl in
    let range = given.fill.pool.range in
    let rows = c.fill_both-rows.ensures.filled in
    let pool = c.args.pool in
    let is = c.layer_loss.ensures.loss_is (λ side. kept_row side pool.probability pool.correlation pool.assets) (record { on_low = rows.low_row; on_high = rows.high_row }) in
    record {
      fills = fills_filled given.fill number rows.store_is refl;
      replies = layer_replied is (layer_answers range (pool_budgets range.assets) _ _ given.layer.to is);
    }
