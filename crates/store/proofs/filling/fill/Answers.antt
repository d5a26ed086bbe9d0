-- `fill` meets its contract.
use Rattle.std.proofs.Common.{ℕ, ◌≡◌, refl, sym, ◌∙◌}
use Rattle.grounds.specs.Grounds.Laws.{fill_accepted}
use Rattle.grounds.proofs.Refusals.{err_some, ok_none}
use Rattle.steps.specs.Inputs.{largest_pool}
use Rattle.store.specs.Stores.{store, lengths}
use Rattle.store.specs.Calls.{fill_refusal}
use Rattle.store.proofs.Calls.Laws.{fills_untouched, fills_filled}
use Rattle.store.proofs.filling.fill.Goals as goal

pub returns-then-is_err-clause-fills : goal.returns-then-is_err-clause-fills
unfolding fill_refusal largest_pool
returns-then-is_err-clause-fills c =
    fills_untouched (err_some _ c.is_err.ensures.value c.if-is_err.true) (rw c.lengths.ensures at c.fill_refusal-answer.ensures)

pub fill_both-requires : goal.fill_both-requires
unfolding largest_pool
fill_both-requires c =
    fill_accepted _ _ _ _ _ (rw c.lengths.ensures at c.fill_refusal-answer.ensures) (ok_none _ c.is_err.ensures.value c.if-is_err.false)

pub returns-clause-fills : goal.returns-clause-fills
unfolding fill_refusal largest_pool
returns-clause-fills c =
    let number = rw c.lengths.ensures at c.fill_refusal-answer.ensures in
    let none = ok_none _ c.is_err.ensures.value c.if-is_err.false in
    rw none (fills_filled (fill_accepted _ _ _ _ _ number none) (sym none ∙ number) c.fill_both.ensures.filled.store_is refl)
