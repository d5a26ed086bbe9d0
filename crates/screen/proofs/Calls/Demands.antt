-- The contracts of the screen's calls imply what is demanded of them.
-- Assumes nothing.
use Rattle.std.specs.Prelude.{ℕ, ◌≡◌, refl, List, length}
use Rattle.std.proofs.Common.{sym, ap, ◌∙◌, arith}
use Rattle.steps.specs.declared.Tranche.{Tranche}
use Rattle.steps.specs.Inputs.{largest_pool, screen_pool, screen_distance}
use Rattle.pool.specs.declared.losses.Answer.{Answer}
use Rattle.grounds.specs.Refusals.{refusal_number}
use Rattle.expected_losses.specs.Loss.{losses_in}
use Rattle.pool.proofs.Answers.{one_answer}
use Rattle.steps.specs.declared.Pool.{Pool}
use Rattle.store.specs.Stores.{Store, store, lengths}
use Rattle.pool.specs.Calls.{column_refusal, loss_refusal}
use Rattle.pool.specs.Calls.Laws.{prints_once, replies_once}
use Rattle.pool.specs.Demands.{ScreenColumnDemands, ScreenTranchesDemands}
use Rattle.pool.proofs.Demands.Theorems.{slices, column_meets_by, tranches_meet_by}
use Rattle.screen.specs.Calls.{screen_column_refusal, ScreenPrints, screen_loss_refusal, ScreenReplies}

pub screen_column_meets : {pool head head' : Pool} {before after : Store} {units units' : List ℕ} {refusal : ℕ}
    → ScreenPrints pool head before after units units' refusal head' → ScreenColumnDemands pool head (slices before) (slices after) units units' refusal head'
unfolding screen_column_refusal column_refusal lengths store largest_pool screen_pool screen_distance
screen_column_meets prints = record {
  own = column_meets_by prints.own refl (λ none. sym (prints.library (λ eleven. absurd (omega arith))).fills.refusal_is ∙ none);
  screens = prints.screens;
  library = prints.library;
  same = λ not after₂ units₂ refusal₂ head₂ by_library.
      let same = prints_once (prints.library not) by_library in (same.0, ap slices same.1, same.2, same.3);
}

pub screen_tranches_meet : {pool head head' : Pool} {tranches : List Tranche} {count : ℕ} {before after : Store} (answer : Answer) → length tranches ≡ 8
    → ScreenReplies pool head tranches count before after (refusal_number answer.outcome) head' (losses_in answer.losses)
    → ScreenTranchesDemands pool head tranches count (slices before) (slices after) answer head'
unfolding screen_loss_refusal loss_refusal lengths store largest_pool screen_pool screen_distance
screen_tranches_meet answer eight replies = record {
  own = tranches_meet_by answer eight replies.own refl;
  screens = replies.screens;
  library = replies.library;
  same = λ not after₂ answer₂ head₂ by_library.
      let same = replies_once refl refl (replies.library not) by_library in (one_answer answer answer₂ same.0 same.2, ap slices same.1, same.3);
}
