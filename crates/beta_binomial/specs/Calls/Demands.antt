-- The contracts of the calls of the beta-binomial model imply what is demanded of them.
-- Assumes nothing.
use Rattle.std.specs.Prelude.{ℕ, ◌≡◌, List, length}
use Rattle.model.specs.ClosedForm.{defaults_by}
use Rattle.model.specs.BetaBinomial.{beta_defaults}
use Rattle.steps.specs.declared.Tranche.{Tranche}
use Rattle.steps.specs.Inputs.{up_to, largest_pool, fine_pool, distance_for}
use Rattle.working.proofs.Slices.Laws.{entries_kept, entries_length, entries_later}
use Rattle.grounds.specs.Grounds.Laws.{beta_column_accepted}
use Rattle.pool.specs.declared.losses.Answer.{Answer}
use Rattle.grounds.specs.Refusals.{refusal_number}
use Rattle.expected_losses.specs.Loss.{losses_in}
use Rattle.steps.specs.declared.Pool.{Pool}
use Rattle.pool.specs.Demands.{parts_for, BetaRowDemands, BetaColumnDemands, BetaTranchesDemands}
use Rattle.pool.proofs.Demands.Theorems.{bounds_meet, steps_meet, rows_meet, losses_meet}
use Rattle.beta_binomial.specs.Calls.{HoldsBeta, beta_column_refusal, BetaPrints, beta_loss_refusal, BetaReplies}

row_meets : {pool : Pool} → HoldsBeta pool.assets pool.probability pool.correlation → BetaRowDemands pool (parts_for pool.assets)
unfolding up_to fine_pool distance_for parts_for beta_defaults defaults_by
row_meets holds = record { entries = λ j l. bounds_meet (holds.entries j l); steps = steps_meet holds.steps_hold }

pub beta_column_meets : {pool : Pool} {units units' : List ℕ} {refusal : ℕ} → BetaPrints pool units units' refusal → BetaColumnDemands pool units units' refusal
unfolding beta_column_refusal largest_pool beta_defaults defaults_by
beta_column_meets {pool} {units} prints =
    let are = prints.prints.units_are in
    record {
      one = record { number = prints.refusal_is; untouched = entries_kept pool.assets _ units are };
      units_length = λ none.
          entries_length pool.assets _ units are none (beta_column_accepted largest_pool pool.assets pool.probability pool.correlation _ prints.refusal_is none).entries;
      later_units = entries_later pool.assets _ units are;
      row = λ none. row_meets (prints.holds none);
      column = λ none. rows_meet _ (prints.prints.holds_column none);
    }

pub beta_tranches_meet : {pool : Pool} {tranches : List Tranche} {count : ℕ} (answer : Answer) → length tranches ≡ 8
    → BetaReplies pool tranches count (refusal_number answer.outcome) (losses_in answer.losses) → BetaTranchesDemands pool tranches count answer
unfolding beta_loss_refusal largest_pool up_to fine_pool distance_for parts_for
beta_tranches_meet answer eight replies = record {
  number = replies.refusal_is;
  row = λ none. row_meets (replies.holds none);
  losses = losses_meet answer eight replies.replies;
}
