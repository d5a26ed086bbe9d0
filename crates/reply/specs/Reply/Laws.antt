-- From what the calls promise to the text of the reply.
-- Assumes nothing.
use Rattle.std.specs.Prelude.{ℕ, suc, ◌≤◌, ◌<◌, ◌≡◌, refl, List, length, take}
use Rattle.std.proofs.Common.{ap, ◌∙◌, le_refl, arith, length-append, length-take, take_all}
use Rattle.std.proofs.Math.Decide.{dec_le}
use Rattle.model.specs.Number.{triangle}
use Rattle.model.specs.CorrelatedBinomial.{defaults}
use Rattle.kept.specs.declared.Side.TheVariants.{Low}
use Rattle.steps.specs.Column.{printed_row, tenths}
use Rattle.steps.specs.CorrelatedBinomial.{kept_defaults}
use Rattle.steps.specs.Inputs.{report_pool, distance_for, tenths_for}
use Rattle.steps.specs.Promises.{HoldsColumn}
use Rattle.grounds.specs.declared.refusal.Refusal.{Refusal}
use Rattle.grounds.specs.Refusals.{number_of}
use Rattle.grounds.proofs.Refusals.{refusal_some}
use Rattle.grounds.specs.Grounds.{first_ground, pool_grounds, PoolAccepted, EachAtLeast}
use Rattle.grounds.specs.Grounds.Laws.{pool_accepted, report_accepted, column_answered}
use Rattle.steps.specs.declared.Pool.{Pool}
use Rattle.store.specs.Stores.{Store, lengths}
use Rattle.pool.specs.Calls.{column_refusal, Prints}
use Rattle.text.specs.Line.{Accepts}
use Rattle.text.specs.Line.Laws.{one_line}
use Rattle.text.specs.Table.{column_text, refused_text, refused_line}
use Rattle.text.specs.Table.Laws.{column_text_lem}
use Rattle.reply.specs.declared.Reply.{Reply}
use Rattle.reply.specs.Reply.{AnswersPool, AnswersInput, AnswersStart, Carries}

module _ {Answers : List ℕ → Type 0} {reply : Reply} where
  -- What is so of the bytes that answer is so of the reply that carries them.
  carries_as : {Says : List ℕ → Type 0} → (Says (take reply.length reply.text) → Answers (take reply.length reply.text)) → Carries Says reply
      → Carries Answers reply
  carries_as says carries = record { within = carries.within; count = carries.count; answers = says carries.answers; rest = carries.rest }

  -- A reply that carries a text answers as the text does.
  pub carried : {text : List ℕ} → Carries (λ bytes. bytes ≡ text) reply → Answers text → Carries Answers reply
  carried carries answers = carries_as (λ is. rw is answers) carries

-- With slices that have room for the largest pool of a report, a column call answers for every pool that a report accepts.
pub answered : {pool head head' : Pool} {before after : Store} {units units' : List ℕ} {refusal : ℕ}
    → Prints column_refusal distance_for pool head before after units units' refusal head'
    → PoolAccepted report_pool pool.assets pool.probability pool.correlation → EachAtLeast (triangle (suc report_pool)) (lengths before)
    → report_pool < length units → refusal ≡ 0
unfolding column_refusal
answered prints pool store column = prints.fills.refusal_is ∙ column_answered _ _ _ _ _ _ _ (report_accepted pool) pool.range.assets store column

-- So it prints the column of every pool that no ground of a report refuses.
pub column_printed : {pool head head' : Pool} {before after : Store} {units units' : List ℕ} {refusal : ℕ}
    → Prints column_refusal distance_for pool head before after units units' refusal head'
    → first_ground (pool_grounds report_pool pool.assets pool.probability pool.correlation) ≡ 0 → EachAtLeast (triangle (suc report_pool)) (lengths before)
    → report_pool < length units
    → HoldsColumn (tenths (tenths_for pool.assets)) (defaults pool.assets pool.probability pool.correlation)
    (kept_defaults Low pool.assets pool.probability pool.correlation) units'
column_printed {pool = pool} prints none store column =
    prints.prints.holds_column
    (answered prints (pool_accepted report_pool pool.assets pool.probability pool.correlation refl none) store column)

module _ {n p ρ : ℕ} where
  pub refused_answer : {refusal : ℕ} → refusal ≡ first_ground (pool_grounds report_pool n p ρ) → (refusal ≡ 0 → ⊥) → AnswersPool n p ρ (refused_text refusal)
  refused_answer is some = record { refused = λ _. ap refused_text is; table = λ none. absurd (some (is ∙ none)) }

  pub refusal_answer : (refusal : Refusal) → number_of refusal ≡ first_ground (pool_grounds report_pool n p ρ) → AnswersPool n p ρ (refused_text (number_of refusal))
  refusal_answer refusal is = refused_answer is (refusal_some refusal)

  pub table_answer : {units : List ℕ} → first_ground (pool_grounds report_pool n p ρ) ≡ 0
      → HoldsColumn (tenths (tenths_for n)) (defaults n p ρ) (kept_defaults Low n p ρ) units → AnswersPool n p ρ (column_text n units)
  unfolding printed_row defaults
  table_answer {units} none holds = record {
    refused = λ some. absurd (some none);
    table = λ _. column_text_lem n units _ _ (λ k l. omega (arith, holds.difference k l)) holds.difference (omega (arith, holds.difference n (le_refl n), holds.last));
  }

module _ {input : List ℕ} where
  pub line_answer : {n p ρ : ℕ} {text : List ℕ} → Accepts input n p ρ → AnswersPool n p ρ text → AnswersInput input text
  line_answer line answers = record {
    no_line = λ none. absurd (none _ _ _ line);
    line = λ n p ρ other. let same = one_line line other in rw (← same.0, ← same.1, ← same.2) answers;
  }

  pub line_carried : {n p ρ : ℕ} {reply : Reply} → Accepts input n p ρ → Carries (AnswersPool n p ρ) reply → Carries (AnswersInput input) reply
  line_carried line = carries_as (line_answer line)

  pub no_line_answer : {text : List ℕ} → ((n p ρ : ℕ) → Accepts input n p ρ → ⊥) → text ≡ refused_line → AnswersInput input text
  no_line_answer none is = record { no_line = λ _. is; line = λ n p ρ line. absurd (none n p ρ line) }

-- A line has at most 18 bytes.
input_length : {input : List ℕ} {n p ρ : ℕ} → Accepts input n p ρ → length input ≤ 18
input_length a = rw a.line (simp length-append (omega (arith, a.n_decimal.at_most_five, a.p_decimal.at_most_five, a.ρ_decimal.at_most_five)))

-- So more than 18 bytes at the start of an input are enough to answer it.
start_answers : (m : ℕ) (input text : List ℕ) → 18 < m → AnswersInput (take m input) text → AnswersInput input text
start_answers m input text enough answers =
    elim (dec_le (length input) m) [
      | yes short ↦ rw (take_all m input short) at answers
      | no long ↦ record {
        no_line = λ _. answers.no_line (λ n p ρ line. omega (arith, input_length line, length-take m input));
        line = λ n p ρ line. absurd (omega (arith, input_length line));
      }
    ]

-- What answers the bytes that a buffer of more than 18 holds answers every input that starts with them.
pub held_answers : {buffer part text : List ℕ} {count : ℕ} → part ≡ take count buffer → 18 < length buffer → AnswersInput part text
    → AnswersStart buffer count text
held_answers {buffer} is enough answers = record { every = λ input same. start_answers (length buffer) input _ enough (rw (same, ← is) answers) }

-- So a reply that carries the answer to them carries that to every such input.
pub buffer_answers : {buffer part : List ℕ} {count : ℕ} {reply : Reply} → part ≡ take count buffer → 18 < length buffer → Carries (AnswersInput part) reply
    → Carries (AnswersStart buffer count) reply
buffer_answers is enough = carries_as (held_answers is enough)

-- An input that ends before the buffer does is what the buffer holds of it.
pub part_answers : {buffer part text : List ℕ} {count : ℕ} → part ≡ take count buffer → count < length buffer → AnswersInput part text
    → AnswersStart buffer count text
part_answers {buffer} {count = count} is within answers = record {
  every = λ input same.
      let short : length input ≤ length buffer = omega (arith, length-take (length buffer) input, length-take count buffer, ap length same) in
      rw (← take_all (length buffer) input short, same, ← is) answers;
}

pub part_carried : {buffer part : List ℕ} {count : ℕ} {reply : Reply} → part ≡ take count buffer → count < length buffer → Carries (AnswersInput part) reply
    → Carries (AnswersStart buffer count) reply
part_carried is within = carries_as (part_answers is within)
