-- What the program `column` answers.
-- Assumes nothing.
use Rattle.std.specs.Prelude.{ℕ, ◌-◌, ◌≤◌, ◌≡◌, List, length, take, drop, replicate}
use Rattle.kept.specs.declared.Side.TheVariants.{Low}
use Rattle.steps.specs.Column.{printed_tail, printed_row}
use Rattle.steps.specs.CorrelatedBinomial.{kept_defaults}
use Rattle.steps.specs.Inputs.{report_pool}
use Rattle.grounds.specs.Grounds.{first_ground, pool_grounds}
use Rattle.text.specs.Line.{Accepts}
use Rattle.text.specs.Table.{table_text, refused_text, refused_line}
use Rattle.reply.specs.declared.Reply.{Reply}
pub mod Laws

-- The text that answers n, p and ρ: the number of the first ground that applies among those of a pool in a report, or the table of the printed rows and tails.
pub record AnswersPool (n p ρ : ℕ) (text : List ℕ) : Type 0 where
  pub refused : (first_ground (pool_grounds report_pool n p ρ) ≡ 0 → ⊥) → text ≡ refused_text (first_ground (pool_grounds report_pool n p ρ))
  pub table : first_ground (pool_grounds report_pool n p ρ) ≡ 0
      → text ≡ table_text n (printed_row n (kept_defaults Low n p ρ)) (printed_tail n (kept_defaults Low n p ρ))

-- The text that answers an input, any bytes.
pub record AnswersInput (input text : List ℕ) : Type 0 where
  pub no_line : ((n p ρ : ℕ) → Accepts input n p ρ → ⊥) → text ≡ refused_line
  pub line : (n p ρ : ℕ) → Accepts input n p ρ → AnswersPool n p ρ text

-- The text that answers every input of which a buffer, filled as far as the input goes, holds `count` bytes: all of the input, or as much as the buffer has room for.
pub record AnswersStart (buffer : List ℕ) (count : ℕ) (text : List ℕ) : Type 0 where
  pub every : (input : List ℕ) → take (length buffer) input ≡ take count buffer → AnswersInput input text

-- The first bytes of a reply, as many as its length says, answer, and those behind them are zeros. `count` follows from `within`; with both, a caller takes
-- that part of the text without a proof of its own.
pub record Carries (Answers : List ℕ → Type 0) (reply : Reply) : Type 0 where
  pub within : reply.length ≤ length reply.text
  pub count : reply.length ≡ length (take reply.length reply.text)
  pub answers : Answers (take reply.length reply.text)
  pub rest : drop reply.length reply.text ≡ replicate (length reply.text - reply.length) 0
