-- The answer to every input, with the limits in figures; and to the line of the pool n = 3, p = 1000, ρ = 3000, to those of pools with no asset and with 65, and to no
-- line, byte for byte.
-- Assumes nothing.
use Rattle.std.specs.Prelude.{ℕ, zero, suc, ◌+◌, ◌≤◌, ◌<◌, ◌≡◌, ◌⊎◌, List, [], ◌∷◌, length, take}
use Rattle.std.proofs.Math.Path.{refl}
use Rattle.std.proofs.Common.{sym, ap, ◌∙◌, arith, lit≤, lit<, length-append}
use Rattle.std.proofs.Math.Logic.{inl, inr}
use borrow.Author.Tests.{ne_eqb, lt-ltb, le-ltb}
use Rattle.model.specs.Fraction.{whole}
use Rattle.model.specs.CorrelatedBinomial.{defaults}
use Rattle.kept.specs.declared.Side.TheVariants.{Low}
use Rattle.steps.proofs.Cases.{cases}
use Rattle.steps.specs.Column.{printed_tail, printed_row}
use Rattle.steps.specs.Inputs.{largest_pool, report_pool}
use Rattle.steps.specs.CorrelatedBinomial.{kept_defaults}
use Rattle.steps.proofs.CorrelatedBinomial.Theorems.{printed}
use Rattle.grounds.specs.Grounds.{first_of, first_ground, pool_grounds, assets_ground, probability_ground, correlation_ground}
use Rattle.text.specs.Ascii.{ascii}
use Rattle.text.specs.Cases.{line_of_decimals, line_of_three, table_of_three}
use Rattle.text.specs.Line.{Accepts}
use Rattle.text.specs.Table.{digits_by_steps, decimal, field_text, row_of, table_text, refused_text, refused_line}
use Rattle.text.specs.Table.Laws.{column_text_lem}
use Rattle.reply.specs.declared.Reply.{Reply}
use Rattle.reply.specs.Reply.{AnswersInput, AnswersStart, Carries}

accepted : first_ground (pool_grounds report_pool 3 1000 3000) ≡ 0
unfolding first_ground first_of pool_grounds assets_ground probability_ground correlation_ground report_pool whole
accepted = refl

abbrev column_of_three : List ℕ
column_of_three = 79032 ∷ 14005 ∷ 4895 ∷ 2068 ∷ []

abbrev tails : ℕ → ℕ
tails = printed_tail 3 (kept_defaults Low 3 1000 3000)

past : tails 4 ≡ 0
unfolding defaults whole largest_pool
past = (printed {n = 3} {p = 1000} {ρ = 3000} (record { assets = lit≤ tt; probability = lit≤ tt; correlation = lit≤ tt })).past

same : (k : ℕ) → k ≤ 3 → row_of column_of_three k ≡ printed_row 3 (kept_defaults Low 3 1000 3000) k
same zero l = sym cases.17
same (suc zero) l = sym cases.18
same (suc (suc zero)) l = sym cases.19
same (suc (suc (suc zero))) l = sym cases.20
same (suc (suc (suc (suc k)))) l = absurd (omega arith)

difference : (k : ℕ) → k ≤ 3 → row_of column_of_three k + tails (suc k) ≡ tails k
difference zero l = ap (λ t. 79032 + t) cases.22 ∙ sym cases.21
difference (suc zero) l = ap (λ t. 14005 + t) cases.23 ∙ sym cases.22
difference (suc (suc zero)) l = ap (λ t. 4895 + t) cases.24 ∙ sym cases.23
difference (suc (suc (suc zero))) l = ap (λ t. 2068 + t) past ∙ sym cases.24
difference (suc (suc (suc (suc k)))) l = absurd (omega arith)

pub reply_of_three : {text : List ℕ} → AnswersInput (ascii "3 1000 3000\n") text
    → text ≡ ascii "defaults units tail\n0 79032 100000\n1 14005 20968\n2 4895 6963\n3 2068 2068\n"
reply_of_three answers =
    (answers.line 3 1000 3000 line_of_three).table accepted
    ∙ sym (column_text_lem 3 column_of_three (printed_row 3 (kept_defaults Low 3 1000 3000)) tails same difference past)
    ∙ table_of_three

-- ---- every input

pub reply_no_line : {input text : List ℕ} → AnswersInput input text → ((n p ρ : ℕ) → Accepts input n p ρ → ⊥) → text ≡ ascii "refused line\n"
unfolding refused_line ascii
reply_no_line answers = answers.no_line

module _ {n p ρ : ℕ} {input text : List ℕ} (line : Accepts input n p ρ) (answers : AnswersInput input text) where
  -- The ground is the first of 1 to 3 that applies.
  refused_by : (number : ℕ) → 0 < number → first_ground (pool_grounds report_pool n p ρ) ≡ number → text ≡ refused_text number
  refused_by number above is = (answers.line _ _ _ line).refused (λ none. omega (arith, is)) ∙ ap refused_text is

  pub reply_refused_one : (n ≡ 0) ⊎ (64 < n) → text ≡ ascii "refused 1\n"
  unfolding refused_text field_text decimal digits_by_steps ascii first_ground first_of pool_grounds assets_ground report_pool
  reply_refused_one wrong = refused_by 1 (lit< tt) (elim wrong [
    | inl none ↦ rw none refl
    | inr many ↦ rw (ne_eqb n 0 (omega arith), lt-ltb 64 n many) refl
  ])

  module _ (some : 1 ≤ n) (few : n ≤ 64) where
    pub reply_refused_two : 10000 < p → text ≡ ascii "refused 2\n"
    unfolding refused_text field_text decimal digits_by_steps ascii first_ground first_of pool_grounds assets_ground probability_ground report_pool whole
    reply_refused_two above = refused_by 2 (lit< tt) (rw (ne_eqb n 0 (omega arith), le-ltb 64 n few, lt-ltb 10000 p above) refl)

    module _ (probable : p ≤ 10000) where
      pub reply_refused_three : 10000 < ρ → text ≡ ascii "refused 3\n"
      unfolding refused_text field_text decimal digits_by_steps ascii first_ground first_of pool_grounds assets_ground probability_ground correlation_ground report_pool whole
      reply_refused_three above =
          refused_by 3 (lit< tt) (rw (ne_eqb n 0 (omega arith), le-ltb 64 n few, le-ltb 10000 p probable, lt-ltb 10000 ρ above) refl)

      pub reply_table : ρ ≤ 10000 → text ≡ table_text n (printed_row n (kept_defaults Low n p ρ)) (printed_tail n (kept_defaults Low n p ρ))
      unfolding first_ground first_of pool_grounds assets_ground probability_ground correlation_ground report_pool whole
      reply_table correlated =
          (answers.line _ _ _ line).table (rw (ne_eqb n 0 (omega arith), le-ltb 64 n few, le-ltb 10000 p probable, le-ltb 10000 ρ correlated) refl)

-- ---- some inputs

pub reply_of_none : {text : List ℕ} → AnswersInput (ascii "0 1000 3000\n") text → text ≡ ascii "refused 1\n"
unfolding decimal digits_by_steps ascii
reply_of_none answers = reply_refused_one (line_of_decimals 0 1000 3000 (lit< tt) (lit< tt) (lit< tt)) answers (inl refl)

pub reply_of_sixty_five : {text : List ℕ} → AnswersInput (ascii "65 1000 3000\n") text → text ≡ ascii "refused 1\n"
unfolding decimal digits_by_steps ascii
reply_of_sixty_five answers = reply_refused_one (line_of_decimals 65 1000 3000 (lit< tt) (lit< tt) (lit< tt)) answers (inr (lit< tt))

-- A number alone is no line.
pub reply_of_number : {text : List ℕ} → AnswersInput (ascii "3\n") text → text ≡ ascii "refused line\n"
unfolding refused_line ascii
reply_of_number answers = answers.no_line (λ n p ρ line. omega (arith, simp length-append at (ap length line.line)))

-- What a reply to a buffer carries answers every input that starts as the buffer does.
pub reply_of_start : {buffer : List ℕ} {count : ℕ} {reply : Reply} → Carries (AnswersStart buffer count) reply → (input : List ℕ)
    → take (length buffer) input ≡ take count buffer → AnswersInput input (take reply.length reply.text)
reply_of_start carries = carries.answers.every
