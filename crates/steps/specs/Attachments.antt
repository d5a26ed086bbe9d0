-- The least lower attachment whose loss meets a target, with the upper attachment B and the recovery R given, and what a search for it answers. c are the kept chances of
-- both sides, of any row of chances.
-- Assumes nothing.
use Rattle.std.specs.Prelude.{ℕ, zero, suc, ◌<◌, ◌≡◌, Bool}
use Rattle.model.specs.Fraction.{AtMost, at_most, over}
use Rattle.kept.specs.declared.Kept.{Kept}
use Rattle.kept.specs.declared.Side.{Side}
use Rattle.kept.specs.declared.Side.TheVariants.{High}
use Rattle.steps.specs.First.{first_from}
use Rattle.steps.specs.declared.Tranche.{Tranche}
use Rattle.steps.specs.Loss.{LossAnswer, carried}
use Rattle.steps.specs.Tranches.{tranche_loss}

-- What a search answers: the number of a refusal, or the least attachment with the loss of its tranche.
pub data AttachmentAnswer : Type 0 where
  refused : (number : ℕ) → AttachmentAnswer
  lowest : (A : ℕ) (loss : LossAnswer) → AttachmentAnswer

-- The number of a refusal, or 0.
unfoldable pub refusal_number : AttachmentAnswer → ℕ
refusal_number (refused number) = number
refusal_number (lowest A loss) = 0

-- ---- the target

-- A loss meets a target in basis points of the tranche. The number that counts is what the loss carries on the high side: 0 if it is untouched, its one number if it is
-- faint, the high bound if it is shown.
abbrev pub MeetsTarget : (target : ℕ) → LossAnswer → Type 0
MeetsTarget target loss = AtMost (carried High loss) (over target 1)

-- The test for it.
unfoldable pub meets_target : (target : ℕ) → LossAnswer → Bool
meets_target target loss = at_most (carried High loss) (over target 1)

-- ---- the search

-- The tranche from A to B.
abbrev pub tranche_from : (R B A : ℕ) → Tranche
tranche_from R B A = record { recovery = R; lower = A; upper = B }

module _ (n : ℕ) (c : Side → ℕ → Kept) (R B : ℕ) where
  -- Its loss, as a loss call answers it.
  abbrev pub loss_from : ℕ → LossAnswer
  loss_from A = tranche_loss n c (tranche_from R B A)

  module _ (target : ℕ) where
    abbrev pub attachment_meets : ℕ → Bool
    attachment_meets A = meets_target target (loss_from A)

    -- The first of the attachments 0 to B − 1 that meets the target, with its loss; 20 where none does.
    unfoldable pub attachment_on : AttachmentAnswer
    attachment_on = first_from attachment_meets (λ A. lowest A (loss_from A)) (refused 20) B 0

    -- What a call answers, by the number of the ground that refuses it before it looks for an attachment, or 0.
    unfoldable pub attachment_after : (number : ℕ) → AttachmentAnswer
    attachment_after zero = attachment_on
    attachment_after (suc number) = refused (suc number)

    -- What an answer means, by that number. Refused: that number if it is not 0; if it is, 20, and no attachment meets the target. Lowest: it is 0, and A is the least that
    -- does.
    pub record MeansRefused (number refusal : ℕ) : Type 0 where
      pub before : (number ≡ 0 → ⊥) → refusal ≡ number
      pub last : number ≡ 0 → refusal ≡ 20
      pub none_meets : number ≡ 0 → (A : ℕ) → A < B → MeetsTarget target (loss_from A) → ⊥

    pub record MeansLowest (number A : ℕ) (loss : LossAnswer) : Type 0 where
      pub none : number ≡ 0
      pub within : A < B
      pub loss_is : loss ≡ loss_from A
      pub meets : MeetsTarget target loss
      pub least : (i : ℕ) → i < A → MeetsTarget target (loss_from i) → ⊥

    abbrev pub Means : (number : ℕ) → AttachmentAnswer → Type 0
    Means number (refused refusal) = MeansRefused number refusal
    Means number (lowest A loss) = MeansLowest number A loss
