-- The tranches that a loss call is asked for, and the eight losses that it answers.
-- Assumes nothing.
use Rattle.std.specs.Prelude.{ℕ, zero, suc, ◌-◌, ◌*◌, ◌<◌, List, [], ◌++◌, map, length, get_or, replicate}
use Rattle.std.proofs.Math.Decide.{dec_lt}
use Rattle.model.specs.Fraction.{Fraction}
use Rattle.model.specs.Chances.{Chances, expected_loss}
use Rattle.model.specs.Touching.{Touching, total_loss}
use Rattle.kept.specs.declared.Kept.{Kept}
use Rattle.kept.specs.declared.Side.{Side}
use Rattle.kept.specs.declared.Side.TheVariants.{Low, High}
use Rattle.kept.specs.Rounding.{value}
use Rattle.steps.specs.declared.Tranche.{Tranche}
use Rattle.steps.specs.Inputs.{TrancheInRange}
use Rattle.steps.specs.Chances.{kept_loss}
use Rattle.steps.specs.Loss.{LossAnswer, untouched, loss_answer, carried}

-- The places for tranches in a loss call, and for losses in its answer.
unfoldable pub tranche_places : ℕ
tranche_places = 8

-- The tranche at a place.
abbrev pub tranche_at : List Tranche → ℕ → Tranche
tranche_at ts i = get_or ts i (record { recovery = 0; lower = 0; upper = 0 })

-- Their recoveries and attachments, by the place.
abbrev pub recoveries : List Tranche → ℕ → ℕ
recoveries ts i = (tranche_at ts i).recovery

abbrev pub lowers : List Tranche → ℕ → ℕ
lowers ts i = (tranche_at ts i).lower

abbrev pub uppers : List Tranche → ℕ → ℕ
uppers ts i = (tranche_at ts i).upper

-- Each of them is in range.
pub record TranchesInRange (ts : List Tranche) : Type 0 where
  pub at : (i : ℕ) → i < length ts → TrancheInRange (tranche_at ts i).recovery (tranche_at ts i).lower (tranche_at ts i).upper

-- They touch from 0 to 10,000 with one recovery.
abbrev pub TranchesTouch : List Tranche → Type 0
TranchesTouch ts = Touching (length ts) (recoveries ts) (lowers ts) (uppers ts)

-- Each has a width on n assets, so that step 6 can divide by it.
abbrev pub TranchesWide : ℕ → List Tranche → Type 0
TranchesWide n ts = (i : ℕ) → i < length ts → 0 < (uppers ts i - lowers ts i) * n

-- The loss of a tranche for n assets, from the kept chances of both sides: what the bounds of step 6 give, which divides by the width. A tranche of no width, which
-- every call refuses, has none: untouched stands for it.
unfoldable pub tranche_loss : (n : ℕ) (c : Side → ℕ → Kept) → Tranche → LossAnswer
tranche_loss n c t = elim (dec_lt 0 ((t.upper - t.lower) * n)) [
  | yes wide ↦ loss_answer (kept_loss Low n (c Low) t.recovery t.lower t.upper wide) (kept_loss High n (c High) t.recovery t.lower t.upper wide)
  | no _ ↦ untouched
]

-- The losses of tranches, in their order; untouched at the places past them.
unfoldable pub tranche_losses : (n : ℕ) (c : Side → ℕ → Kept) → List Tranche → List LossAnswer
tranche_losses n c ts = map (tranche_loss n c) ts ++ replicate (tranche_places - length ts) untouched

-- The losses that a call answers, by the number of its refusal: a refused call has those of no tranche.
unfoldable pub losses_after : (n : ℕ) (c : Side → ℕ → Kept) (ts : List Tranche) (refusal : ℕ) → List LossAnswer
losses_after n c ts zero = tranche_losses n c ts
losses_after n c ts (suc refusal) = tranche_losses n c []

-- What tranches lose together: of a row of chances in general; by the bounds of step 6 on a side, from the kept chances of that side; by the numbers that the losses at
-- their places carry on a side.
unfoldable pub exact_total : (r : Chances) (ts : List Tranche) → TranchesWide r.assets ts → Fraction
exact_total r ts wide = total_loss (length ts) (lowers ts) (uppers ts) (λ i l. expected_loss r (recoveries ts i) (lowers ts i) (uppers ts i) (wide i l))

unfoldable pub bound_total : (side : Side) (n : ℕ) (c : ℕ → Kept) (ts : List Tranche) → TranchesWide n ts → Fraction
bound_total side n c ts wide = total_loss (length ts) (lowers ts) (uppers ts) (λ i l. value (kept_loss side n c (recoveries ts i) (lowers ts i) (uppers ts i) (wide i l)))

unfoldable pub carried_total : Side → List Tranche → List LossAnswer → Fraction
carried_total side ts losses = total_loss (length ts) (lowers ts) (uppers ts) (λ i l. carried side (get_or losses i untouched))
