-- What the calls on a pool promise. Those on its store are in the crate `store`. The records of a column and of tranche losses take what gives the call's refusal, from
-- its inputs, and how far its bounds are apart: for k assets at most one part in g k. What is promised of a column and of a loss is said of a row of chances in general,
-- whatever model it comes from.
-- Assumes nothing.
use Rattle.std.specs.Prelude.{ℕ, ◌≡◌, List, length, take}
use Rattle.model.specs.Fraction.{Fraction}
use Rattle.model.specs.Chances.{Chances}
use Rattle.model.specs.CorrelatedBinomial.{defaults}
use Rattle.kept.specs.declared.Kept.{Kept}
use Rattle.kept.specs.declared.Side.{Side}
use Rattle.kept.specs.declared.Side.TheVariants.{Low}
use Rattle.steps.specs.Column.{printed_row, tenths}
use Rattle.steps.specs.declared.Tranche.{Tranche}
use Rattle.steps.specs.Loss.{LossAnswer}
use Rattle.steps.specs.Tranches.{losses_after}
use Rattle.steps.specs.Layers.{layer_after}
use Rattle.steps.specs.CorrelatedBinomial.{kept_defaults}
use Rattle.steps.specs.Inputs.{largest_pool, distance_for, tenths_for}
use Rattle.steps.specs.Promises.{HoldsColumn, HoldsLosses, HoldsLayer}
use Rattle.working.specs.Slices.{entries_after}
use Rattle.grounds.specs.Grounds.{first_ground, column_grounds, loss_grounds, layer_grounds}
use Rattle.steps.specs.declared.Pool.{Pool}
use Rattle.store.specs.Stores.{Store, lengths}
use Rattle.store.specs.Calls.{Fills}
pub mod Laws

-- ---- over a row of chances in general: r is the exact row, c the kept chances of both sides

-- What a column call leaves in its slice, by the number of its refusal, and what holds of the column.
pub record PrintsRow (off : Fraction) (r : Chances) (low : ℕ → Kept) (units units' : List ℕ) (refusal : ℕ) : Type 0 where
  pub units_are : units' ≡ entries_after r.assets (printed_row r.assets low) refusal units
  pub holds_column : refusal ≡ 0 → HoldsColumn off r low units'

-- What a loss call answers for the tranches within its count, by the number of its refusal, and what holds of the losses; p is the default probability
-- by which the row is made.
pub record RepliesLosses (g p : ℕ) (r : Chances) (c : Side → ℕ → Kept) (ts : List Tranche) (refusal : ℕ) (losses : List LossAnswer) : Type 0 where
  pub losses_are : losses ≡ losses_after r.assets c ts refusal
  pub holds_losses : refusal ≡ 0 → HoldsLosses g p r c ts losses

-- What a layer call answers, by the number of its refusal, and what holds of the loss.
pub record RepliesLayer (g : ℕ) (r : Chances) (c : Side → ℕ → Kept) (i j refusal : ℕ) (loss : LossAnswer) : Type 0 where
  pub loss_is : loss ≡ layer_after r.assets c i j refusal
  pub holds_loss : refusal ≡ 0 → HoldsLayer g r c i j loss

-- ---- column

unfoldable pub column_refusal : Pool → Store → List ℕ → ℕ
column_refusal pool s units =
    first_ground (column_grounds largest_pool pool.assets pool.probability pool.correlation (lengths s) (length units))

pub record Prints (refuses : Pool → Store → List ℕ → ℕ) (g : ℕ → ℕ) (pool head : Pool) (before after : Store) (units units' : List ℕ) (refusal : ℕ) (head' : Pool)
    : Type 0 where
  pub fills : Fills (refuses pool before units) g pool head before after refusal head'
  pub prints : PrintsRow (tenths (tenths_for pool.assets)) (defaults pool.assets pool.probability pool.correlation)
      (kept_defaults Low pool.assets pool.probability pool.correlation) units units' refusal

-- ---- losses

unfoldable pub loss_refusal : Pool → List Tranche → ℕ → Store → ℕ
loss_refusal pool tranches count s =
    first_ground (loss_grounds largest_pool pool.assets pool.probability pool.correlation tranches count (lengths s))

pub record Replies
    (refuses : Pool → List Tranche → ℕ → Store → ℕ) (g : ℕ → ℕ) (pool head : Pool) (tranches : List Tranche) (count : ℕ) (before after : Store) (refusal : ℕ)
    (head' : Pool) (losses : List LossAnswer) : Type 0 where
  pub fills : Fills (refuses pool tranches count before) g pool head before after refusal head'
  pub replies : RepliesLosses (g pool.assets) pool.probability (defaults pool.assets pool.probability pool.correlation)
      (λ side. kept_defaults side pool.assets pool.probability pool.correlation) (take count tranches) refusal losses

-- ---- layer

unfoldable pub layer_refusal : Pool → (i j : ℕ) → Store → ℕ
layer_refusal pool i j s = first_ground (layer_grounds largest_pool pool.assets pool.probability pool.correlation i j (lengths s))

pub record LayerReplies (pool head : Pool) (i j : ℕ) (before after : Store) (refusal : ℕ) (head' : Pool) (loss : LossAnswer) : Type 0 where
  pub fills : Fills (layer_refusal pool i j before) distance_for pool head before after refusal head'
  pub replies : RepliesLayer (distance_for pool.assets) (defaults pool.assets pool.probability pool.correlation)
      (λ side. kept_defaults side pool.assets pool.probability pool.correlation) i j refusal loss
