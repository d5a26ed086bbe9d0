-- The shift list: how far the printed tails of one row of chances are above those of another, in units.
-- Assumes nothing.
use Rattle.std.specs.Prelude.{ℕ, ℤ, pos, ◌-ℤ◌}
use Rattle.kept.specs.declared.Kept.{Kept}
use Rattle.steps.specs.Column.{printed_tail}

-- Entry k: the printed tail at k from the chances `low` of the low side, less that from the chances `base`.
unfoldable pub tail_shift : (n : ℕ) (low base : ℕ → Kept) → ℕ → ℤ
tail_shift n low base k = pos (printed_tail n low k) -ℤ pos (printed_tail n base k)
