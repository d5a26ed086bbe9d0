-- The printed column, in units, from the chances of the low side.
-- Assumes nothing.
use Rattle.std.specs.Prelude.{ℕ, zero, suc, ◌+◌, ◌-◌, ◌≤◌, ◌≡◌}
use Rattle.std.proofs.Common.{lit<}
use Rattle.model.specs.Number.{sum}
use Rattle.model.specs.Fraction.{Fraction, AtMost, Less, integer, plus, minus, times}
use Rattle.model.specs.Chances.{Chances, chance, tail}
use Rattle.kept.specs.declared.Kept.{Kept}
use Rattle.kept.specs.declared.Side.{Side}
use Rattle.kept.specs.declared.Side.TheVariants.{Low, High}
use Rattle.kept.specs.Rounding.{value}
use Rattle.kept.specs.Whole.{whole_of}
use Rattle.steps.specs.Chances.{kept_tail}

-- Certainty in units, the scope paper's term for the parts that a column is printed in.
unfoldable pub units_of_certainty : ℕ
units_of_certainty = 100000

-- A fraction in units.
unfoldable pub exact_units : Fraction → Fraction
exact_units x = times (integer units_of_certainty) x

-- One half.
unfoldable pub half : Fraction
half = record { num = 1; den = 2; positive = lit< tt }

-- x to nearest. What is exactly half way goes down on the low side, by x less one half rounded up, and up on the high side, by x and one half rounded down.
unfoldable pub to_nearest : Side → Fraction → ℕ
to_nearest Low x = whole_of High (minus x half)
to_nearest High x = whole_of Low (plus x half)

-- x in whole units, to nearest, with what is half way up.
unfoldable pub in_units : Kept → ℕ
in_units x = to_nearest High (exact_units (value x))

module _ (n : ℕ) (c : ℕ → Kept) where
  -- The printed tail at k: the low tail in whole units, to nearest. That at 0 is certainty.
  unfoldable pub printed_tail : ℕ → ℕ
  printed_tail zero = units_of_certainty
  printed_tail (suc k) = in_units (kept_tail Low n c (suc k))

  -- Row k: its tail less the tail at k + 1. The tail past n is zero, so that row n is its own tail.
  unfoldable pub printed_row : ℕ → ℕ
  printed_row k = printed_tail k - printed_tail (suc k)

-- What is used of a printed tail t, however it is rounded: it does not grow; in units it is at most `above` above the exact tail and less than `below` below
-- it; at 0 it is 100,000, and it is never above that; past n it is zero.
pub record PrintsTails (above below : Fraction) (r : Chances) (t : ℕ → ℕ) : Type 0 where
  pub falls : (k : ℕ) → t (suc k) ≤ t k
  pub at_most : (k : ℕ) → AtMost (integer (t k)) (plus (exact_units (tail r k)) above)
  pub more_than : (k : ℕ) → Less (exact_units (tail r k)) (plus (integer (t k)) below)
  pub at_zero : t 0 ≡ units_of_certainty
  pub at_most_certain : (k : ℕ) → t k ≤ units_of_certainty
  pub past : t (suc r.assets) ≡ 0

-- x and y are less than `off` apart.
pub record Within (off x y : Fraction) : Type 0 where
  pub not_above : Less x (plus y off)
  pub not_below : Less y (plus x off)

-- x and y are at most `off` apart.
pub record AtMostApart (off x y : Fraction) : Type 0 where
  pub not_above : AtMost x (plus y off)
  pub not_below : AtMost y (plus x off)

-- Rows of a column printed from tails t: no row is below zero, each being what its tail has more than the next; row n is its own tail; rows 0 to n add to
-- exactly 100,000; each is less than `off` units from the exact chance.
pub record PrintsColumn (off : Fraction) (r : Chances) (t rows : ℕ → ℕ) : Type 0 where
  pub difference : (k : ℕ) → rows k + t (suc k) ≡ t k
  pub last : rows r.assets ≡ t r.assets
  pub total : sum (suc r.assets) rows ≡ units_of_certainty
  pub near : (k : ℕ) → k ≤ r.assets → Within off (integer (rows k)) (exact_units (chance r k))

-- n / 10
unfoldable pub tenths : ℕ → Fraction
tenths n = record { num = n; den = 10; positive = lit< tt }
