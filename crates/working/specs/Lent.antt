-- What the two structs of lent slices hold, as a side of a store.
-- Assumes nothing.
use Rattle.std.specs.Prelude.{◌≡◌}
use Rattle.working.specs.declared.Numbers.{Numbers}
use Rattle.working.specs.declared.NumbersMut.{NumbersMut}
use Rattle.working.specs.Slices.{SideStore, side_store}

abbrev pub numbers : Numbers → SideStore
numbers x = side_store x.significands.now x.exponents.now

abbrev pub numbers_mut : NumbersMut → SideStore
numbers_mut x = side_store x.significands.now x.exponents.now

-- The fields still hold the slices that were lent, so that what they hold in the end is what the caller finds there.
abbrev pub SameSlices : (old new : NumbersMut) → Type 0
SameSlices old new = (new.significands.ghost_name ≡ old.significands.ghost_name) × (new.exponents.ghost_name ≡ old.exponents.ghost_name)
