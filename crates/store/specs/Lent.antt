-- What the two structs of four lent slices hold.
-- Assumes nothing.
use Rattle.std.specs.Prelude.{◌≡◌}
use Rattle.store.specs.declared.Store.{Store}
use Rattle.store.specs.declared.StoreMut.{StoreMut}
use Rattle.store.specs.Stores.{Store as Contents, store}

abbrev pub contents : Store → Contents
contents x = store x.low_significands.now x.high_significands.now x.low_exponents.now x.high_exponents.now

abbrev pub contents_mut : StoreMut → Contents
contents_mut x = store x.low_significands.now x.high_significands.now x.low_exponents.now x.high_exponents.now

-- The fields still hold the slices that were lent, so that what they hold in the end is what the caller finds there.
abbrev pub SameStore : (old new : StoreMut) → Type 0
SameStore old new =
    (new.low_significands.ghost_name ≡ old.low_significands.ghost_name)
    × (new.high_significands.ghost_name ≡ old.high_significands.ghost_name)
    × (new.low_exponents.ghost_name ≡ old.low_exponents.ghost_name)
    × (new.high_exponents.ghost_name ≡ old.high_exponents.ghost_name)
