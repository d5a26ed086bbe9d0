-- What the structs of lent slices hold, as the page of demands has them.
-- Assumes nothing.
use Rattle.store.specs.declared.Store.{Store}
use Rattle.store.specs.declared.StoreMut.{StoreMut}
use Rattle.pool.specs.Demands.{Slices, lent}

abbrev pub lent_in : Store → Slices
lent_in x = lent x.low_significands.now x.high_significands.now x.low_exponents.now x.high_exponents.now

abbrev pub lent_in_mut : StoreMut → Slices
lent_in_mut x = lent x.low_significands.now x.high_significands.now x.low_exponents.now x.high_exponents.now
