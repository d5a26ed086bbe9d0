-- `FileSide::some_unkept` meets its contract.
use Rattle.std.proofs.Common.{rules}
use Rattle.std.proofs.iter.runs.Sources.{ranges}
use Rattle.planes.specs.Sides.Laws.{unkept_found}
use Rattle.planes.proofs.reading.FileSide.some_unkept.Goals as goal

pub returns : goal.returns
returns c = unkept_found _ _ (λ some. search (rules, ranges)) (λ none i l. search (rules, ranges, c.any.ensures.runs.0.reads i 0))
