-- `side_unkept` meets its contract.
use Rattle.std.proofs.Common.{rules}
use Rattle.std.proofs.iter.runs.Sources.{ranges}
use Rattle.planes.specs.Sides.Laws.{unkept_found}
use Rattle.planes.proofs.writing.side_unkept.Goals as goal

pub returns-clause-value : goal.returns-clause-value
returns-clause-value c = unkept_found _ _ (λ some. search (rules, ranges)) (λ none i l. search (rules, ranges, c.any.ensures.runs.0.reads i 0))

pub returns-clause-all_fit : goal.returns-clause-all_fit
returns-clause-all_fit c = λ none. record { at = λ i l. search (rules, ranges, c.any.ensures.runs.0.reads i 0) }
