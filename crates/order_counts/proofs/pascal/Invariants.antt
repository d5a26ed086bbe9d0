-- At the outer loop's head the row is that for k assets, at the inner one's it is changed below j.
use Rattle.order_counts.specs.Counts.{Gives, Pascal, PascalBelow}
use Rattle.order_counts.proofs.pascal.Given as goal

abbrev pub invariant-loop-j : goal.invariant-loop-j
invariant-loop-j g l = (plus : _) → Gives (goal.F-post g l.sum) plus → PascalBelow l.one plus l.k l.j l.initial.row l.row l.before

abbrev pub invariant-loop-k : goal.invariant-loop-k
invariant-loop-k g l = (plus : _) → Gives (goal.F-post g l.sum) plus → Pascal l.one plus l.k l.row
