-- At the outer loop's head s passes are done, and at the inner one's the next pass has reached entry j.
use Rattle.working.specs.Lent.{numbers}
use Rattle.rows.specs.Turns.{Passed}
use Rattle.rows.specs.Turns.Laws.{Passing}
use Rattle.rows.proofs.passes.Given as goal

abbrev pub invariant-loop-s : goal.invariant-loop-s
invariant-loop-s l = Passed l.side l.correlation l.k l.s l.from (numbers l.rows) l.w

abbrev pub invariant-loop-j : goal.invariant-loop-j
invariant-loop-j l = Passing l.side l.correlation l.k l.s l.j l.initial.w l.w
