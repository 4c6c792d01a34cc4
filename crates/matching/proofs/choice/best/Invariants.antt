-- The loop of `best`.
use Rattle.book.specs.Places.{orders}
use Rattle.matching.specs.Bests.{Passes}
use Rattle.matching.proofs.choice.best.Given as goal

abbrev pub invariant-loop-at : goal.invariant-loop-at
invariant-loop-at g l = Passes (goal.F-post g l.test) (orders l.book) l.fn.span.from l.at l.best
