-- How `best` meets its contract.
use Rattle.std.proofs.Common.{ℕ, ◌+◌, ◌<◌, ◌≤◌, length, sym, subst, arith}
use Rattle.book.specs.Places.{orders}
use Rattle.matching.specs.Bests.{Passes}
use Rattle.matching.proofs.Ranked.{passes_past, passes_more, passes_less}
use Rattle.matching.proofs.choice.best.Goals as goal
use Rattle.matching.proofs.choice.best.Goals.{then-test, else-test}

pub loop-at-preserved : goal.loop-at-preserved
loop-at-preserved g c =
    let T = goal.F-post g c.args.test in
    let os = orders c.args.book.now in
    let f : ℕ = c.args.span.from in
    let k : ℕ = c.loop-at.at in
    let i : k < length os = omega (arith, c.requires.room) in
    elim c.if-test.branch [
      | then-test w ↦ subst (Passes T os f (k + 1)) (sym w.best-is) (passes_more T os f c.requires.one_side c.loop-at.best k w.higher.result c.loop-at.invariant i w.if-test.ensures w.higher.ensures)
      | else-test w ↦ subst (Passes T os f (k + 1)) (sym w.best-is) (passes_past T os f c.loop-at.best k c.loop-at.invariant w.if-test.ensures)
    ]

pub returns : goal.returns
returns g c =
    let e : c.args.span.to ≤ c.loop-at.at = omega arith in
    passes_less (goal.F-post g c.args.test) (orders c.args.book.now) c.args.span.from c.loop-at.best c.loop-at.at c.args.span.to e c.loop-at.invariant
