use Rattle.routes.specs.Grids.{Leads}
use Rattle.routes.specs.Levels.{lv}
use Rattle.routes.specs.Listed.{listed}
use Rattle.routes.proofs.Greedy.{Begun}
use Rattle.routes.proofs.levels.Levelled.route.Given as goal

abbrev pub invariant-loop-at : goal.invariant-loop-at
invariant-loop-at l = Begun (Leads l.self.grid.now) l.self.levels.sizes l.self.to l.from l.at (listed l.route)

abbrev pub decreases-loop-at : goal.decreases-loop-at
decreases-loop-at l = lv l.self.levels.sizes l.at
