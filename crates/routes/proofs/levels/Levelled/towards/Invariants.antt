use Rattle.std.proofs.Common.{◌≡◌}
use Rattle.routes.specs.Grids.{Leads}
use Rattle.routes.specs.Levels.{Levels}
use Rattle.routes.proofs.levels.Levelled.towards.Given as goal

abbrev pub invariant-loop-level : goal.invariant-loop-level
invariant-loop-level l = (l.levelled.grid.now ≡ l.grid) × (l.levelled.to ≡ l.to) × Levels (Leads l.grid) l.to l.levelled.levels.sizes l.level l.level
