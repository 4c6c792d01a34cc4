-- The directions from the areas before `from` are set.
use Rattle.std.proofs.Common.{◌≡◌, ℕ, ◌<◌}
use Rattle.routes.specs.Grids.{opens}
use Rattle.flows.specs.Flows.{open_in}
use Rattle.flows.proofs.directions.open_grid.Given as goal

abbrev pub invariant-loop-from : goal.invariant-loop-from
invariant-loop-from g l = (a : ℕ) → a < l.from → (b : ℕ) → b < 16 → opens l.grid a b ≡ open_in (g.R.Register.meaning l.register) l.contract a b
