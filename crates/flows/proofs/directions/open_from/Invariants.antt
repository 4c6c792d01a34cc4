-- The directions before `to` are set, and those from other areas stand as they were.
use Rattle.std.proofs.Common.{◌≡◌, ℕ, ◌<◌}
use Rattle.routes.specs.Grids.{opens}
use Rattle.flows.specs.Flows.{open_in}
use Rattle.flows.proofs.directions.open_from.Given as goal

abbrev pub invariant-loop-to : goal.invariant-loop-to
invariant-loop-to g l =
    ((b : ℕ) → b < l.to → opens l.grid l.from b ≡ open_in (g.R.Register.meaning l.register) l.contract l.from b)
    × ((a b : ℕ) → (a ≡ l.from → ⊥) → opens l.grid a b ≡ opens l.initial.grid a b)
