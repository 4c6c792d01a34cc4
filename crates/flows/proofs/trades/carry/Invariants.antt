-- What is left of the route makes of the register so far what the whole route makes of the one at the start.
use Rattle.std.proofs.Common.{◌≡◌}
use Rattle.flows.specs.Flows.{asked_along}
use Rattle.flows.proofs.Hops.{ahead, TwoByTwo}
use Rattle.routes.specs.Listed.{listed}
use Rattle.flows.proofs.trades.carry.Given as goal

abbrev pub invariant-loop-from : goal.invariant-loop-from
invariant-loop-from g l =
    TwoByTwo l.from-iterator
    × (asked_along (g.R.Register.meaning l.register) l.contract l.quantity (ahead l.from-iterator) ≡ asked_along (g.R.Register.meaning l.initial.register) l.contract l.quantity (listed l.route))
    × g.R.Register.leaves l.initial.register l.register
