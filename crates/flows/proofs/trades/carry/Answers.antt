-- At the end no hop is left, and a trade follows from the takes that were asked for.
use Rattle.std.proofs.Common.{◌≡◌, ◌<◌, length, arith}
use Rattle.routes.specs.Listed.{listed}
use Rattle.flows.specs.Flows.{asked_take, asked_along}
use Rattle.flows.proofs.Hops.{ahead, along_done}
use Rattle.flows.proofs.Traded.{asked_traded}
use Rattle.flows.proofs.trades.carry.Goals as goal

pub returns-clause-traded : goal.returns-clause-traded
returns-clause-traded g c =
    let m = g.R.Register.meaning c.args.register.now in
    let t = g.R.Register.meaning c.loop-from.register in
    let k = c.args.contract in
    let q = c.args.quantity in
    let i = c.loop-from.invariant in
    let l : length (ahead c.loop-from.from-iterator) < 2 = omega (arith, i.0, c.in-None.ensures.steps.1.0) in
    let e : t ≡ asked_along m k q (listed c.args.route.now) = along_done (asked_take k q) t (asked_along m k q (listed c.args.route.now)) (ahead c.loop-from.from-iterator) l i.1 in
    λ x y n. asked_traded m t (g.R.Register.sound c.args.register.now) k x y n q (listed c.args.route.now) e
