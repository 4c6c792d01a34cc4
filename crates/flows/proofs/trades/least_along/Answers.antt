-- Each hop in turn makes the least of it and of what came before.
use Rattle.std.proofs.Common.{◌≡◌, pos, ap, ◌∙◌, rules}
use Rattle.routes.specs.Listed.{listed}
use Rattle.flows.specs.Flows.{min_flow, least_flow}
use Rattle.flows.proofs.Hops.{fold_along}
use Rattle.flows.proofs.Least.{least_is, least_carries}
use Rattle.flows.proofs.trades.least_along.Goals as goal

pub returns : goal.returns
returns g c =
    let m = g.R.Register.meaning c.args.register.now in
    let k = c.args.contract in
    let n = c.args.most in
    let ys = listed c.args.route.now in
    let e : c.fold.result ≡ least_flow m k n ys =
    fold_along (min_flow m k) _ _ (λ s t x f h. search rules) c.array_windows-hops.result c.array_windows-hops.ensures.size n c.fold.result c.fold.ensures.ran ∙ ap (least_flow m k n) (c.array_windows-hops.ensures.rest ∙ c.areas.ensures.listed) in
    record {
      value = e;
      open_route = λ x y p. ap pos e ∙ least_is m k n x y ys p;
      carries = λ x y p. least_carries m k n c.fold.result x y ys e p;
    }
