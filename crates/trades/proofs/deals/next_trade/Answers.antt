-- No pair is lost on the way from the choice to the deal.
use Rattle.std.proofs.Common.{ℕ, length, pos, ap, ◌∙◌, rules}
use Rattle.flows.specs.Flows.{least}
use Rattle.routes.specs.Listed.{listed}
use Rattle.book.specs.Places.{orders}
use Rattle.routes.specs.Grids.{opens}
use Rattle.trades.proofs.Dealing.{path_leads, dealt}
use Rattle.trades.proofs.deals.next_trade.Goals as goal

pub returns-in_err-route : goal.returns-in_err-route
returns-in_err-route g c =
    rw c.from_residual-in_err-route.ensures (λ i j h. path_leads (opens c.open_grid-grid.result) c.args.round (orders c.args.book.now) c.in_ok-pair.pair.buy c.in_ok-pair.pair.sell c.in_ok-buy.buy c.in_ok-sell.sell c.in_ok-pair.ensures.chosen c.in_ok-buy.ensures c.in_ok-sell.ensures c.in_err-route.ensures.answer)

pub returns : goal.returns
returns g c =
    dealt (g.R.Register.meaning c.args.register.now) (orders c.args.book.now) c.args.round (opens c.open_grid-grid.result) c.in_ok-pair.pair.buy c.in_ok-pair.pair.sell c.contract_of-contract.result c.in_ok-buy.buy c.in_ok-sell.sell _ _ _ _
    c.contract_of-contract.ensures c.open_grid-grid.ensures.directions c.in_ok-pair.ensures.chosen c.in_ok-buy.ensures c.in_ok-sell.ensures (search rules) c.in_ok-route.ensures.answer (λ x y h. c.least_along.ensures.open_route x y h ∙ ap (λ (k : ℕ). least (g.R.Register.meaning c.args.register.now) c.contract_of-contract.result (pos k) (listed c.in_ok-route.route)) c.min-most.ensures) (ap length c.areas.ensures.listed)
