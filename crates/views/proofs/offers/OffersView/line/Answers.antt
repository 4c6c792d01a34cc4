-- The order at the place, which is wanted, and its route.
use Rattle.std.proofs.Common.{rules}
use Rattle.book.specs.Places.{orders}
use Rattle.routes.specs.Grids.{opens}
use Rattle.routes.specs.Listed.{listed}
use Rattle.views.proofs.Showing.{shown}
use Rattle.views.proofs.offers.OffersView.line.Goals as goal

pub returns : goal.returns
returns g c =
    let v = c.args.self.now in
    shown (g.R.Register.meaning v.register.now) (orders v.book.now) v.asked.contract v.asked.area v.asked.side c.args.place c.in_ok-order.order c.in_ok-order.ensures
    (opens v.grid) v.opened c.ends-from.result c.ends-from.ensures
    _ _ (listed c.in_ok-route.route) (search rules) (c.wants.ensures.0 c.if-not-wants.false) c.in_ok-route.ensures.answer c.least_along-least.ensures.open_route
