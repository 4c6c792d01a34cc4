-- One more direction is set, and no other changes.
use Rattle.routes.specs.Grids.{opens}
use Rattle.flows.specs.Flows.{open_in}
use Rattle.flows.proofs.Opened.{row_more, rows_stand}
use Rattle.flows.proofs.directions.open_from.Goals as goal

pub loop-to-preserved : goal.loop-to-preserved
loop-to-preserved g c =
    let p = c.args.from in
    let q = c.loop-to.to in
    let e = c.set.ensures in
    let f = opens c.loop-to.grid in
    let i = c.loop-to.invariant in (
      row_more f _ p q _ e (open_in (g.R.Register.meaning c.args.register.now) c.args.contract p) c.requires c.loop-to-test.true c.is_open-open.ensures i.0,
      rows_stand f _ p q _ e (opens c.args.grid.now) i.1,
    )
