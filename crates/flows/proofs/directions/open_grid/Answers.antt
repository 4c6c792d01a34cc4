-- One more area is done, and at the end all are.
use Rattle.std.proofs.Common.{◌≡◌, arith}
use Rattle.std.proofs.lemmas.Grind.{common_steps}
use Rattle.routes.specs.Grids.{opens}
use Rattle.flows.specs.Flows.{open_in}
use Rattle.flows.proofs.Opened.{rows_more, same_paths}
use Rattle.flows.proofs.directions.open_grid.Goals as goal

pub loop-from-preserved : goal.loop-from-preserved
loop-from-preserved g c =
    rows_more (opens c.loop-from.grid) _ (open_in (g.R.Register.meaning c.args.register.now) c.args.contract) c.loop-from.from
    c.open_from.ensures.here c.open_from.ensures.others c.loop-from.invariant

pub returns-clause-paths : goal.returns-clause-paths
returns-clause-paths g c =
    let e : opens c.loop-from.grid ≡ open_in (g.R.Register.meaning c.args.register.now) c.args.contract = grind (arith, common_steps) in
    same_paths _ _ e
