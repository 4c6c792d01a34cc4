use Rattle.std.proofs.Common.{◌≡◌, refl, arith}
use Rattle.routes.specs.Grids.{Leads}
use Rattle.routes.proofs.Found.{found_first, found_next}
use Rattle.routes.proofs.Falls.{all_found}
use Rattle.routes.proofs.levels.Levelled.towards.Goals as goal

pub loop-level-init : goal.loop-level-init
loop-level-init c = (refl, refl, found_first (Leads c.args.grid.now) c.args.to (omega arith))

pub loop-level-preserved : goal.loop-level-preserved
loop-level-preserved c =
    let i = c.loop-level.invariant in
    (i.0, i.1, found_next (Leads c.args.grid.now) c.args.to c.loop-level.levelled.levels.sizes c.swept-levelled.result.sizes c.loop-level.level (omega arith) i.2 (omega arith) (rw i.0 at c.swept-levelled.ensures))

pub returns : goal.returns
returns c =
    let i = c.loop-level.invariant in
    let e : c.loop-level.level ≡ 16 = omega arith in
    (i.0, i.1, all_found (Leads c.args.grid.now) c.args.to c.loop-level.levelled.levels.sizes (rw e at i.2))
