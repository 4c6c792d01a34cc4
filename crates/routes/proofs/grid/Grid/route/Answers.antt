use Rattle.std.proofs.Common.{ℕ, List, arith}
use Rattle.routes.specs.Grids.{Leads}
use Rattle.routes.specs.Paths.{Path}
use Rattle.routes.proofs.Carried.{alike}
use Rattle.routes.proofs.Diamond as diamond
use Rattle.routes.proofs.Ends.{path_areas}
use Rattle.routes.proofs.Unique.{only_one}
use Rattle.routes.proofs.grid.Grid.route.Goals as goal

pub returns-then-from-ge-AREAS : goal.returns-then-from-ge-AREAS
returns-then-from-ge-AREAS c =
    let none : (xs : List ℕ) → Path (Leads c.args.self.now) c.args.from c.args.to xs → ⊥ = λ xs h. omega (arith, c.if-from-ge-AREAS.true, (path_areas _ _ _ xs h).0) in
    record { answer = none; only = λ xs h. none xs h.0; alike = alike; example = diamond.example }

pub returns-in_err-towards : goal.returns-in_err-towards
returns-in_err-towards c =
    let none : (xs : List ℕ) → Path (Leads c.args.self.now) c.args.from c.args.to xs → ⊥ = λ xs h. omega (arith, c.in_err-towards.ensures, (path_areas _ _ _ xs h).1) in
    rw c.from_residual.ensures (record { answer = none; only = λ xs h. none xs h.0; alike = alike; example = diamond.example })

pub returns : goal.returns
returns c =
    let h = rw (c.in_ok-towards.ensures.0, c.in_ok-towards.ensures.1) at c.route.ensures in
    record { answer = h; only = only_one (Leads c.args.self.now) c.args.from c.args.to c.route.result h; alike = alike; example = diamond.example }
