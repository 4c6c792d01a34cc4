use Rattle.std.proofs.Common.{ℕ, replicate, arith}
use Rattle.routes.specs.Grids.{Leads}
use Rattle.routes.specs.Levels.{lv}
use Rattle.routes.specs.Paths.{Holds, Size}
use Rattle.routes.proofs.Falls.{size_found}
use Rattle.routes.proofs.Made.{blank}
use Rattle.routes.proofs.Ends.{size_none, size_reach}
use Rattle.routes.proofs.Reached.{reaching}
use Rattle.routes.proofs.grid.Grid.sizes_to.Goals as goal

pub returns-in-Some : goal.returns-in-Some
returns-in-Some c =
    let O = Leads c.args.self.now in
    let d = c.in-Some.levelled.levels.sizes in
    let s : (a : ℕ) → Size O a c.args.to (lv d a) = size_found O c.args.to d c.in-Some.ensures.2 in
    record { sizes = s; reach = λ a. size_reach O a c.args.to (lv d a) (s a); laws = λ f. reaching (Holds f) }

pub returns-in-None : goal.returns-in-None
returns-in-None c =
    let O = Leads c.args.self.now in
    let s : (a : ℕ) → Size O a c.args.to (lv (replicate 16 0) a) = λ a. size_none O a c.args.to (lv (replicate 16 0) a) (λ l. omega (arith, c.in-None.ensures)) (blank 16 a 0) in
    record { sizes = s; reach = λ a. size_reach O a c.args.to (lv (replicate 16 0) a) (s a); laws = λ f. reaching (Holds f) }

pub returns-then-to-ge-AREAS : goal.returns-then-to-ge-AREAS
returns-then-to-ge-AREAS c =
    let O = Leads c.args.self.now in
    let s : (a : ℕ) → Size O a c.args.to (lv (replicate 16 0) a) = λ a. size_none O a c.args.to (lv (replicate 16 0) a) (λ l. omega (arith, c.if-to-ge-AREAS.true)) (blank 16 a 0) in
    record { sizes = s; reach = λ a. size_reach O a c.args.to (lv (replicate 16 0) a) (s a); laws = λ f. reaching (Holds f) }
