use Rattle.std.proofs.Common.{arith, refl, Option, Some, None, MatchOption}
use Rattle.std.specs.Option.{IsSome}
use Rattle.routes.specs.Grids.{Leads}
use Rattle.routes.specs.Listed.{listed}
use Rattle.routes.proofs.Falls.{size_found}
use Rattle.routes.proofs.Greedy.{begun_on, begun_next, begun_all}
use Rattle.routes.proofs.levels.Levelled.route.Goals as goal

pub returns-then-of-eq-NO_PATH : goal.returns-then-of-eq-NO_PATH
returns-then-of-eq-NO_PATH c =
    let s = size_found (Leads c.args.self.now.grid.now) c.args.self.now.to c.args.self.now.levels.sizes c.requires c.args.from in
    s.none (omega arith)

there : {X N : Type 0} (S : X → Type 0) (o : Option X) → MatchOption o N S → (N → ⊥) → IsSome o
there S None n f = absurd (f n)
there S (Some x) s f = refl

pub unwrap-next-requires : goal.unwrap-next-requires
unwrap-next-requires c =
    there _ c.lowest.result (rw c.of-in-loop-at.ensures at c.lowest.ensures) (begun_on (Leads c.args.self.now.grid.now) c.args.self.now.levels.sizes c.args.self.now.to c.args.from c.loop-at.at (listed c.loop-at.route) c.loop-at.invariant c.loop-at-test.true)

pub loop-at-preserved : goal.loop-at-preserved
loop-at-preserved c =
    rw c.push.ensures (begun_next (Leads c.args.self.now.grid.now) c.args.self.now.levels.sizes c.args.self.now.to c.args.from c.loop-at.at (listed c.loop-at.route) c.loop-at.invariant c.loop-at-test.true c.unwrap-next.result (rw (c.of-in-loop-at.ensures, c.unwrap-next.ensures) at c.lowest.ensures))

pub returns : goal.returns
returns c = begun_all (Leads c.args.self.now.grid.now) c.args.self.now.levels.sizes c.args.self.now.to c.args.from c.loop-at.at (listed c.loop-at.route) c.loop-at.invariant c.loop-at-test.false
