use Rattle.std.proofs.Common.{rules}
use Rattle.routes.specs.Grids.{Leads}
use Rattle.routes.specs.Levels.{Next}
use Rattle.routes.proofs.Made.{made}
use Rattle.routes.proofs.levels.Levelled.swept.Goals as goal

pub returns : goal.returns
returns c = λ a l. made _ _ c.from_fn.result (Next (Leads c.args.self.now.grid.now) c.args.self.now.levels.sizes c.args.level) 16 (λ k y q m h. search rules) c.from_fn.ensures.items a 0 l
