-- How `Ways::of` meets its contract.
use Rattle.std.proofs.Common.{rules}
use Rattle.routes.specs.Grids.{Leads}
use Rattle.matching.specs.Ways.{Tells}
use Rattle.routes.proofs.Made.{made}
use Rattle.matching.proofs.Tables.{tells}
use Rattle.matching.proofs.ways.Ways.of.Goals as goal

pub returns : goal.returns
returns c = λ q d l. made _ _ c.from_fn.result (Tells (Leads c.args.grid.now)) 16 (λ k y q' l h. (search rules, tells (Leads c.args.grid.now) k y (search rules))) c.from_fn.ensures.items q d l
