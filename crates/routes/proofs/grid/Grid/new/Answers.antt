use Rattle.routes.proofs.Flags.{none_open}
use Rattle.routes.proofs.grid.Grid.new.Goals as goal

pub returns : goal.returns
returns c = none_open
