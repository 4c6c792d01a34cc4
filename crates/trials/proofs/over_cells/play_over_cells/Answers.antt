-- What the calls make is one list of events.
use Rattle.player.proofs.Once.{one_playing}
use Rattle.trials.proofs.over_cells.play_over_cells.Goals as goal

pub returns-clause-only : goal.returns-clause-only
returns-clause-only c = one_playing _ _ _
