-- The rows of the grant, over the one cell.
use Rattle.std.proofs.Common.{vec_items, arith}
use Rattle.std.proofs.lemmas.Result.{IfOk-weaker}
use Rattle.capacity.proofs.Quotes.{connect_01}
use Rattle.trials.specs.Registers.{one_connector}
use Rattle.trials.specs.Rounds.{grant}
use Rattle.trials.proofs.Grant.{way_back}
use Rattle.trials.proofs.Unused.{over_cells}
use Rattle.trials.proofs.rounds.way_back.Goals as goal

pub returns : goal.returns
returns c =
    let map = connect_01 0 (omega arith) _ _ c.new-map.ensures c.connect.ensures.after in
    IfOk-weaker _ _ _ (λ v h. over_cells one_connector 1 grant way_back _ _ _ (vec_items v) map c.grant_calls.ensures h) c.play_over_cells.ensures.history
