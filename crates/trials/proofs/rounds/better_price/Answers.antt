-- The rows of the border, over the two cells.
use Rattle.std.proofs.Common.{vec_items, arith}
use Rattle.std.proofs.lemmas.Result.{IfOk-weaker}
use Rattle.capacity.proofs.Quotes.{connect_01}
use Rattle.trials.specs.Registers.{two_connectors}
use Rattle.trials.specs.Rounds.{border}
use Rattle.trials.proofs.Border.{better_price}
use Rattle.trials.proofs.Joined.{connect_02}
use Rattle.trials.proofs.Unused.{over_cells}
use Rattle.trials.proofs.rounds.better_price.Goals as goal

pub returns : goal.returns
returns c =
    let first = connect_01 0 (omega arith) _ _ c.new-map.ensures c.connect.ensures.after in
    let map = connect_02 _ _ first c.connect-2.ensures.after in
    IfOk-weaker _ _ _ (λ v h. over_cells two_connectors 2 border better_price _ _ _ (vec_items v) map c.border_calls.ensures h) c.play_over_cells.ensures.history
