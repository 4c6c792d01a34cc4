-- What `trials_hold` leaves to show.
use Rattle.std.proofs.Common.{refl, rules}
use Rattle.numbers.proofs.Examples.{examples}
use Rattle.routes.proofs.Diamond.{example}
use Rattle.trials.proofs.Unused.{table, cells, layer, noticed, taken}
use Rattle.trials.proofs.Border.{better_price}
use Rattle.trials.proofs.Grant.{way_back}
use Rattle.trials.proofs.trials_hold.Goals as goal

pub returns : goal.returns
returns c = record { words = examples; no_form = refl; no_count = refl; too_much = refl; icebergs = search rules; route = example; table = table; cells = cells; layer = layer; noticed = noticed; taken = taken; way_back = way_back; better_price = better_price }
