-- What `examples_hold` leaves to show.
use Rattle.numbers.proofs.Examples.{examples}
use Rattle.numbers.proofs.examples_hold.Goals as goal

pub returns : goal.returns
returns c = examples
