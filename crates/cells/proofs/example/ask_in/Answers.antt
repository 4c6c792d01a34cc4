-- A layer over cells means what the layer over a register with none noted means.
use Rattle.std.proofs.Common.{ap, ◌∙◌}
use Rattle.capacity.specs.Meaning.{Capacity, reserved}
use Rattle.capacity.specs.Shapes.{kept_of}
use Rattle.cells.specs.Quotes.{quote_of}
use Rattle.cells.proofs.example.ask_in.Goals as goal

pub returns : goal.returns
returns c =
    c.ask.ensures
    ∙ ap quote_of (c.new-register.ensures.keeps ∙ ap (λ (m : Capacity). reserved m (kept_of c.args.map.now.wishes)) c.new-below.ensures.meaning)
