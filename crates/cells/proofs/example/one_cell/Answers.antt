-- The figures over one cell, with areas 0 and 1 joined.
use Rattle.std.proofs.Common.{ap, ◌∙◌, arith}
use Rattle.capacity.specs.Meaning.{reserved}
use Rattle.capacity.specs.Network.{Network}
use Rattle.capacity.proofs.Quotes.{connect_01}
use Rattle.cells.specs.Meaning.{unnoted}
use Rattle.cells.specs.Quotes.{quote_of}
use Rattle.cells.proofs.example.one_cell.Goals as goal

pub returns : goal.returns
returns c =
    let map = connect_01 0 (omega arith) _ _ c.new-map.ensures c.connect.ensures.after in
    c.ask_in.ensures ∙ ap (λ (n : Network). quote_of (reserved (unnoted n.joins 1) n.kept)) map
