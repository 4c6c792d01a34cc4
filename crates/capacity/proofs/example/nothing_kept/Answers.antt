-- The figures of a pile that keeps nothing back.
use Rattle.std.proofs.Common.{arith}
use Rattle.capacity.proofs.Quotes.{connect_01, quoted}
use Rattle.capacity.proofs.example.nothing_kept.Goals as goal

pub returns : goal.returns
returns c =
    let map = connect_01 0 (omega arith) _ _ c.new-map.ensures c.connect.ensures.after in
    quoted 0 0 _ _ _ c.quote.result map map c.pile.ensures c.quote.ensures.before c.quote.ensures.later
