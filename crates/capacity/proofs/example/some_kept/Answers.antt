-- The figures of a pile that keeps 20 and 10 back.
use Rattle.std.proofs.Common.{arith}
use Rattle.capacity.proofs.Quotes.{connect_01, quoted}
use Rattle.capacity.proofs.example.some_kept.Goals as goal

pub returns : goal.returns
returns c =
    let inner = connect_01 20 (omega arith) _ _ c.new-inner.ensures c.connect.ensures.after in
    let outer = connect_01 10 (omega arith) _ _ c.new-outer.ensures c.connect-2.ensures.after in
    quoted 20 10 _ _ _ c.quote.result inner outer c.pile.ensures c.quote.ensures.before c.quote.ensures.later
