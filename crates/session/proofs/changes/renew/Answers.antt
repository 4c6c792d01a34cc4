-- Once an order is out, its number is free.
use Rattle.std.proofs.Common.{◌<◌, length, arith}
use Rattle.book.specs.Places.{orders}
use Rattle.session.proofs.Changing.{number_gone}
use Rattle.session.proofs.changes.renew.Goals as goal

pub returns-then-at-len-clause-orderly : goal.returns-then-at-len-clause-orderly
returns-then-at-len-clause-orderly c =
    let os = orders c.args.book.now in
    let here : c.args.at < length os = omega (arith, c.len.ensures.count) in
    λ o fit same. c.append.ensures.orderly (c.remove.ensures.orderly o) fit (number_gone os c.args.at _ _ here c.remove.ensures.after same o)
