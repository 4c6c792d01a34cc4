-- The loop of `Book::renew`.
use Rattle.std.proofs.Common.{map, take, filter}
use Rattle.std.specs.List.{AllByRecursion}
use Rattle.book.specs.Icebergs.{IcedIfShown}
use Rattle.book.specs.Orders.{shows, next_slice}
use Rattle.book.specs.Places.{orders}
use Rattle.book.specs.Trades.{renewable}
use Rattle.book.proofs.Sifting.{Sifted}
use Rattle.book.proofs.places.Book.renew.Given as goal

abbrev pub invariant-loop-row : goal.invariant-loop-row
invariant-loop-row l =
    let os = orders l.initial.self in record {
      sifted : Sifted shows os l._row l.at (map next_slice (filter renewable (take l._row os))) (orders l.self);
      iced : AllByRecursion IcedIfShown os → AllByRecursion IcedIfShown (orders l.self);
    }
