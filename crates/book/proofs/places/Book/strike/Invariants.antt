-- The loop of `Book::strike`.
use Rattle.std.proofs.Common.{◌≡◌, ◌++◌, map, take, drop}
use Rattle.std.specs.List.{AllByRecursion}
use Rattle.book.specs.Icebergs.{IcedIfShown}
use Rattle.book.specs.Trades.{struck}
use Rattle.book.proofs.places.Book.strike.Given as goal

abbrev pub invariant-loop-row : goal.invariant-loop-row
invariant-loop-row l = record {
  after : l.row-items ≡ map (struck l.buy l.sell l.quantity) (take l.row-index l.initial.row-items) ++ drop l.row-index l.initial.row-items;
  iced : AllByRecursion IcedIfShown l.initial.row-items → AllByRecursion IcedIfShown l.row-items;
}
