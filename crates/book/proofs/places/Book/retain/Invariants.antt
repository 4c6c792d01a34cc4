-- The loop of `Book::retain`.
use Rattle.std.proofs.Common.{◌≡◌, ◌≤◌, Bool}
use Rattle.std.specs.Fn.{FnReturnsAt}
use Rattle.book.specs.declared.rows.Order.{Order}
use Rattle.book.proofs.Keeping.{Kept}
use Rattle.book.proofs.places.Book.retain.Given as goal

abbrev pub invariant-loop-at : goal.invariant-loop-at
invariant-loop-at g l = record {
  len : l.self.len ≡ l.initial.self.len;
  few : l.kept ≤ l.at;
  kept : (p : Order → Bool) → ((o : Order) (r : Bool) → FnReturnsAt g.F.Fn l.keep o r → r ≡ p o) → Kept p l.initial.self.rows l.at l.kept l.self.rows;
}
