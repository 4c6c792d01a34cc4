-- How `Book::append` meets its contract.
use Rattle.std.proofs.Common.{◌≡◌, ◌+◌, set, sym, subst, arith}
use Rattle.std.proofs.lemmas.Grind.{common_steps}
use Rattle.book.specs.Orderly.{Orderly}
use Rattle.book.specs.Places.{orders, appended}
use Rattle.book.proofs.Orderliness.{orderly_appended}
use Rattle.book.proofs.places.Book.append.Goals as goal

pub returns-then-n-lt-PLACES-clause-orderly : goal.returns-then-n-lt-PLACES-clause-orderly
returns-then-n-lt-PLACES-clause-orderly c =
    let b = c.args.self.now in
    let n = c.len-n.result in
    let e : orders (record { rows = set b.rows n c.args.order; len = n + 1 }) ≡ appended (orders b) c.args.order = grind (arith, common_steps) in
    λ h f k. subst Orderly (sym e) (orderly_appended (orders b) c.args.order h f k)
