-- The view's lines as they are counted and written, and how they rank.
use Rattle.std.proofs.Common.{◌≡◌, ℕ, List, length}
use Rattle.book.specs.Places.{orders}
use Rattle.book.specs.declared.rows.Side.{Side}
use Rattle.session.specs.State.{State, state}
use Rattle.views.specs.declared.lines.BookLine.{BookLine}
use Rattle.views.specs.Books.{Shows, LinesOf, BookLines, area_tests}
use Rattle.views.specs.Ranks.{book_before, book_ordered}
use Rattle.views.specs.Single.{one_shown}
use Rattle.views.proofs.Gathering.{one_list}
use Rattle.views.proofs.Once.{by_fill}
use Rattle.views.proofs.Ranking.{as_ranked}
use Rattle.views.proofs.offers.book_view.Goals as goal

one_book : (s : State) (c a : ℕ) (side : Side) (xs ys : List BookLine) → BookLines s c a side xs → BookLines s c a side ys → xs ≡ ys
one_book s c a side = one_list (Shows s.capacity s.book c a side) (one_shown s.capacity s.book c a side) (length s.book)

pub returns-in_err-check_view_in-clause-ranks : goal.returns-in_err-check_view_in-clause-ranks
returns-in_err-check_view_in-clause-ranks g c = as_ranked (state g.R.Register.meaning c.args.session.now) c.args.contract c.args.area c.args.side

pub returns-clause-only : goal.returns-clause-only
returns-clause-only g c =
    let s : State = state g.R.Register.meaning c.args.session.now in
    let k = c.args.contract in
    let a = c.args.area in
    let side = c.args.side in
    (by_fill book_before book_ordered (area_tests s k a) (BookLines s k a side) (one_book s k a side) c.args.lines.now
    (LinesOf (g.R.Register.meaning c.register-register.result.now) (orders c.book.result.now) k a side)
    (λ xs h. rw (c.register-register.ensures.meaning, c.book.ensures) at h) c.in_ok-check_view_in.ensures c.fill.result c.fill.new.lines c.fill.ensures).1

pub returns-clause-ranks : goal.returns-clause-ranks
returns-clause-ranks g c = as_ranked (state g.R.Register.meaning c.args.session.now) c.args.contract c.args.area c.args.side
