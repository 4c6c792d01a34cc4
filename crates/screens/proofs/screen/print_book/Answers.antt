-- There are lines enough, so that the view is not refused; each line is in range; and one after another is heard.
use Rattle.std.proofs.Common.{◌≡◌, ◌≤◌, length, take, ap, arith, rules, Err}
use Rattle.std.proofs.ByRecursion.{All-get_or}
use Rattle.capacity.specs.Tests.{answered}
use Rattle.session.specs.Faults.{told}
use Rattle.session.specs.State.{State, state}
use Rattle.views.specs.Books.{Shows, BookLines, area_tests}
use Rattle.views.specs.Ranks.{book_before}
use Rattle.screens.specs.Lines.{book_line}
use Rattle.screens.proofs.Fitting.{gathered_few, in_area}
use Rattle.screens.proofs.Printing.{line_heard, all_heard, by_tests, view_heard}
use Rattle.screens.proofs.Ranges.{FewUnits, view_range, all_back, contract_few, book_back}
use Rattle.screens.proofs.screen.print_book.Goals as goal

pub returns-in_default : goal.returns-in_default
returns-in_default g c =
    let s : State = state g.R.Register.meaning c.args.session.now in
    let k = c.args.contract in
    let a = c.args.area in
    let side = c.args.side in
    let e = c.in_default.field-0 in
    let few : length s.book ≡ length c.book_view.new.lines = search rules in
    let t : answered (area_tests s k a) ≡ Err (told e) = by_tests book_before (area_tests s k a) (BookLines s k a side) _ _ (λ xs h. omega (arith, few, gathered_few (Shows s.capacity s.book k a side) (length s.book) xs h)) e c.in_default.ensures.view in
    absurd (cc (t, in_area s k a c.requires.area, c.requires.open))

pub print_book_line-requires : goal.print_book_line-requires
print_book_line-requires g c =
    let s : State = state g.R.Register.meaning c.args.session.now in
    let few : length s.book ≤ 128 = omega (arith, ap length c.book.ensures, c.len.ensures.count, c.len.ensures.room) in
    let all = view_range s c.args.contract c.args.area c.args.side _ c.book_view.new.lines c.in-Ok.count few c.args.session.now.orderly c.in-Ok.ensures.view in
    (All-get_or FewUnits (take c.in-Ok.count c.book_view.new.lines) c.loop-line.line-index _ c.loop-line-test.true all).1

pub loop-line-preserved : goal.loop-line-preserved
loop-line-preserved g c =
    line_heard g.S.TextSink.hears g.S.TextSink.whole (book_line c.args.contract c.args.area) (take c.in-Ok.count c.book_view.new.lines) c.loop-line.line-index _ c.args.out.now c.loop-line.out c.print_book_line.new.out c.loop-line-test.true c.loop-line.invariant c.print_book_line.ensures

pub returns : goal.returns
returns g c =
    let s : State = state g.R.Register.meaning c.args.session.now in
    let k = c.args.contract in
    let a = c.args.area in
    let after = c.book_view.new.lines in
    let n = c.in-Ok.count in
    let few : length s.book ≤ 128 = omega (arith, ap length c.book.ensures, c.len.ensures.count, c.len.ensures.room) in
    let all = view_range s k a c.args.side _ after n few c.args.session.now.orderly c.in-Ok.ensures.view in
    let back = all_back FewUnits (book_line k a) (λ x. book_back k a x (contract_few s k c.requires.open) c.requires.area) (take n after) all in
    view_heard g.S.TextSink.hears g.S.TextSink.whole (book_line k a) book_before (area_tests s k a) (BookLines s k a c.args.side) _ after n c.args.out.now c.loop-line.out c.in-Ok.ensures.view back
    (all_heard g.S.TextSink.hears g.S.TextSink.whole (book_line k a) (take n after) c.loop-line.line-index c.args.out.now c.loop-line.out c.loop-line-test.false c.loop-line.invariant)
