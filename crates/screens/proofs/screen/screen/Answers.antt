-- The capacity view is followed by each area's buys and sells, and nothing else is heard of the contract.
use Rattle.std.proofs.Common.{ℕ, List, subst, arith}
use Rattle.std.specs.List.{AllByRecursion}
use Rattle.reading.specs.Printing.{Line, LineReadsBack}
use Rattle.session.specs.State.{State, state}
use Rattle.screens.proofs.Areas.{Below, none_below, area_more}
use Rattle.screens.proofs.Once.{one_screen}
use Rattle.screens.proofs.screen.screen.Goals as goal

pub returns-in_err-check_view-clause-only : goal.returns-in_err-check_view-clause-only
returns-in_err-check_view-clause-only g c = one_screen (state g.R.Register.meaning c.args.session.now) c.args.contract

pub loop-area-init : goal.loop-area-init
loop-area-init g c =
    none_below g.S.TextSink.hears g.S.TextSink.whole (state g.R.Register.meaning c.args.session.now) c.args.contract c.args.out.now c.print_capacities.new.out c.print_capacities.ensures

pub loop-area-preserved : goal.loop-area-preserved
loop-area-preserved g c =
    area_more g.S.TextSink.hears g.S.TextSink.whole (state g.R.Register.meaning c.args.session.now) c.args.contract c.loop-area.area c.args.out.now c.loop-area.out c.print_book.new.out c.print_book-in-loop-area.new.out c.loop-area.invariant c.print_book.ensures c.print_book-in-loop-area.ensures

pub returns-clause-only : goal.returns-clause-only
returns-clause-only g c = one_screen (state g.R.Register.meaning c.args.session.now) c.args.contract

pub returns-clause-back : goal.returns-clause-back
returns-clause-back g c ls h =
    let s : State = state g.R.Register.meaning c.args.session.now in
    let below = subst (λ (n : ℕ). Below g.S.TextSink.hears g.S.TextSink.whole s c.args.contract n c.args.out.now c.loop-area.out) (omega (arith, c.loop-area-test.false, c.loop-area.auto.area-end)) c.loop-area.invariant in
    subst (λ (ms : List Line). AllByRecursion LineReadsBack ms) (one_screen s c.args.contract below.0 ls below.1 h) below.2
