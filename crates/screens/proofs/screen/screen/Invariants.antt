-- The capacity view and the areas so far are heard.
use Rattle.session.specs.State.{state}
use Rattle.screens.proofs.Areas.{Below}
use Rattle.screens.proofs.screen.screen.Given as goal

abbrev pub invariant-loop-area : goal.invariant-loop-area
invariant-loop-area g l =
    Below g.S.TextSink.hears g.S.TextSink.whole (state g.R.Register.meaning l.session) l.contract l.area l.fn.out l.out
