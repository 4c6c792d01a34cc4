-- What holds between the trades of a round, and what falls with each.
use Rattle.std.proofs.Common.{◌≡◌, length}
use Rattle.book.specs.Places.{orders}
use Rattle.session.specs.State.{state, register_of}
use Rattle.session.proofs.Falling.{total_open}
use Rattle.session.proofs.Running.{Going}
use Rattle.session.proofs.state.Session.finish_round.Given as goal

abbrev pub invariant-loop-trade : goal.invariant-loop-trade
invariant-loop-trade g l =
    (length l.places ≡ 16)
    × g.R.Register.leaves (register_of l.initial.self) (register_of l.self)
    × (l.pass.number ≡ l.initial.pass.number)
    × Going g.L.TradeLog.notes (state g.R.Register.meaning l.initial.self) l.initial.pass.number l.initial.log l.log (state g.R.Register.meaning l.self)

abbrev pub decreases-loop-trade : goal.decreases-loop-trade
decreases-loop-trade g l = total_open (orders l.self.book)
