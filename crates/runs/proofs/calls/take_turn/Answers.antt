-- What was asked for is made a turn, and its trades are heard; or nothing is.
use Rattle.session.specs.State.{state, register_of}
use Rattle.runs.proofs.Printing.{turn_run, unread_run}
use Rattle.runs.proofs.calls.take_turn.Goals as goal

pub returns-in-Ok-clause-turn : goal.returns-in-Ok-clause-turn
returns-in-Ok-clause-turn g c =
    turn_run g.S.TextSink.hears g.S.TextSink.whole (state g.R.Register.meaning c.args.session.now) (state g.R.Register.meaning c.perform-answer.new.session) c.args.pass.number c.args.reader.now c.asked.new.reader c.in-Ok.call c.perform-answer.result.0 c.accepted.result c.args.out.now c.perform-answer.new.log
    c.accepted.ensures c.in-Ok.ensures.asked.0 c.in-Ok.ensures.asked.1 c.perform-answer.ensures.performed

pub returns-in-Err-clause-turn : goal.returns-in-Err-clause-turn
returns-in-Err-clause-turn g c =
    unread_run g.S.TextSink.hears g.S.TextSink.whole (state g.R.Register.meaning c.args.session.now) c.args.pass.number c.args.reader.now c.asked.new.reader c.in-Err.ensures.asked.0 c.in-Err.fault c.args.out.now.sink
    c.in-Err.ensures.asked.1.0 c.in-Err.ensures.asked.1.1 c.in-Err.ensures.asked.1.2

pub returns-in-Err-clause-memory : goal.returns-in-Err-clause-memory
returns-in-Err-clause-memory g c = g.R.Register.chains.none (register_of c.args.session.now)
