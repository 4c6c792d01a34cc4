-- A turn, and then its last line; that a line has one outcome; and that a refused one changes nothing.
use Rattle.session.specs.State.{state}
use Rattle.reading.specs.Reading.{ahead}
use Rattle.runs.proofs.Once.{one_outcome}
use Rattle.runs.proofs.Printing.{line_run}
use Rattle.runs.proofs.Refused.{line_refused}
use Rattle.runs.proofs.calls.run_line.Goals as goal

pub returns-clause-line : goal.returns-clause-line
returns-clause-line g c =
    line_run g.S.TextSink.hears g.S.TextSink.whole (state g.R.Register.meaning c.args.session.now) (state g.R.Register.meaning c.take_turn-answer.new.session) c.args.pass.number c.line_number-line.result c.resting.result c.args.reader.now c.take_turn-answer.new.reader c.take_turn-answer.result.0 c.args.out.now.sink c.take_turn-answer.new.out.sink c.print_answer.new.out
    c.take_turn-answer.ensures.turn c.line_number-line.ensures c.resting.ensures.count c.print_answer.ensures

pub returns-clause-only : goal.returns-clause-only
returns-clause-only g c = one_outcome c.args.pass.number c.args.reader.now.words (state g.R.Register.meaning c.args.session.now) (ahead c.args.reader.now)

pub returns-clause-refused : goal.returns-clause-refused
returns-clause-refused g c =
    let turn = c.take_turn-answer.ensures.turn in
    line_refused c.args.pass.number c.args.reader.now.words (state g.R.Register.meaning c.args.session.now) (state g.R.Register.meaning c.take_turn-answer.new.session) (ahead c.args.reader.now) turn.outcome c.take_turn-answer.result.0 turn.answered turn.comes
