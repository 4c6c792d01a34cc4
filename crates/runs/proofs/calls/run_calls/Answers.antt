-- Each line carries the session on, and what the lines print is the printed form of a lawful history.
use Rattle.std.proofs.Common.{◌+◌, ◌∙◌, subst}
use Rattle.session.specs.State.{State, state}
use Rattle.reading.specs.Reading.{below}
use Rattle.runs.specs.Running.{Allowing, TurnsBelow}
use Rattle.runs.proofs.Printing.{none_printed, one_line, line_more, lines_done}
use Rattle.runs.proofs.Telling.{told}
use Rattle.runs.proofs.calls.run_calls.Goals as goal

pub loop-pass-init : goal.loop-pass-init
loop-pass-init g c =
    (none_printed g.S.TextSink.hears g.S.TextSink.whole (TurnsBelow (state g.R.Register.meaning c.begin-session.result.0) c.args.reader.now) c.args.out.now.sink, c.begin-session.ensures.pass)

pub loop-pass-preserved : goal.loop-pass-preserved
loop-pass-preserved g c =
    let P : Allowing = TurnsBelow (state g.R.Register.meaning c.begin-session.result.0) c.args.reader.now in
    let l = c.run_line.ensures in
    let one = one_line c.loop-pass.reader c.next_line.new.self c.run_line.new.reader c.loop-pass-test.ensures l.stays in (
      line_more g.S.TextSink.hears g.S.TextSink.whole P _ _ c.loop-pass.pass.number c.loop-pass.reader c.next_line.new.self c.run_line.new.reader c.run_line.result.0 c.args.out.now.sink c.loop-pass.out.sink c.run_line.new.out.sink
          c.loop-pass.invariant.0 c.loop-pass.invariant.1 one l.line,
      l.pass ∙ c.loop-pass.invariant.1,
    )

pub returns : goal.returns
returns g c =
    let m = g.R.Register.meaning c.args.register in
    let P : Allowing = TurnsBelow (state g.R.Register.meaning c.begin-session.result.0) c.args.reader.now in
    let t = state g.R.Register.meaning c.loop-pass.session in
    let all = lines_done g.S.TextSink.hears g.S.TextSink.whole P t c.loop-pass.reader c.next_line.new.self c.args.out.now.sink c.loop-pass.out.sink c.loop-pass.invariant.0 c.loop-pass-test.ensures in
    let turns = subst (λ (s : State). TurnsBelow s c.args.reader.now t all.0) c.begin-session.ensures.after all.1.1 in
    (all.0, (all.1.0, told m (g.R.Register.sound c.args.register) (c.args.reader.now.lines + 1) (below c.args.reader.now) t all.0 turns))
