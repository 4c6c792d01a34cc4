-- What the lines so far have printed, and what may follow.
use Rattle.std.proofs.Common.{◌≡◌, length}
use Rattle.session.specs.State.{state}
use Rattle.reading.specs.Reading.{below}
use Rattle.runs.specs.Running.{PrintsSome, TurnsBelow}
use Rattle.runs.proofs.calls.run_calls.Given as goal

abbrev pub invariant-loop-pass : goal.invariant-loop-pass
invariant-loop-pass g l =
    PrintsSome g.S.TextSink.hears (TurnsBelow (state g.R.Register.meaning l.initial.session) l.initial.reader) (TurnsBelow (state g.R.Register.meaning l.session) l.reader) l.initial.out.sink l.out.sink
    × (l.pass.number ≡ 1)

abbrev pub decreases-loop-pass : goal.decreases-loop-pass
decreases-loop-pass g l = length (below l.reader)
