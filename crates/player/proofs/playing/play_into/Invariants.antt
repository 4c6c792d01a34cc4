-- What holds between two turns: the calls so far are played, and their events heard.
use Rattle.std.proofs.Common.{◌≡◌, take}
use Rattle.session.specs.State.{state, register_of}
use Rattle.player.proofs.Hearing.{SoFar}
use Rattle.player.proofs.playing.play_into.Given as goal

abbrev pub invariant-loop-call : goal.invariant-loop-call
invariant-loop-call g l = record {
  told : l.telling.pass ≡ l.number;
  pass : l.pass.number ≡ l.number;
  memory : g.R.Register.leaves (register_of l.initial.session) (register_of l.session);
  so_far : SoFar g.S.EventSink.hears l.number (state g.R.Register.meaning l.initial.session) (take l.call-index l.calls) (state g.R.Register.meaning l.session) l.initial.telling.sink l.telling.sink;
}
