-- Each turn adds its call to those played; in the end all are, and the session gives its register back.
use Rattle.std.proofs.Common.{◌∙◌, sym, subst}
use Rattle.history.proofs.Once.{one_answer}
use Rattle.history.proofs.Together.{laws_hold}
use Rattle.history.proofs.Told.{standing_told}
use Rattle.session.specs.State.{register_of}
use Rattle.player.proofs.Ending.{comes_back, comes_out, whole}
use Rattle.player.proofs.Hearing.{one_more}
use Rattle.player.proofs.Once.{one_playing}
use Rattle.player.proofs.playing.play_into.Goals as goal

pub loop-call-preserved : goal.loop-call-preserved
loop-call-preserved g c =
    let inv = c.loop-call.invariant in
    let done = c.take_turn-pass.ensures in
    record {
      told = done.told ∙ inv.told;
      pass = done.pass ∙ inv.pass;
      memory = g.R.Register.chains.next _ _ _ inv.memory done.memory;
      so_far = one_more g.S.EventSink.hears _ _ _ _ _ _ _ _ _ _ _ c.loop-call-test.true inv.pass inv.so_far done.turn;
    }

pub unwrap-register-requires : goal.unwrap-register-requires
unwrap-register-requires g c =
    let meaning = g.R.Register.meaning in
    (comes_back g.S.EventSink.hears (meaning c.args.register) _ _ _ _ _ _ _ c.begin-session.ensures.after c.loop-call-test.false c.loop-call.invariant.so_far
    meaning _ _ c.loop-call.invariant.pass c.end.ensures.ended).0

pub returns-clause-history : goal.returns-clause-history
returns-clause-history g c =
    let meaning = g.R.Register.meaning in
    let back =
    comes_back g.S.EventSink.hears (meaning c.args.register) _ _ _ _ _ _ _ c.begin-session.ensures.after c.loop-call-test.false c.loop-call.invariant.so_far
    meaning _ _ c.loop-call.invariant.pass c.end.ensures.ended in
    whole g.S.EventSink.hears _ _ _ _ _ _ _ _ c.begin-session.ensures.after c.loop-call-test.false c.loop-call.invariant.so_far
    _ (g.R.Register.sound c.args.register) (back.1 _ c.unwrap-register.ensures)

pub returns-clause-memory : goal.returns-clause-memory
returns-clause-memory g c =
    let leaves = g.R.Register.leaves in
    let first = subst (λ r. leaves r (register_of c.loop-call.session)) c.begin-session.ensures.register c.loop-call.invariant.memory in
    subst (leaves c.args.register) (sym (comes_out _ _ c.end.ensures.register _ c.unwrap-register.ensures)) first

pub returns-clause-only : goal.returns-clause-only
returns-clause-only g c = one_playing _ _ _

pub returns-clause-laws : goal.returns-clause-laws
returns-clause-laws g c = laws_hold

pub returns-clause-standing : goal.returns-clause-standing
returns-clause-standing g c = standing_told

pub returns-clause-once : goal.returns-clause-once
returns-clause-once g c = one_answer
