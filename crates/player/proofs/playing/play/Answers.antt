-- What was heard is what is held.
use Rattle.std.proofs.Common.{◌≡◌, List}
use Rattle.events.specs.declared.events.Event.{Event}
use Rattle.player.specs.Playing.{Plays, calls_of}
use Rattle.player.proofs.Holding.{held}
use Rattle.player.proofs.playing.play.Goals as goal

pub returns : goal.returns
returns g c =
    let m = g.R.Register.meaning c.args.register in
    let did = c.play_into-register.ensures in
    let heard = did.history in
    record {
      history = held (λ (es : List Event). Plays m c.args.number c.args.calls.now es) _ _ heard.0 c.new.ensures heard.2 heard.1.plays;
      played = held (λ (es : List Event). calls_of es ≡ c.args.calls.now) _ _ heard.0 c.new.ensures heard.2 heard.1.calls;
      register = (heard.0, heard.1);
      memory = did.memory;
      only = did.only;
      laws = did.laws;
      standing = did.standing;
      once = did.once;
    }
