-- What happens carries every history on.
use Rattle.std.proofs.Common.{◌∷◌}
use Rattle.session.specs.State.{State}
use Rattle.events.specs.declared.events.Event.{Event}
use Rattle.events.specs.Events.{Happens}
use Rattle.history.specs.History.{Reached}
use Rattle.history.specs.Extending.{Extends}
use Rattle.history.proofs.Together.{laws_hold}

pub extends : (s : State) (e : Event) (t : State) → Happens s e t → Extends s e t
extends s e t x m n h sound so =
    let on : Reached m n (e ∷ h) t = (s, so, x) in
    (on, laws_hold m n (e ∷ h) t sound on)
