-- Any caller's session: each event carries every history of it on.
use Rattle.std.specs.Prelude.{ℕ, List, ◌∷◌}
use Rattle.capacity.specs.Meaning.{Capacity, Sound}
use Rattle.session.specs.declared.state.Session.{Session}
use Rattle.session.specs.State.{State, state}
use Rattle.events.specs.declared.events.Event.{Event}
use Rattle.history.specs.History.{Reached}
use Rattle.history.specs.Laws.{Lawful}

-- By whatever events a session begun afresh, with any number and over any register, has come to s: with this one it has come to t, and
-- the laws hold there.
abbrev pub Extends : State → Event → State → Type 0
Extends s e t = (m : Capacity) (n : ℕ) (h : List Event) → Sound m → Reached m n h s → Reached m n (e ∷ h) t × Lawful m (e ∷ h) t

-- the same of a session
module _ {R : Type 0} (meaning : R → Capacity) where
  abbrev pub ExtendsOn : Session R → Event → Session R → Type 0
  ExtendsOn before e after = Extends (state meaning before) e (state meaning after)
