-- A session's history: its events, newest first, and the states that they lead to.
use Rattle.std.specs.Prelude.{◌≡◌, ℕ, List, [], ◌∷◌}
use Rattle.capacity.specs.Meaning.{Capacity}
use Rattle.session.specs.State.{State, fresh}
use Rattle.events.specs.declared.events.Event.{Event}
use Rattle.events.specs.Events.{Happens}

-- a session of number n, begun afresh over a register that means m, has come by these events to this state
abbrev pub Reached : Capacity → ℕ → List Event → State → Type 0
Reached m n [] s = s ≡ fresh n m
Reached m n (e ∷ h) t = (s : State) × Reached m n h s × Happens s e t
