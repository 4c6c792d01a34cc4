-- What a sink hears.
use Rattle.std.specs.Prelude.{◌≡◌, ℕ, List, [], ◌∷◌, map, reverse, Some, Ok}
use Rattle.session.specs.Rounds.{Logged}
use Rattle.session.specs.State.{State}
use Rattle.events.specs.declared.calls.Call.{Call}
use Rattle.events.specs.declared.events.Event.{Event}
use Rattle.events.specs.declared.events.Event.TheVariants.{Stepped}
use Rattle.events.specs.Events.{Answer, in_places}
use Rattle.events.specs.Turns.{Turned, with_turn}
use Rattle.player.specs.Playing.{placed}

-- these events are heard one after another, where H says what hearing one makes of a sink
abbrev pub Heard : {S : Type 0} → (S → Event → S → Type 0) → S → List Event → S → Type 0
Heard H a [] b = b ≡ a
Heard {S} H a (e ∷ es) b = (m : S) × H a e m × Heard H m es b

-- ---- for the contracts of the private functions

-- a trade of a round as an event
abbrev pub trade_event : ℕ → Logged → Event
trade_event p x = Stepped p 16 (Ok (Some (in_places x)))

-- a turn is taken from s to t, and its events are heard after all that were, h, newest first
pub record TurnHeard {S : Type 0} (H : S → Event → S → Type 0) (s : State) (p : ℕ) (k : Call) (a b : S) (t : State) : Type 0 where
  pub answer : Answer
  pub trades : List Logged
  pub turn : Turned s p k answer trades t
  pub heard : (o : S) (h : List Event) → Heard H o (reverse h) a → Heard H o (reverse (with_turn p k answer (map placed trades) h)) b
