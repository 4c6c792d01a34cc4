-- The events that a list of calls makes on a session begun afresh.
use Rattle.std.specs.Prelude.{◌≡◌, ℕ, List, [], ◌∷◌, map, reverse, None}
use Rattle.capacity.specs.Meaning.{Capacity}
use Rattle.session.specs.Rounds.{Logged}
use Rattle.session.specs.State.{State, fresh}
use Rattle.events.specs.declared.calls.Call.{Call}
use Rattle.events.specs.declared.events.Event.{Event}
use Rattle.events.specs.declared.events.Event.TheVariants.{Called, Stepped}
use Rattle.events.specs.Events.{Answer, places}
use Rattle.events.specs.Turns.{Turned, with_turn}
use Rattle.history.specs.Laws.{Lawfully}

abbrev pub placed : Logged → Logged
placed x = record { trade = x.trade; route = places x.route }

-- From s and the events h, newest first, these calls are made in turn with a pass of number p, each round run to its end; then t
-- stands, and the events are g.
abbrev pub Played : ℕ → State → List Event → List Call → State → List Event → Type 0
Played p s h [] t g = (t ≡ s) × (g ≡ h)
Played p s h (k ∷ ks) t g = (a : Answer) × (xs : List Logged) × (u : State) × (Turned s p k a xs u × Played p u (with_turn p k a (map placed xs) h) ks t g)

-- The calls, made on a session of number n begun afresh over a register that means m, make these events, oldest first: a history
-- that is lawful at every point of it and leaves the session quiet.
pub record Plays (m : Capacity) (n : ℕ) (ks : List Call) (es : List Event) : Type 0 where
  pub after : State
  pub turns : Played n (fresh n m) [] ks after (reverse es)
  pub lawful : Lawfully m n (reverse es) after
  pub quiet : after.round ≡ None

-- the calls among the events
abbrev pub calls_of : List Event → List Call
calls_of [] = []
calls_of (Called p k a ∷ es) = k ∷ calls_of es
calls_of (Stepped p z a ∷ es) = calls_of es

-- The calls make these events, and the register that is given back then means c: what their history leads to.
pub record GivesBack (m : Capacity) (n : ℕ) (ks : List Call) (es : List Event) (c : Capacity) : Type 0 where
  pub plays : Plays m n ks es
  pub calls : calls_of es ≡ ks
  pub register : c ≡ plays.after.capacity

-- the calls make one list of events, which leads to one state
abbrev pub OnePlaying : Capacity → ℕ → List Call → Type 0
OnePlaying m n ks = (es fs : List Event) (h : Plays m n ks es) (k : Plays m n ks fs) → (es ≡ fs) × (h.after ≡ k.after)
