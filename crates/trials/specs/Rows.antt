-- A worked round as a table: each call of a session, how it is answered, and what its round trades.
use Rattle.std.specs.Prelude.{◌≡◌, ℕ, List, [], ◌∷◌, map, reverse}
use Rattle.capacity.specs.Meaning.{Capacity}
use Rattle.session.specs.Rounds.{Logged}
use Rattle.session.specs.State.{State, fresh}
use Rattle.events.specs.declared.calls.Call.{Call}
use Rattle.events.specs.declared.events.Event.{Event}
use Rattle.events.specs.Events.{Answer}
use Rattle.events.specs.Turns.{with_turn}
use Rattle.player.specs.Playing.{Played, Plays, placed}

pub record Row : Type 0 where
  pub call : Call
  pub answer : Answer
  pub trades : List Logged

abbrev pub row : Call → Answer → List Logged → Row
row k a xs = record { call = k; answer = a; trades = xs }

abbrev pub calls_in : List Row → List Call
calls_in = map (λ r. r.call)

-- the events of the rows, made with a pass of number p, added to those before them, newest first
abbrev pub with_rows : ℕ → List Row → List Event → List Event
with_rows p [] h = h
with_rows p (r ∷ rs) h = with_rows p rs (with_turn p r.call r.answer (map placed r.trades) h)

-- the events of the rows, oldest first
abbrev pub events_of : ℕ → List Row → List Event
events_of p rows = reverse (with_rows p rows [])

-- The calls of the rows, made on a session of any number begun afresh over any register that means m, can be answered as the rows say
-- and their rounds trade what the rows say, and no other events can come.
pub record Comes (m : Capacity) (rows : List Row) : Type 0 where
  pub made : (n : ℕ) → (t : State) × Played n (fresh n m) [] (calls_in rows) t (with_rows n rows [])
  pub only : (n : ℕ) (es : List Event) → Plays m n (calls_in rows) es → es ≡ events_of n rows
