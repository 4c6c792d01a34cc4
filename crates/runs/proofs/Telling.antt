-- What the lines come to is a history, and a lawful one.
use Rattle.std.proofs.Common.{ℕ, List, [], ◌∷◌, sym, refl, subst}
use Rattle.capacity.specs.Meaning.{Capacity, Sound}
use Rattle.session.specs.State.{State, fresh}
use Rattle.events.specs.declared.events.Event.{Event}
use Rattle.reading.specs.Printing.{Line}
use Rattle.history.specs.History.{Reached}
use Rattle.history.proofs.Together.{lawfully}
use Rattle.history.proofs.Turning.{turned_reached}
use Rattle.runs.specs.Lines.{Outcome, unread, turn, session_number, LinesCome, events}
use Rattle.runs.specs.Runs.{CallLines}
use Rattle.runs.specs.Running.{Turns}

lines_reached : (m : Capacity) (ls : List (List ℕ)) (os : List Outcome) (h : List Event) (s t : State) → Reached m session_number h s → LinesCome s ls os t → Reached m session_number (events os h) t
lines_reached m [] os h s t so (e, f) = subst (λ (x : List Outcome). Reached m session_number (events x h) t) (sym e) (subst (λ (u : State). Reached m session_number h u) (sym f) so)
lines_reached m (l ∷ ls) [] h s t so r = absurd r
lines_reached m (l ∷ ls) (unread e ∷ os) h s t so (u, line, rest) = lines_reached m ls os h u t (subst (λ (x : State). Reached m session_number h x) (sym line.1) so) rest
lines_reached m (l ∷ ls) (turn k a xs r ∷ os) h s t so (u, line, rest) = lines_reached m ls os _ u t (turned_reached m session_number session_number h s u k a xs so line.1) rest

-- the turns of a session begun afresh over a register that means m
pub told : (m : Capacity) → Sound m → (n : ℕ) (ls : List (List ℕ)) (t : State) (out : List Line) → Turns (fresh session_number m) n ls t out → CallLines m n ls t out
told m sound n ls t out r = record {
  outcomes = r.outcomes;
  each = r.each;
  printed = r.printed;
  lawful = lawfully m session_number (events r.outcomes []) t sound (lines_reached m ls r.outcomes [] (fresh session_number m) t refl r.each);
}
