-- The turns of a table's rows are all that their calls make.
use Rattle.std.proofs.Common.{ℕ, List, [], ◌∷◌, map, reverse, refl, sym, ap, ◌∙◌}
use Rattle.std.proofs.lemmas.List.{reverse-reverse}
use Rattle.capacity.specs.Meaning.{Capacity}
use Rattle.session.specs.State.{State, fresh}
use Rattle.events.specs.declared.events.Event.{Event}
use Rattle.events.specs.Turns.{Turned, with_turn}
use Rattle.player.proofs.Once.{one_played}
use Rattle.player.specs.Playing.{Played, placed}
use Rattle.trials.specs.Rows.{Row, calls_in, with_rows, Comes}

-- a turn for each row, one after another
abbrev pub Through : ℕ → State → List Row → Type 0
Through p s [] = Unit {0}
Through p s (r ∷ rs) = (u : State) × Turned s p r.call r.answer r.trades u × Through p u rs

played : (p : ℕ) (s : State) (h : List Event) (rows : List Row) → Through p s rows → (t : State) × Played p s h (calls_in rows) t (with_rows p rows h)
played p s h [] x = (s, (refl, refl))
played p s h (r ∷ rs) (u, turn, rest) =
    let more = played p u (with_turn p r.call r.answer (map placed r.trades) h) rs rest in
    (more.0, (r.answer, r.trades, u, (turn, more.1)))

-- the turns of the rows are all that their calls make
pub comes : (m : Capacity) (rows : List Row) → ((n : ℕ) → Through n (fresh n m) rows) → Comes m rows
comes m rows turns =
    let made = λ (n : ℕ). played n (fresh n m) [] rows (turns n) in
    record {
      made = made;
      only = λ n es h. sym (reverse-reverse es) ∙ ap reverse (one_played n (fresh n m) [] (calls_in rows) h.after (made n).0 (reverse es) (with_rows n rows []) h.turns (made n).1).0;
    }
