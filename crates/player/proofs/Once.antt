-- What a list of calls makes is one list of events, and leads to one state.
use Rattle.std.proofs.Common.{◌≡◌, ℕ, List, [], ◌∷◌, map, reverse, sym, ap, ◌∙◌, subst}
use Rattle.std.proofs.lemmas.List.{reverse-reverse}
use Rattle.capacity.specs.Meaning.{Capacity}
use Rattle.session.specs.Rounds.{Logged}
use Rattle.session.specs.State.{State, fresh}
use Rattle.events.specs.declared.calls.Call.{Call}
use Rattle.events.specs.declared.events.Event.{Event}
use Rattle.events.specs.Events.{Answer}
use Rattle.events.specs.Turns.{with_turn}
use Rattle.history.proofs.OneTurn.{one_turn}
use Rattle.player.specs.Playing.{Played, OnePlaying, placed}

pub one_played : (p : ℕ) (s : State) (h : List Event) (ks : List Call) (t u : State) (f g : List Event) → Played p s h ks t f → Played p s h ks u g → (f ≡ g) × (t ≡ u)
one_played p s h [] t u f g (e, x) (d, y) = (x ∙ sym y, e ∙ sym d)
one_played p s h (k ∷ ks) t u f g (a, xs, v, (turn, rest)) (b, ys, w, (turn', rest')) =
    let same = one_turn s p k a b xs ys v w turn turn' in
    let events : with_turn p k a (map placed xs) h ≡ with_turn p k b (map placed ys) h =
    ap (λ (c : Answer). with_turn p k c (map placed xs) h) same.0 ∙ ap (λ (zs : List Logged). with_turn p k b (map placed zs) h) same.1 in
    let from_here : Played p v (with_turn p k b (map placed ys) h) ks u g = subst (λ (q : State). Played p q (with_turn p k b (map placed ys) h) ks u g) (sym same.2) rest' in
    one_played p v (with_turn p k a (map placed xs) h) ks t u f g rest (subst (λ (l : List Event). Played p v l ks u g) (sym events) from_here)

-- of two lists oldest first
pub one_list : (es fs : List Event) → reverse es ≡ reverse fs → es ≡ fs
one_list es fs e = sym (reverse-reverse es) ∙ ap reverse e ∙ reverse-reverse fs

pub one_playing : (m : Capacity) (n : ℕ) (ks : List Call) → OnePlaying m n ks
one_playing m n ks es fs h k =
    let same = one_played n (fresh n m) [] ks h.after k.after (reverse es) (reverse fs) h.turns k.turns in
    (one_list es fs same.0, same.1)
