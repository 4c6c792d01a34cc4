-- Turns one after another: what they reach, that they leave the session quiet, and their calls.
use Rattle.std.proofs.Common.{◌≡◌, ℕ, Bool, true, false, cond, List, [], ◌∷◌, ◌++◌, map, reverse, Some, None, Ok, sym, refl, ap, ◌∙◌, subst}
use Rattle.std.proofs.lemmas.List.{append-nil, append_assoc, reverse-append, reverse-reverse}
use Rattle.capacity.specs.Meaning.{Capacity, Sound}
use Rattle.session.specs.Rounds.{Logged, Ran}
use Rattle.session.specs.State.{State, fresh}
use Rattle.events.specs.declared.calls.Call.{Call}
use Rattle.events.specs.declared.events.Event.{Event}
use Rattle.events.specs.declared.events.Event.TheVariants.{Called, Stepped}
use Rattle.events.specs.Events.{Answer, round_follows}
use Rattle.events.specs.Turns.{Follows, Turned, with_steps, with_turn}
use Rattle.events.proofs.Placing.{told_whole}
use Rattle.events.proofs.Tests.{none_begun, same_number}
use Rattle.history.specs.History.{Reached}
use Rattle.history.proofs.Together.{lawfully}
use Rattle.history.proofs.Turning.{turned_placed}
use Rattle.player.specs.Playing.{placed, Played, GivesBack, calls_of}

played_reached : (m : Capacity) (n p : ℕ) (s : State) (h : List Event) (ks : List Call) (t : State) (g : List Event) → Reached m n h s → Played p s h ks t g → Reached m n g t
played_reached m n p s h [] t g r (e, f) = subst (λ (x : List Event). Reached m n x t) (sym f) (subst (Reached m n h) (sym e) r)
played_reached m n p s h (k ∷ ks) t g r (a, xs, u, (turn, rest)) =
    played_reached m n p u (with_turn p k a (map placed xs) h) ks t g (turned_placed placed told_whole m n p h s u k a xs r turn) rest

-- ---- quiet, and of the same number

abbrev Quiet : State → State → Type 0
Quiet s t = (t.round ≡ None) × (t.number ≡ s.number)

ran_quiet : (s : State) (xs : List Logged) (t : State) → Ran s xs t → Quiet s t
ran_quiet s [] t r = (ap (λ (u : State). u.round) r.state, ap (λ (u : State). u.number) r.state)
ran_quiet s (x ∷ xs) t (u, makes, rest) = let q = ran_quiet u xs t rest in (q.0, q.1 ∙ ap (λ (v : State). v.number) makes.state)

followed_quiet : (b : Bool) (s : State) (xs : List Logged) (t : State) → (b ≡ false → s.round ≡ None) → Follows b s xs t → Quiet s t
followed_quiet true s xs t q f = ran_quiet s xs t f
followed_quiet false s xs t q f = (ap (λ (u : State). u.round) f.1 ∙ q refl, ap (λ (u : State). u.number) f.1)

turned_quiet : (s : State) (p : ℕ) (k : Call) (a : Answer) (xs : List Logged) (t : State) → s.round ≡ None → Turned s p k a xs t → Quiet s t
turned_quiet s p k a xs t q turn =
    let f = followed_quiet (round_follows k a) turn.called xs t (λ b. none_begun s p k a turn.called turn.answered b ∙ q) turn.followed in
    (f.0, f.1 ∙ same_number s p k a turn.called turn.answered)

pub played_quiet : (p : ℕ) (s : State) (h : List Event) (ks : List Call) (t : State) (g : List Event) → s.round ≡ None → Played p s h ks t g → Quiet s t
played_quiet p s h [] t g q (e, f) = (ap (λ (u : State). u.round) e ∙ q, ap (λ (u : State). u.number) e)
played_quiet p s h (k ∷ ks) t g q (a, xs, u, (turn, rest)) =
    let one = turned_quiet s p k a xs u q turn in
    let more = played_quiet p u (with_turn p k a (map placed xs) h) ks t g one.0 rest in
    (more.0, more.1 ∙ one.1)

-- ---- the calls

calls_append : (xs ys : List Event) → calls_of (xs ++ ys) ≡ calls_of xs ++ calls_of ys
calls_append [] ys = refl
calls_append (Called p k a ∷ xs) ys = ap (λ (r : List Call). k ∷ r) (calls_append xs ys)
calls_append (Stepped p z a ∷ xs) ys = calls_append xs ys

-- the calls of a history, oldest first
abbrev made : List Event → List Call
made h = calls_of (reverse h)

made_newest : (e : Event) (h : List Event) → made (e ∷ h) ≡ made h ++ calls_of (e ∷ [])
made_newest e h = ap calls_of (reverse-append (e ∷ []) h) ∙ calls_append (reverse h) (e ∷ [])

made_steps : (p : ℕ) (xs : List Logged) (h : List Event) → made (with_steps p xs h) ≡ made h
made_steps p [] h = made_newest (Stepped p 16 (Ok None)) h ∙ append-nil (made h)
made_steps p (x ∷ xs) h =
    let e = Stepped p 16 (Ok (Some (record { trade = x.trade; route = x.route }))) in
    made_steps p xs (e ∷ h) ∙ made_newest e h ∙ append-nil (made h)

made_turn : (p : ℕ) (k : Call) (a : Answer) (xs : List Logged) (h : List Event) → made (with_turn p k a xs h) ≡ made h ++ k ∷ []
made_turn p k a xs h = by_case (round_follows k a) ∙ made_newest (Called p k a) h
  where
    by_case : (b : Bool) → made (cond b (with_steps p xs (Called p k a ∷ h)) (Called p k a ∷ h)) ≡ made (Called p k a ∷ h)
    by_case true = made_steps p xs (Called p k a ∷ h)
    by_case false = refl

played_made : (p : ℕ) (s : State) (h : List Event) (ks : List Call) (t : State) (g : List Event) → Played p s h ks t g → made g ≡ made h ++ ks
played_made p s h [] t g (e, f) = ap made f ∙ sym (append-nil (made h))
played_made p s h (k ∷ ks) t g (a, xs, u, (turn, rest)) =
    played_made p u (with_turn p k a (map placed xs) h) ks t g rest
    ∙ ap (λ (r : List Call). r ++ ks) (made_turn p k a (map placed xs) h)
    ∙ append_assoc (made h) (k ∷ []) ks

-- ---- one turn more, and all of them

pub played_more : (p : ℕ) (s : State) (h : List Event) (ks : List Call) (t : State) (g : List Event) (k : Call) (a : Answer) (xs : List Logged) (u : State)
    → Played p s h ks t g → Turned t p k a xs u → Played p s h (ks ++ k ∷ []) u (with_turn p k a (map placed xs) g)
played_more p s h [] t g k a xs u (e, f) turn =
    (a, xs, u, (subst (λ (v : State). Turned v p k a xs u) e turn, (refl, ap (λ (x : List Event). with_turn p k a (map placed xs) x) f)))
played_more p s h (j ∷ ks) t g k a xs u (b, ys, v, (first, rest)) turn =
    (b, ys, v, (first, played_more p v (with_turn p j b (map placed ys) h) ks t g k a xs u rest turn))

-- a history of them, and what it leaves of the register
pub gives_back : (m : Capacity) (n : ℕ) (ks : List Call) (t : State) (es : List Event) (c : Capacity) → Sound m → Played n (fresh n m) [] ks t (reverse es) → c ≡ t.capacity → GivesBack m n ks es c
gives_back m n ks t es c sound h e = record {
  plays = record {
    after = t;
    turns = h;
    lawful = lawfully m n (reverse es) t sound (played_reached m n n (fresh n m) [] ks t (reverse es) refl h);
    quiet = (played_quiet n (fresh n m) [] ks t (reverse es) refl h).0;
  };
  calls = ap calls_of (sym (reverse-reverse es)) ∙ played_made n (fresh n m) [] ks t (reverse es) h;
  register = e;
}
