-- The events of a turn carry a history on.
use Rattle.std.proofs.Common.{◌≡◌, ℕ, ◌≤◌, Bool, true, false, cond, List, [], ◌∷◌, map, length, Some, Ok, sym, refl, ap, subst, arith}
use Rattle.std.proofs.lemmas.List.{take_all, map-id}
use Rattle.capacity.specs.Meaning.{Capacity}
use Rattle.capacity.specs.Tests.{answered}
use Rattle.session.specs.Rounds.{Logged, Makes, Ran}
use Rattle.session.specs.State.{State}
use Rattle.session.specs.Steps.{round_here, step_tests}
use Rattle.events.specs.declared.calls.Call.{Call}
use Rattle.events.specs.declared.events.Event.{Event}
use Rattle.events.specs.declared.events.Event.TheVariants.{Called, Stepped}
use Rattle.events.specs.Events.{Answer, logged, round_follows}
use Rattle.events.specs.Turns.{Follows, Turned, with_steps, with_turn}
use Rattle.events.proofs.Tests.{round_begun}
use Rattle.history.specs.History.{Reached}

-- a step over 16 places in a round is not refused
step_passes : (s : State) (p : ℕ) → round_here s p ≡ true → answered (step_tests s p 16) ≡ Ok tt
step_passes s p h = rw h refl

-- the route of a trade is as long as it says
logged_is : (s u : State) (x : Logged) → Makes s x u → logged x.trade x.route ≡ x
logged_is s u x m =
    let few : length x.route ≤ x.trade.areas = omega (arith, m.deal.areas) in
    ap (λ (r : List ℕ). record { trade = x.trade; route = r }) (take_all x.trade.areas x.route few)

-- a trade leaves the round under way
still_here : (s u : State) (p : ℕ) (x : Logged) → Makes s x u → round_here s p ≡ true → round_here u p ≡ true
still_here s u p x m h = subst (λ (v : State). round_here v p ≡ true) (sym m.state) h

-- each trade told in any places of which the first are its route
module _ (placed : Logged → Logged) (same : (s u : State) (x : Logged) → Makes s x u → logged (placed x).trade (placed x).route ≡ x) where
  ran_reached : (m : Capacity) (n p : ℕ) (xs : List Logged) (h : List Event) (s t : State) → Reached m n h s → round_here s p ≡ true → Ran s xs t → Reached m n (with_steps p (map placed xs) h) t
  ran_reached m n p [] h s t so here r = (s, so, (step_passes s p here, r))
  ran_reached m n p (x ∷ xs) h s t so here (u, makes, rest) =
      ran_reached m n p xs (Stepped p 16 (Ok (Some (record { trade = (placed x).trade; route = (placed x).route }))) ∷ h) u t
      (s, so, (step_passes s p here, subst (λ (y : Logged). Makes s y u) (sym (same s u x makes)) makes))
      (still_here s u p x makes here) rest

  -- what follows a call, by whether a round does
  followed : (m : Capacity) (n p : ℕ) (b : Bool) (xs : List Logged) (h : List Event) (s t : State) → Reached m n h s → (b ≡ true → round_here s p ≡ true) → Follows b s xs t → Reached m n (cond b (with_steps p (map placed xs) h) h) t
  followed m n p true xs h s t so here f = ran_reached m n p xs h s t so (here refl) f
  followed m n p false xs h s t so here f = subst (λ (u : State). Reached m n h u) (sym f.1) so

  pub turned_placed : (m : Capacity) (n p : ℕ) (h : List Event) (s t : State) (k : Call) (a : Answer) (xs : List Logged) → Reached m n h s → Turned s p k a xs t → Reached m n (with_turn p k a (map placed xs) h) t
  turned_placed m n p h s t k a xs so turn =
      followed m n p (round_follows k a) xs (Called p k a ∷ h) turn.called t (s, so, turn.answered) (round_begun s p k a turn.called turn.answered) turn.followed

-- told in its route alone
pub turned_reached : (m : Capacity) (n p : ℕ) (h : List Event) (s t : State) (k : Call) (a : Answer) (xs : List Logged) → Reached m n h s → Turned s p k a xs t → Reached m n (with_turn p k a xs h) t
turned_reached m n p h s t k a xs so turn =
    subst (λ (ys : List Logged). Reached m n (with_turn p k a ys h) t) (map-id xs) (turned_placed (λ x. x) logged_is m n p h s t k a xs so turn)
