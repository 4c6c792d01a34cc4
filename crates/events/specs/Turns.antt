-- A turn of a session: a call, and the trades of its round, if it begins one, run to its end.
use Rattle.std.specs.Prelude.{◌≡◌, ℕ, Bool, true, false, cond, List, [], ◌∷◌, Some, None, Ok}
use Rattle.session.specs.Rounds.{Logged, Ran}
use Rattle.session.specs.State.{State}
use Rattle.events.specs.declared.calls.Call.{Call}
use Rattle.events.specs.declared.events.Event.{Event}
use Rattle.events.specs.declared.events.Event.TheVariants.{Called, Stepped}
use Rattle.events.specs.Events.{Answer, Answered, round_follows}

-- no round follows, and nothing is traded; or one is run to its end
abbrev pub Follows : Bool → State → List Logged → State → Type 0
Follows false s xs t = (xs ≡ []) × (t ≡ s)
Follows true s xs t = Ran s xs t

-- the call k, made at s with a pass of number p, is answered so; then these trades are made, and t stands
pub record Turned (s : State) (p : ℕ) (k : Call) (a : Answer) (xs : List Logged) (t : State) : Type 0 where
  pub called : State
  pub answered : Answered s p k a called
  pub followed : Follows (round_follows k a) called xs t

-- the steps of a round over 16 places, added to the events before them, newest first
abbrev pub with_steps : ℕ → List Logged → List Event → List Event
with_steps p [] h = Stepped p 16 (Ok None) ∷ h
with_steps p (x ∷ xs) h = with_steps p xs (Stepped p 16 (Ok (Some (record { trade = x.trade; route = x.route }))) ∷ h)

-- the events of a turn, added to those before it
abbrev pub with_turn : ℕ → Call → Answer → List Logged → List Event → List Event
with_turn p k a xs h = cond (round_follows k a) (with_steps p xs (Called p k a ∷ h)) (Called p k a ∷ h)
