-- How each call and each step is answered, and what stands after it.
use Rattle.std.specs.Prelude.{◌≡◌, ℕ, ◌-◌, Bool, true, false, ◌&&◌, List, ◌++◌, length, take, drop, replicate, Some, None, Ok, Err, Option, Result, is_ok}
use Rattle.capacity.specs.Meaning.{Capacity}
use Rattle.capacity.specs.Tests.{answered}
use Rattle.trades.specs.declared.trade.Trade.{Trade}
use Rattle.session.specs.declared.faults.SessionFault.{SessionFault}
use Rattle.session.specs.Faults.{Refusal, told}
use Rattle.session.specs.declared.state.Session.{Session}
use Rattle.session.specs.State.{State, state}
use Rattle.session.specs.Calls.{entering, changing, withdrawing, requesting, noticing, closing}
use Rattle.session.specs.Steps.{step_tests, Ends}
use Rattle.session.specs.Rounds.{Logged, Makes}
use Rattle.events.specs.declared.calls.Call.{Call}
use Rattle.events.specs.declared.calls.Call.TheVariants.{Enter, Change, Withdraw, Request, Notice, Close}
use Rattle.events.specs.declared.events.Traded.{Traded}
use Rattle.events.specs.declared.events.Event.{Event}
use Rattle.events.specs.declared.events.Event.TheVariants.{Called, Stepped}

-- the answers of calls and of steps, as the code names them
abbrev pub Answer : Type 0
Answer = Result (Option ℕ) SessionFault

abbrev pub StepAnswer : Type 0
StepAnswer = Result (Option Traded) SessionFault

-- the answer of a call that accepts or refuses, and no more
abbrev pub Plainly : Result (Unit {0}) Refusal → Answer → Type 0
Plainly r (Err f) = r ≡ Err (told f)
Plainly r (Ok None) = r ≡ Ok tt
Plainly r (Ok (Some n)) = ⊥

-- the answer of a call that accepts with a count
abbrev pub Counting : Result ℕ Refusal → Answer → Type 0
Counting r (Err f) = r ≡ Err (told f)
Counting r (Ok None) = ⊥
Counting r (Ok (Some n)) = r ≡ Ok n

-- a call made at s, with a pass of number p, is answered so, and t stands after it
abbrev pub Answered : State → ℕ → Call → Answer → State → Type 0
Answered s p (Enter e) a t = Plainly (entering s p e).0 a × (t ≡ (entering s p e).1)
Answered s p (Change c) a t = Plainly (changing s p c.number c.member c.limit c.quantity).0 a × (t ≡ (changing s p c.number c.member c.limit c.quantity).1)
Answered s p (Withdraw n m) a t = Plainly (withdrawing s p n m).0 a × (t ≡ (withdrawing s p n m).1)
Answered s p (Request d q) a t = Plainly (requesting s p d.contract d.from d.to q).0 a × (t ≡ (requesting s p d.contract d.from d.to q).1)
Answered s p (Notice d f) a t = Plainly (noticing s p d.contract d.from d.to f).0 a × (t ≡ (noticing s p d.contract d.from d.to f).1)
Answered s p (Close c) a t = Counting (closing s p c).0 a × (t ≡ (closing s p c).1)

-- a trade with the areas of its route, which are the first of the places
abbrev pub logged : Trade → List ℕ → Logged
logged x places = record { trade = x; route = take x.areas places }

-- a route in 16 places, nought past its areas
abbrev pub places : List ℕ → List ℕ
places xs = take 16 xs ++ replicate (16 - length xs) 0

-- a trade as a step answers it
abbrev pub in_places : Logged → Traded
in_places x = record { trade = x.trade; route = places x.route }

-- a step made at s over z places: refused, a trade of the round, or the round's end
abbrev pub StepAnswered : State → ℕ → ℕ → StepAnswer → State → Type 0
StepAnswered s p z (Err f) t = (answered (step_tests s p z) ≡ Err (told f)) × (t ≡ s)
StepAnswered s p z (Ok (Some x)) t = (answered (step_tests s p z) ≡ Ok tt) × Makes s (logged x.trade x.route) t
StepAnswered s p z (Ok None) t = (answered (step_tests s p z) ≡ Ok tt) × Ends s t

-- the event happens at s, and t stands after it
abbrev pub Happens : State → Event → State → Type 0
Happens s (Called p k a) t = Answered s p k a t
Happens s (Stepped p z a) t = StepAnswered s p z a t

-- the same on a session
module _ {R : Type 0} (meaning : R → Capacity) where
  abbrev pub HappensOn : Session R → Event → Session R → Type 0
  HappensOn before e after = Happens (state meaning before) e (state meaning after)

-- The places after a step: the route of its trade in the first, and the others as they were; all as they were where it trades nothing.
-- The answer has the route and then nought.
abbrev pub PlacesAfter : List ℕ → StepAnswer → List ℕ → Type 0
PlacesAfter before (Err f) after = after ≡ before
PlacesAfter before (Ok None) after = after ≡ before
PlacesAfter before (Ok (Some x)) after =
    let xs = take x.trade.areas x.route in
    (x.route ≡ places xs) × (after ≡ xs ++ drop (length xs) before)

-- accepted, or the fault that the call was refused by
abbrev pub acceptance : Answer → Result (Unit {0}) SessionFault
acceptance (Err f) = Err f
acceptance (Ok n) = Ok tt

-- whether a call begins a round, once it is accepted
abbrev pub begins_round : Call → Bool
begins_round (Enter e) = true
begins_round (Change c) = true
begins_round (Withdraw n m) = false
begins_round (Request d q) = true
begins_round (Notice d f) = true
begins_round (Close c) = false

abbrev pub round_follows : Call → Answer → Bool
round_follows k a = begins_round k && is_ok a

-- whether the round goes on after a step
abbrev pub goes_on : StepAnswer → Bool
goes_on (Err f) = true
goes_on (Ok (Some x)) = true
goes_on (Ok None) = false
