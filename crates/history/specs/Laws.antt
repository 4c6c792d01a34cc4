-- What no list of calls on a session, each answered by the rules, can make untrue.
use Rattle.std.specs.Prelude.{◌≡◌, ℕ, ◌+◌, ◌≤◌, List, [], ◌∷◌, pos, ◌+ℤ◌, ◌-ℤ◌, ◌≤ℤ◌, Some, None, Ok, Err, Option, Result}
use Rattle.book.specs.declared.rows.Side.TheVariants.{Buy, Sell}
use Rattle.capacity.specs.Meaning.{Capacity, Sound, atc}
use Rattle.routes.specs.Paths.{Path}
use Rattle.flows.specs.Balance.{net_out}
use Rattle.flows.specs.Flows.{OpenIn, NoneBelow}
use Rattle.session.specs.declared.faults.SessionFault.{SessionFault}
use Rattle.session.specs.Rounds.{Logged}
use Rattle.session.specs.State.{State}
use Rattle.events.specs.declared.calls.Call.{Call}
use Rattle.events.specs.declared.calls.Call.TheVariants.{Enter, Change, Withdraw, Request, Notice, Close}
use Rattle.events.specs.declared.events.Event.{Event}
use Rattle.events.specs.declared.events.Event.TheVariants.{Called, Stepped}
use Rattle.events.specs.Events.{Answer, StepAnswer, Happens, Answered, StepAnswered, logged}
use Rattle.history.specs.History.{Reached}
use Rattle.history.specs.Standing.{Standing, limit_now, sold, bought, granted_out, granted_in, steps, bound}
use Rattle.history.specs.Stands.{Stands}

-- a buy and a sell of one contract stand whose limits meet, with a path of open directions from the sell's area to the buy's
pub record Meeting (m : Capacity) (h : List Event) (b o : Standing) : Type 0 where
  pub buy_stands : Stands h b
  pub sell_stands : Stands h o
  pub buys : b.given.terms.side ≡ Buy
  pub sells : o.given.terms.side ≡ Sell
  pub one_contract : b.given.contract ≡ o.given.contract
  pub meet : limit_now o ≤ℤ limit_now b
  pub leads : (xs : List ℕ) × Path (OpenIn m b.given.contract) o.given.area b.given.area xs

-- while quiet, no such pair stands
abbrev pub NoneLeft : List Event → State → Type 0
NoneLeft h s = s.round ≡ None → (b o : Standing) → Meeting s.capacity h b o → ⊥

-- the net use that an area carries out, less that at the start, is what it sold less what it bought, plus what was granted out of it less what was granted into it
abbrev pub Balanced : Capacity → List Event → State → Type 0
Balanced m h s =
    (c a : ℕ)
    → net_out s.capacity c a -ℤ net_out m c a
    ≡ (pos (sold c a h) -ℤ pos (bought c a h)) +ℤ (pos (granted_out c a h) -ℤ pos (granted_in c a h))

-- no direction that a call or a step used has an ATC below nought
abbrev pub CoveredCall : Capacity → Call → Answer → Type 0
CoveredCall m k (Err f) = Unit {0}
CoveredCall m (Request d q) (Ok None) = pos 0 ≤ℤ atc m d.contract d.from d.to
CoveredCall m (Enter e) (Ok None) = Unit {0}
CoveredCall m (Change c) (Ok None) = Unit {0}
CoveredCall m (Withdraw n i) (Ok None) = Unit {0}
CoveredCall m (Notice d f) (Ok None) = Unit {0}
CoveredCall m (Close c) (Ok None) = Unit {0}
CoveredCall m k (Ok (Some n)) = Unit {0}

abbrev pub CoveredStep : Capacity → StepAnswer → Type 0
CoveredStep m (Err f) = Unit {0}
CoveredStep m (Ok (Some x)) = NoneBelow m x.trade.contract (logged x.trade x.route).route
CoveredStep m (Ok None) = Unit {0}

-- right after a trade or a grant
abbrev pub Covered : List Event → State → Type 0
Covered [] s = Unit {0}
Covered (Called p k a ∷ h) s = CoveredCall s.capacity k a
Covered (Stepped p z a ∷ h) s = CoveredStep s.capacity a

-- A round has no more accepted steps than the smaller side had open as it began, plus one, and one that has had so many is done. What
-- is open on a side is a sum, so it is taken over a list: the one carried along the events, which has just what stands, each order
-- once; every other list of what stands has the same sum (`StandingTold`).
abbrev pub Bounded : List Event → State → Type 0
Bounded h s = (steps h ≤ bound h + 1) × (steps h ≡ bound h + 1 → s.round ≡ None)

pub record Lawful (m : Capacity) (h : List Event) (s : State) : Type 0 where
  pub none_left : NoneLeft h s
  pub balanced : Balanced m h s
  pub covered : Covered h s
  pub bounded : Bounded h s

-- for every register, every session and every list of events
abbrev pub LawsHold : Type 0
LawsHold = (m : Capacity) (n : ℕ) (h : List Event) (s : State) → Sound m → Reached m n h s → Lawful m h s

-- a history, lawful at every point of it
abbrev pub Lawfully : Capacity → ℕ → List Event → State → Type 0
Lawfully m n [] t = Reached m n [] t × Lawful m [] t
Lawfully m n (e ∷ h) t = ((s : State) × Lawfully m n h s × Happens s e t) × Lawful m (e ∷ h) t

-- at any state, two answers to one call made with a pass of number p are the same, and so are the states after it
abbrev pub OneForCall : State → ℕ → Type 0
OneForCall s p = (k : Call) (a b : Answer) (t u : State) → Answered s p k a t → Answered s p k b u → (a ≡ b) × (t ≡ u)

-- what the answer of a step tells: why it was refused, the trade and its route, or that the round is done
abbrev pub tells : StepAnswer → Result (Option Logged) SessionFault
tells (Err f) = Err f
tells (Ok (Some x)) = Ok (Some (logged x.trade x.route))
tells (Ok None) = Ok None

-- the same of two steps over as many places; what a trade leaves in the places past its route is no part of the answer
abbrev pub OneForStep : State → ℕ → Type 0
OneForStep s p = (z : ℕ) (a b : StepAnswer) (t u : State) → StepAnswered s p z a t → StepAnswered s p z b u → (tells a ≡ tells b) × (t ≡ u)

abbrev pub OneAnswer : Type 0
OneAnswer = (s : State) (p : ℕ) → OneForCall s p × OneForStep s p
