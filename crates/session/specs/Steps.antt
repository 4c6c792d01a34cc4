-- What a step of a round answers, and what stands after it.
use Rattle.std.specs.Prelude.{◌≡◌, ℕ, Bool, not, ◌&&◌, List, [], ◌∷◌, ◌++◌, length, drop, Some, None, Ok, Err, filter, Option, Result, ◌==◌, nat_lt}
use Rattle.book.specs.declared.rows.Order.{Order}
use Rattle.book.specs.Orders.{rests}
use Rattle.book.specs.Trades.{settled}
use Rattle.capacity.specs.Tests.{answered}
use Rattle.flows.specs.Flows.{OpenIn, carried}
use Rattle.matching.specs.declared.round.Round.{Round}
use Rattle.matching.specs.declared.round.Round.TheVariants.{Regular, Batch}
use Rattle.matching.specs.Pairs.{InRound}
use Rattle.trades.specs.declared.trade.Trade.{Trade}
use Rattle.trades.specs.Deals.{traded_contract, Deals}
use Rattle.session.specs.declared.passes.Refused.{Refused}
use Rattle.session.specs.declared.passes.RoundPass.{RoundPass}
use Rattle.session.specs.declared.steps.Step.{Step}
use Rattle.session.specs.declared.steps.Step.TheVariants.{Traded, Done}
use Rattle.session.specs.Calls.{Test}
use Rattle.session.specs.Faults.{Refusal, own, told}
use Rattle.session.specs.State.{State, is_quiet}

-- a pass with the number p names this session, and a round is under way
abbrev pub round_here : State → ℕ → Bool
round_here s p = p == s.number && not (is_quiet s.round)

-- a step needs 16 places for the route
abbrev pub step_tests : State → ℕ → ℕ → List Test
step_tests s p places = (not (round_here s p), own 1) ∷ (nat_lt places 16, own 15) ∷ []

-- the session after a trade x along the route xs
abbrev pub after_trade : State → Trade → List ℕ → State
after_trade s x xs = record {
  number = s.number;
  round = s.round;
  closed = s.closed;
  book = settled x.buy x.sell x.quantity s.book;
  capacity = carried s.capacity x.contract x.quantity xs;
}

-- an incoming IOC goes as its round ends
abbrev pub rested : Round → List Order → List Order
rested (Regular c n) os = filter (rests n) os
rested (Batch c) os = os

abbrev pub after_round : State → Round → State
after_round s r = record { number = s.number; round = None; closed = s.closed; book = rested r s.book; capacity = s.capacity }

-- The round trades x: along its route, which fills the first places, and the others stay.
pub record Trades (s : State) (before : List ℕ) (x : Trade) (after : List ℕ) (t : State) : Type 0 where
  pub round : Round
  pub under_way : s.round ≡ Some round
  pub route : List ℕ
  pub deal : Deals s.capacity s.book round x route
  pub places : after ≡ route ++ drop (length route) before
  pub state : t ≡ after_trade s x route

-- The round has no pair left, and is done.
pub record Ends (s : State) (t : State) : Type 0 where
  pub round : Round
  pub under_way : s.round ≡ Some round
  pub none : (i j : ℕ) → InRound (OpenIn s.capacity (traded_contract round)) round s.book i j → ⊥
  pub state : t ≡ after_round s round

-- How a step made with a pass of number p is answered: the places before and after it, and the session after it.
abbrev pub Stepped : State → ℕ → List ℕ → Result Step (Refused RoundPass) → List ℕ → State → Type 0
Stepped s p before (Err e) after t = (answered (step_tests s p (length before)) ≡ Err (told e.fault)) × (after ≡ before) × (t ≡ s)
Stepped s p before (Ok (Traded x pass)) after t = (answered (step_tests s p (length before)) ≡ Ok tt) × Trades s before x after t
Stepped s p before (Ok (Done pass)) after t = (answered (step_tests s p (length before)) ≡ Ok tt) × Ends s t × (after ≡ before)

-- the number on the pass that comes back
abbrev pub stepped_pass : Result Step (Refused RoundPass) → ℕ
stepped_pass (Ok (Traded x pass)) = pass.number
stepped_pass (Ok (Done pass)) = pass.number
stepped_pass (Err e) = e.pass.number

-- the answer without its pass: the trade, or none as the round is done, or the refusal
abbrev pub stepped_told : Result Step (Refused RoundPass) → Result (Option Trade) Refusal
stepped_told (Ok (Traded x pass)) = Ok (Some x)
stepped_told (Ok (Done pass)) = Ok None
stepped_told (Err e) = Err (told e.fault)

-- A step with this pass number over these places has no other answer, and leaves no other places and no other session.
abbrev pub OnlyStep : State → ℕ → List ℕ → Result Step (Refused RoundPass) → List ℕ → State → Type 0
OnlyStep s p before r after t = (r' : Result Step (Refused RoundPass)) (after' : List ℕ) (t' : State) → Stepped s p before r' after' t' → (stepped_told r' ≡ stepped_told r) × (after' ≡ after) × (t' ≡ t)
