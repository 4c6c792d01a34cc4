-- What a round makes from its beginning to its end: the trades with their routes, oldest first.
use Rattle.std.specs.Prelude.{◌≡◌, ℕ, not, List, [], ◌∷◌, Some, Ok, Err, Result}
use Rattle.capacity.specs.Tests.{answered}
use Rattle.matching.specs.declared.round.Round.{Round}
use Rattle.trades.specs.declared.trade.Trade.{Trade}
use Rattle.trades.specs.Deals.{Deals}
use Rattle.session.specs.declared.passes.QuietPass.{QuietPass}
use Rattle.session.specs.declared.passes.Refused.{Refused}
use Rattle.session.specs.declared.passes.RoundPass.{RoundPass}
use Rattle.session.specs.Calls.{Test}
use Rattle.session.specs.Faults.{own, told}
use Rattle.session.specs.State.{State}
use Rattle.session.specs.Steps.{round_here, after_trade, Ends}

-- a trade and the areas of its route
pub record Logged : Type 0 where
  pub trade : Trade
  pub route : List ℕ

-- the round under way trades x, and u stands after it
pub record Makes (s : State) (x : Logged) (u : State) : Type 0 where
  pub round : Round
  pub under_way : s.round ≡ Some round
  pub deal : Deals s.capacity s.book round x.trade x.route
  pub state : u ≡ after_trade s x.trade x.route

-- from s the round makes these trades, each after the one before, and then it has no pair left and ends in t
abbrev pub Ran : State → List Logged → State → Type 0
Ran s [] t = Ends s t
Ran s (x ∷ xs) t = (u : State) × Makes s x u × Ran u xs t

abbrev pub round_tests : State → ℕ → List Test
round_tests s p = (not (round_here s p), own 1) ∷ []

-- these trades are noted one after another, where N says what noting one makes of a log
abbrev pub Noted : {L : Type 0} → (L → Logged → L → Type 0) → L → List Logged → L → Type 0
Noted N a [] b = b ≡ a
Noted {L} N a (x ∷ xs) b = (l : L) × N a x l × Noted N l xs b

-- How a round is run to its end with a pass of number p: the log before and after it, and the session after it.
abbrev pub Finished : {L : Type 0} → (L → Logged → L → Type 0) → State → ℕ → L → Result QuietPass (Refused RoundPass) → L → State → Type 0
Finished N s p before (Err e) after t = (answered (round_tests s p) ≡ Err (told e.fault)) × (after ≡ before) × (t ≡ s)
Finished N s p before (Ok pass) after t = (answered (round_tests s p) ≡ Ok tt) × ((xs : List Logged) × Noted N before xs after × Ran s xs t)

-- the number on the pass that comes back
abbrev pub finished_pass : Result QuietPass (Refused RoundPass) → ℕ
finished_pass (Ok pass) = pass.number
finished_pass (Err e) = e.pass.number
