-- What can be read off the events alone: the orders that stand, what was sold, bought and granted, and the steps of a round.
use Rattle.std.specs.Prelude.{◌≡◌, ℕ, ◌+◌, ◌-◌, ◌*◌, ◌/◌, min, Bool, true, false, cond, not, ◌&&◌, ◌||◌, ◌⊎◌, List, [], ◌∷◌, ◌++◌, map, ℤ, Some, None, Ok, Err, filter, is_ok, ◌==◌, nat_lt}
use Rattle.book.specs.declared.rows.Kind.{Kind}
use Rattle.book.specs.declared.rows.Kind.TheVariants.{Non, Ioc, Ice}
use Rattle.book.specs.declared.rows.OrderTerms.{OrderTerms}
use Rattle.book.specs.declared.rows.Side.{Side}
use Rattle.book.specs.declared.rows.Side.TheVariants.{Buy, Sell}
use Rattle.book.specs.Orders.{is_ioc, moved}
use Rattle.session.specs.declared.entries.Entry.{Entry}
use Rattle.trades.specs.declared.trade.Trade.{Trade}
use Rattle.events.specs.declared.calls.Call.{Call}
use Rattle.events.specs.declared.calls.Call.TheVariants.{Enter, Change, Withdraw, Request, Notice, Close}
use Rattle.events.specs.declared.events.Event.{Event}
use Rattle.events.specs.declared.events.Event.TheVariants.{Called, Stepped}
use Rattle.events.specs.Events.{StepAnswer, round_follows}

abbrev pub ◌∈◌ : {X : Type 0} → X → List X → Type 0
x ∈ [] = ⊥
x ∈ (y ∷ ys) = (y ≡ x) ⊎ (x ∈ ys)

infix 40 ◌∈◌
-- an order that stands in the market: as its last accepted entry or change gave it, and what was traded since
pub record Standing : Type 0 where
  pub given : Entry
  pub traded : ℕ

abbrev pub still_open : Standing → ℕ
still_open x = x.given.terms.quantity - x.traded

-- an iceberg's limit has moved once for each full peak traded
abbrev pub limit_after : Kind → OrderTerms → ℕ → ℤ
limit_after Non t n = t.limit
limit_after Ioc t n = t.limit
limit_after Ice t n = moved t.side t.limit (t.delta * (n / t.peak))

abbrev pub limit_now : Standing → ℤ
limit_now x = limit_after x.given.terms.kind x.given.terms x.traded

abbrev pub newly : Entry → Standing
newly e = record { given = e; traded = 0 }

-- an entry with another limit and quantity
abbrev pub regiven : Entry → ℤ → ℕ → Entry
regiven e l q = record {
  number = e.number;
  member = e.member;
  contract = e.contract;
  area = e.area;
  terms = record { kind = e.terms.kind; side = e.terms.side; limit = l; quantity = q; peak = e.terms.peak; delta = e.terms.delta };
}

abbrev pub has_number : ℕ → Standing → Bool
has_number n x = x.given.number == n

-- the order n given anew
abbrev pub anew : ℕ → ℤ → ℕ → Standing → Standing
anew n l q x = cond (has_number n x) (newly (regiven x.given l q)) x

abbrev pub with_trade : Trade → Standing → Standing
with_trade t x = cond (has_number t.buy x || has_number t.sell x) (record { given = x.given; traded = x.traded + t.quantity }) x

abbrev pub after_call : Call → List Standing → List Standing
after_call (Enter e) l = l ++ newly e ∷ []
after_call (Change c) l = map (anew c.number c.limit c.quantity) l
after_call (Withdraw n m) l = filter (λ x. not (has_number n x)) l
after_call (Request d q) l = l
after_call (Notice d f) l = l
after_call (Close c) l = filter (λ x. not (x.given.contract == c)) l

-- what is used up leaves at a trade, an IOC at done
abbrev pub after_step : StepAnswer → List Standing → List Standing
after_step (Err f) l = l
after_step (Ok (Some t)) l = filter (λ x. nat_lt 0 (still_open x)) (map (with_trade t.trade) l)
after_step (Ok None) l = filter (λ x. not (is_ioc x.given.terms.kind)) l

-- the orders open after these events, carried along them; `Stands` says of each by itself when it is one of them
abbrev pub standing : List Event → List Standing
standing [] = []
standing (Called p k a ∷ h) = cond (is_ok a) (after_call k (standing h)) (standing h)
standing (Stepped p z a ∷ h) = after_step a (standing h)

-- a figure of each trade, summed
abbrev pub of_step : (Trade → ℕ) → StepAnswer → ℕ
of_step f (Err e) = 0
of_step f (Ok (Some t)) = f t.trade
of_step f (Ok None) = 0

abbrev pub over_trades : (Trade → ℕ) → List Event → ℕ
over_trades f [] = 0
over_trades f (Called p k a ∷ h) = over_trades f h
over_trades f (Stepped p z a ∷ h) = of_step f a + over_trades f h

-- a figure of each accepted request, by contract, from, to and quantity, summed
abbrev pub of_call : (ℕ → ℕ → ℕ → ℕ → ℕ) → Call → ℕ
of_call f (Enter e) = 0
of_call f (Change c) = 0
of_call f (Withdraw n m) = 0
of_call f (Request d q) = f d.contract d.from d.to q
of_call f (Notice d g) = 0
of_call f (Close c) = 0

abbrev pub over_grants : (ℕ → ℕ → ℕ → ℕ → ℕ) → List Event → ℕ
over_grants f [] = 0
over_grants f (Called p k a ∷ h) = cond (is_ok a) (of_call f k) 0 + over_grants f h
over_grants f (Stepped p z a ∷ h) = over_grants f h

-- in contract c: traded with a as the seller's area, and as the buyer's; granted from a, and to it
abbrev pub sold : ℕ → ℕ → List Event → ℕ
sold c a = over_trades (λ t. cond (t.contract == c && t.seller == a) t.quantity 0)

abbrev pub bought : ℕ → ℕ → List Event → ℕ
bought c a = over_trades (λ t. cond (t.contract == c && t.buyer == a) t.quantity 0)

abbrev pub granted_out : ℕ → ℕ → List Event → ℕ
granted_out c a = over_grants (λ k x y q. cond (k == c && x == a) q 0)

abbrev pub granted_in : ℕ → ℕ → List Event → ℕ
granted_in c a = over_grants (λ k x y q. cond (k == c && y == a) q 0)

abbrev pub same_side : Side → Side → Bool
same_side Buy Buy = true
same_side Buy Sell = false
same_side Sell Buy = false
same_side Sell Sell = true

-- what is open on one side of a contract, hidden parts included
abbrev pub open_on : ℕ → Side → List Standing → ℕ
open_on c d [] = 0
open_on c d (x ∷ l) = cond (x.given.contract == c && same_side x.given.terms.side d) (still_open x) 0 + open_on c d l

-- what is open on the smaller side
abbrev pub smaller : ℕ → List Standing → ℕ
smaller c l = min (open_on c Buy l) (open_on c Sell l)

-- the contract of the order n
abbrev pub contract_of : ℕ → List Standing → ℕ
contract_of n [] = 0
contract_of n (x ∷ l) = cond (has_number n x) x.given.contract (contract_of n l)

-- the accepted steps of the newest round
abbrev pub steps : List Event → ℕ
steps [] = 0
steps (Called p k a ∷ h) = cond (round_follows k a) 0 (steps h)
steps (Stepped p z a ∷ h) = cond (is_ok a) (steps h + 1) (steps h)

-- what is open on the smaller side as a call begins a round, of the orders that stand then
abbrev pub begins_with : Call → List Standing → ℕ
begins_with (Enter e) l = smaller e.contract l
begins_with (Change c) l = smaller (contract_of c.number l) l
begins_with (Withdraw n m) l = 0
begins_with (Request d q) l = smaller d.contract l
begins_with (Notice d f) l = smaller d.contract l
begins_with (Close c) l = 0

-- what was open on the smaller side as the newest round began
abbrev pub bound : List Event → ℕ
bound [] = 0
bound (Called p k a ∷ h) = cond (round_follows k a) (begins_with k (standing (Called p k a ∷ h))) (bound h)
bound (Stepped p z a ∷ h) = bound h
