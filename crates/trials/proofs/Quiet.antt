-- Sessions with nothing closed, and rounds that are done at once.
use Rattle.std.proofs.Common.{◌≡◌, ℕ, zero, suc, ◌<◌, true, false, eqb, List, [], ◌∷◌, length, Some, None, refl, arith, eq-eqb}
use Rattle.std.specs.List.{AllByRecursion}
use Rattle.capacity.specs.Meaning.{Capacity}
use Rattle.book.specs.declared.rows.Order.{Order}
use Rattle.book.specs.declared.rows.Side.{Side}
use Rattle.book.specs.Orders.{entered}
use Rattle.book.specs.Ranks.{order_at}
use Rattle.flows.specs.Flows.{OpenIn}
use Rattle.matching.specs.declared.round.Round.{Round}
use Rattle.matching.specs.Pairs.{InRound}
use Rattle.matching.proofs.Members.{executable}
use Rattle.trades.specs.Deals.{traded_contract}
use Rattle.session.specs.declared.entries.Entry.{Entry}
use Rattle.session.specs.State.{State}
use Rattle.session.specs.Steps.{rested, Ends}

abbrev pub quiet : ℕ → List Order → Capacity → State
quiet n os m = record { number = n; round = None; closed = λ c. false; book = os; capacity = m }

abbrev pub busy : ℕ → Round → List Order → Capacity → State
busy n r os m = record { number = n; round = Some r; closed = λ c. false; book = os; capacity = m }

-- a pass with the session's number
pub here : (n : ℕ) → eqb n n ≡ true
here n = eq-eqb n n refl

abbrev pub order_of : Entry → Order
order_of e = entered e.number e.member e.contract e.area e.terms

-- no pair of the round is left
abbrev pub NonePairs : Capacity → Round → List Order → Type 0
NonePairs m r os = (i j : ℕ) → InRound (OpenIn m (traded_contract r)) r os i j → ⊥

pub done : (n : ℕ) (r : Round) (os : List Order) (m : Capacity) → NonePairs m r os → Ends (busy n r os m) (quiet n (rested r os) m)
done n r os m none = record { round = r; under_way = refl; none = none; state = refl }

side_at : (d : Side) (os : List Order) (i : ℕ) → AllByRecursion (λ o. o.side ≡ d) os → i < length os → (order_at os i).side ≡ d
side_at d [] i h l = absurd (omega arith)
side_at d (o ∷ os) zero h l = h.0
side_at d (o ∷ os) (suc i) h l = side_at d os i h.1 (omega arith)

-- orders of one side do not trade with each other
pub one_sided : (d : Side) (n : ℕ) (r : Round) (os : List Order) (m : Capacity) → AllByRecursion (λ o. o.side ≡ d) os → Ends (busy n r os m) (quiet n (rested r os) m)
one_sided d n r os m all =
    done n r os m
    (λ i j h.
    let e = executable (OpenIn m (traded_contract r)) r os i j h in
    let buy = side_at d os i all e.buy_in in
    let sell = side_at d os j all e.sell_in in
    cc (e.buys, e.sells))
