-- A step is determined by the session before it, the number on the pass and the places.
use Rattle.std.proofs.Common.{◌≡◌, ℕ, List, ◌++◌, length, drop, Some, Ok, Err, Option, Result, sym, refl, ap, ◌∙◌, subst}
use Rattle.matching.specs.declared.round.Round.{Round}
use Rattle.trades.specs.declared.trade.Trade.{Trade}
use Rattle.trades.specs.Deals.{Deals}
use Rattle.trades.proofs.Once.{one_deal, deal_or_none}
use Rattle.session.specs.declared.passes.Refused.{Refused}
use Rattle.session.specs.declared.passes.RoundPass.{RoundPass}
use Rattle.session.specs.declared.steps.Step.{Step}
use Rattle.session.specs.declared.steps.Step.TheVariants.{Traded, Done}
use Rattle.session.specs.State.{State}
use Rattle.session.specs.Steps.{after_trade, after_round, Trades, Ends, Stepped, OnlyStep}

one_round : (p : Option Round) (r r' : Round) → p ≡ Some r → p ≡ Some r' → r ≡ r'
one_round p r r' h k = cc

-- of two trades of a round
one_trade : (s : State) (before : List ℕ) (x : Trade) (after : List ℕ) (t : State) (x' : Trade) (after' : List ℕ) (t' : State) → Trades s before x after t → Trades s before x' after' t' → (x' ≡ x) × (after' ≡ after) × (t' ≡ t)
one_trade s before x after t x' after' t' h k =
    let r = one_round s.round k.round h.round k.under_way h.under_way in
    let deal : Deals s.capacity s.book h.round x' k.route = subst (λ (q : Round). Deals s.capacity s.book q x' k.route) r k.deal in
    let same = one_deal s.capacity s.book h.round x' k.route x h.route deal h.deal in (
      same.0,
      k.places ∙ ap (λ (xs : List ℕ). xs ++ drop (length xs) before) same.1 ∙ sym h.places,
      k.state ∙ ap (λ (y : Trade). after_trade s y k.route) same.0 ∙ ap (after_trade s x) same.1 ∙ sym h.state,
    )

-- of two ends of a round
one_end : (s t t' : State) → Ends s t → Ends s t' → t' ≡ t
one_end s t t' h k = k.state ∙ ap (after_round s) (one_round s.round k.round h.round k.under_way h.under_way) ∙ sym h.state

-- a round that trades does not end
trade_or_end : (s : State) (before : List ℕ) (x : Trade) (after : List ℕ) (t t' : State) → Trades s before x after t → Ends s t' → ⊥
trade_or_end s before x after t t' h k =
    let r = one_round s.round h.round k.round h.under_way k.under_way in
    deal_or_none s.capacity s.book k.round x h.route (subst (λ (q : Round). Deals s.capacity s.book q x h.route) r h.deal) k.none

pub one_step : (s : State) (p : ℕ) (before : List ℕ) (r : Result Step (Refused RoundPass)) (after : List ℕ) (t : State) → Stepped s p before r after t → OnlyStep s p before r after t
one_step s p before (Err e) after t h (Err e') after' t' k = (cc (k.0, h.0), k.1 ∙ sym h.1, k.2 ∙ sym h.2)
one_step s p before (Err e) after t h (Ok (Traded x' pass')) after' t' k = absurd (cc (k.0, h.0))
one_step s p before (Err e) after t h (Ok (Done pass')) after' t' k = absurd (cc (k.0, h.0))
one_step s p before (Ok (Traded x pass)) after t h (Err e') after' t' k = absurd (cc (k.0, h.0))
one_step s p before (Ok (Traded x pass)) after t h (Ok (Traded x' pass')) after' t' k = let same = one_trade s before x after t x' after' t' h.1 k.1 in (ap (λ (y : Trade). Ok (Some y)) same.0, same.1, same.2)
one_step s p before (Ok (Traded x pass)) after t h (Ok (Done pass')) after' t' k = absurd (trade_or_end s before x after t t' h.1 k.1)
one_step s p before (Ok (Done pass)) after t h (Err e') after' t' k = absurd (cc (k.0, h.0))
one_step s p before (Ok (Done pass)) after t h (Ok (Traded x' pass')) after' t' k = absurd (trade_or_end s before x' after' t' t k.1 h.1)
one_step s p before (Ok (Done pass)) after t h (Ok (Done pass')) after' t' k = (refl, k.2 ∙ sym h.2, one_end s t t' h.1 k.1)
