-- Every step keeps what holds: a trade, the end of a round, and a refusal.
use Rattle.std.proofs.Common.{◌≡◌, ℕ, ◌+◌, ◌≤◌, min, true, ◌&&◌, eqb, List, ◌∷◌, Some, None, Ok, Err, sym, ap, ◌∙◌, subst, arith, Option}
use Rattle.std.proofs.lemmas.Bool.{both_ways, not-true, and_from, eq-eqb}
use Rattle.book.proofs.Orderliness.{orderly_kept, orderly_settled}
use Rattle.book.specs.declared.rows.Order.{Order}
use Rattle.book.specs.Orderly.{Orderly}
use Rattle.book.specs.Orders.{is_ioc, rests}
use Rattle.book.specs.Ranks.{order_at}
use Rattle.book.specs.Trades.{settled}
use Rattle.capacity.specs.Meaning.{Capacity}
use Rattle.flows.proofs.Balance.{Net, carried_moves}
use Rattle.flows.proofs.Granted.{carried_granted}
use Rattle.flows.specs.Balance.{only_at, Moved}
use Rattle.flows.specs.Flows.{OpenIn, carried, Carries}
use Rattle.matching.specs.declared.round.Round.{Round}
use Rattle.matching.specs.declared.round.Round.TheVariants.{Regular, Batch}
use Rattle.routes.specs.Paths.{Path}
use Rattle.trades.specs.declared.trade.Trade.{Trade}
use Rattle.trades.specs.Deals.{traded_contract}
use Rattle.session.proofs.Carrying.{deal_carries}
use Rattle.session.specs.declared.faults.SessionFault.{SessionFault}
use Rattle.session.specs.Rounds.{Makes}
use Rattle.session.specs.State.{State}
use Rattle.session.specs.Steps.{rested, Ends}
use Rattle.events.specs.declared.events.Event.{Event}
use Rattle.events.specs.declared.events.Event.TheVariants.{Stepped}
use Rattle.events.specs.declared.events.Traded.{Traded}
use Rattle.events.specs.Events.{StepAnswer, logged, StepAnswered}
use Rattle.history.specs.Standing.{◌∈◌, standing, steps, bound, smaller}
use Rattle.history.proofs.Agreeing.{Lone, agree_done}
use Rattle.history.proofs.Clear.{Clear, Part, clear_part}
use Rattle.history.proofs.Dealing.{agree_deal, smaller_deal}
use Rattle.history.proofs.Facing.{Best, chosen_best, none_facing, of_contract}
use Rattle.history.proofs.Invariant.{Inv, MayBeIoc, Within}
use Rattle.history.proofs.Members.{in_kept}
use Rattle.history.proofs.Moves.{carried_joins, more_sold, none_sold}
use Rattle.history.proofs.Opened.{clear_trade}
use Rattle.history.proofs.Rows.{Later, settled_later}

rested_part : (r : Round) (os : List Order) → Part (rested r os) os
rested_part (Regular c n) os x i = (in_kept (rests n) x os i).0
rested_part (Batch c) os x i = i

rested_orderly : (r : Round) (os : List Order) → Orderly os → Orderly (rested r os)
rested_orderly (Regular c n) os h = orderly_kept (rests n) os h
rested_orderly (Batch c) os h = h

-- no IOC is left as a round ends
none_rests : (r : Round) (os : List Order) → ((x : Order) → x ∈ os → is_ioc x.kind ≡ true → Lone r x) → (x : Order) → x ∈ rested r os → is_ioc x.kind ≡ true → ⊥
none_rests (Regular c n) os f x i e =
    let k = in_kept (rests n) x os i in
    let it = eqb x.number n && is_ioc x.kind in
    both_ways it (not-true it k.1) (and_from (eqb x.number n) (is_ioc x.kind) (eq-eqb x.number n (f x k.0 e)) e)
none_rests (Batch c) os f x i e = f x i e

ioc_later : (r : Round) (x y : Order) → Later x y → Lone r y → Lone r x
ioc_later (Regular c n) x y l k = l.number ∙ k
ioc_later (Batch c) x y l k = k

module _ (m : Capacity) (h : List Event) (s : State) (inv : Inv m h s) (p z : ℕ) where
  after_refusal : (f : SessionFault) → Inv m (Stepped p z (Err f) ∷ h) s
  after_refusal f = record {
    net = inv.net;
    orderly = inv.orderly;
    clear = inv.clear;
    agree = inv.agree;
    lone = inv.lone;
    balanced = none_sold m h s inv.balanced;
    covered = tt;
    within = still s.round inv.within;
  }
    where
      still : (ph : Option Round) → Within h ph → Within (Stepped p z (Err f) ∷ h) ph
      still None w = w
      still (Some r) w = w

  module _ (r : Round) (under : s.round ≡ Some r) where
    clear_under : Clear s.capacity s.book (Some r)
    clear_under = subst (Clear s.capacity s.book) under inv.clear

    lone_under : (x : Order) → x ∈ s.book → is_ioc x.kind ≡ true → Lone r x
    lone_under x i k = subst (λ (ph : Option Round). MayBeIoc ph x) under (inv.lone x i k)

    within_under : steps h + smaller (traded_contract r) (standing h) ≤ bound h
    within_under = subst (Within h) under inv.within

  after_end : (t : State) → Ends s t → Inv m (Stepped p z (Ok None) ∷ h) t
  after_end t x =
      let r = x.round in
      let lone = lone_under r x.under_way in
      subst (Inv m (Stepped p z (Ok None) ∷ h)) (sym x.state) (record {
        net = inv.net;
        orderly = rested_orderly r s.book inv.orderly;
        clear = clear_part s.capacity s.book (rested r s.book) (λ b o f. none_facing s.capacity s.book r x.none b o f (clear_under r x.under_way b o f)) (rested_part r s.book);
        agree = agree_done r s.book (standing h) inv.agree lone;
        lone = none_rests r s.book lone;
        balanced = none_sold m h s inv.balanced;
        covered = tt;
        within = omega (arith, within_under r x.under_way);
      })

  module _ (u : Traded) (t : State) (x : Makes s (logged u.trade u.route) t) where
    abbrev y : Trade
    y = u.trade

    abbrev r : Round
    r = x.round

    abbrev route : List ℕ
    route = (logged u.trade u.route).route

    abbrev after : Capacity
    after = carried s.capacity y.contract y.quantity route

    best : Best s.capacity s.book r (order_at s.book x.deal.i) (order_at s.book x.deal.j)
    best = chosen_best s.capacity s.book r x.deal.i x.deal.j x.deal.chosen

    -- the contract of the trade is that of its buy
    same_contract : (order_at s.book x.deal.i).contract ≡ y.contract
    same_contract = of_contract r _ _ best.concerned ∙ sym x.deal.contract

    carries : Carries s.capacity y.contract (order_at s.book x.deal.j).area (order_at s.book x.deal.i).area (min (order_at s.book x.deal.i).shown (order_at s.book x.deal.j).shown) y.quantity route
    carries = deal_carries s.capacity s.book r y route ∣ inv.orderly ∣₁ x.deal

    clear₂ : Clear after (settled y.buy y.sell y.quantity s.book) (Some r)
    clear₂ =
        let b = order_at s.book x.deal.i in
        let o = order_at s.book x.deal.j in
        let path : Path (OpenIn s.capacity b.contract) o.area b.area route = subst (λ c. Path (OpenIn s.capacity c) o.area b.area route) (sym same_contract) carries.path in
        subst (λ c. Clear (carried s.capacity c y.quantity route) (settled y.buy y.sell y.quantity s.book) (Some r)) same_contract
        (clear_trade s.capacity s.book inv.orderly.distinct r b o (clear_under r x.under_way) best y.quantity route path y.buy y.sell)

    moved : Moved s.capacity after y.contract y.seller y.buyer y.quantity
    moved =
        let c = y.contract in
        let b = (order_at s.book x.deal.i).area in
        let from : Path (OpenIn s.capacity c) y.seller b route = subst (λ a. Path (OpenIn s.capacity c) a b route) (sym x.deal.seller) carries.path in
        carried_moves s.capacity inv.net c y.quantity y.seller y.buyer route (subst (λ a. Path (OpenIn s.capacity c) y.seller a route) (sym x.deal.buyer) from)

    after_deal : Inv m (Stepped p z (Ok (Some u)) ∷ h) t
    after_deal = subst (Inv m (Stepped p z (Ok (Some u)) ∷ h)) (sym x.state) (record {
      net = subst Net (sym (carried_joins s.capacity y.contract y.quantity route)) inv.net;
      orderly = orderly_settled y.buy y.sell y.quantity s.book inv.orderly;
      clear = subst (Clear after (settled y.buy y.sell y.quantity s.book)) (sym x.under_way) clear₂;
      agree = agree_deal s.capacity s.book r y route inv.orderly x.deal (standing h) inv.agree;
      lone = λ o i k.
          let l = settled_later y.buy y.sell y.quantity o s.book i in
          subst (λ (ph : Option Round). MayBeIoc ph o) (sym x.under_way) (ioc_later r o l.0 l.2 (lone_under r x.under_way l.0 l.1 (ap is_ioc (sym l.2.kind) ∙ k)));
      balanced = more_sold m h s inv.balanced after (only_at y.contract y.seller y.quantity) (only_at y.contract y.buyer y.quantity) moved;
      covered = (carried_granted s.capacity y.contract _ _ _ y.quantity route carries).1;
      within = subst (Within (Stepped p z (Ok (Some u)) ∷ h)) (sym x.under_way)
          (omega (arith, smaller_deal s.capacity s.book r y route inv.orderly x.deal (standing h) inv.agree, within_under r x.under_way));
    })

  pub after_step : (a : StepAnswer) (t : State) → StepAnswered s p z a t → Inv m (Stepped p z a ∷ h) t
  after_step (Err f) t x = subst (Inv m (Stepped p z (Err f) ∷ h)) (sym x.1) (after_refusal f)
  after_step (Ok (Some u)) t x = after_deal u t x.1
  after_step (Ok None) t x = after_end t x.1
