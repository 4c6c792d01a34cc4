-- A trade that a round makes: how much it is, that the book and what stands agree after it, and that the smaller side has less.
use Rattle.std.proofs.Common.{◌≡◌, ℕ, ◌+◌, ◌≤◌, min, true, eqb, ltb, List, map, filter, sym, ◌∙◌, subst, inl, inr, arith}
use Rattle.std.proofs.lemmas.Bool.{or_cases, eqb-true}
use Rattle.book.specs.declared.rows.Order.{Order}
use Rattle.book.specs.Orderly.{Orderly}
use Rattle.book.specs.Ranks.{order_at}
use Rattle.book.specs.Trades.{settled}
use Rattle.capacity.specs.Meaning.{Capacity}
use Rattle.flows.specs.Flows.{OpenIn}
use Rattle.flows.proofs.Least.{least_most}
use Rattle.matching.specs.declared.round.Round.{Round}
use Rattle.matching.specs.declared.round.Round.TheVariants.{Regular, Batch}
use Rattle.matching.specs.Pairs.{Executable, InRound}
use Rattle.session.proofs.Carrying.{deal_carries}
use Rattle.trades.specs.declared.trade.Trade.{Trade}
use Rattle.trades.specs.Deals.{traded_contract, Deals}
use Rattle.trades.proofs.Dealing.{executable}
use Rattle.history.specs.Standing.{◌∈◌, Standing, still_open, with_trade, smaller}
use Rattle.history.proofs.Agreeing.{Agree, agree_trade}
use Rattle.history.proofs.Bound.{smaller_after}
use Rattle.history.proofs.Numbered.{at_in, one_order}
use Rattle.history.proofs.Rows.{traded_in}
use Rattle.history.proofs.Same.{Same, same_open, same_shown}

-- a pair of a round is of its contract
round_contract : (O : ℕ → ℕ → Type 0) (r : Round) (os : List Order) (i j : ℕ) → InRound O r os i j → (order_at os i).contract ≡ traded_contract r
round_contract O (Regular c n) os i j h = h.1
round_contract O (Batch c) os i j h = h.1

-- what is shown of a standing order is no more than is open
upto : (q : ℕ) (x : Order) (w : Standing) → Same x w → q ≤ x.shown → q ≤ still_open w
upto q x w s h = omega (arith, same_open x w s, (same_shown x w s).1)

module _ (m : Capacity) (os : List Order) (r : Round) (x : Trade) (xs : List ℕ) (orderly : Orderly os) (d : Deals m os r x xs) where
  pair : Executable (OpenIn m (traded_contract r)) os d.i d.j
  pair = executable (OpenIn m (traded_contract r)) r os d.i d.j d.chosen.pair

  -- at least 1, and no more than each of its orders shows
  pub deal_size : (1 ≤ x.quantity) × (x.quantity ≤ (order_at os d.i).shown) × (x.quantity ≤ (order_at os d.j).shown)
  deal_size =
      let n = min (order_at os d.i).shown (order_at os d.j).shown in
      let c = deal_carries m os r x xs ∣ orderly ∣₁ d in
      let most : x.quantity ≤ n = least_most m x.contract n x.quantity _ _ xs c.path c.fits in
      (c.some, omega arith, omega arith)

  pub deal_fits : (y : Order) → y ∈ os → traded_in x.buy x.sell y.number ≡ true → x.quantity ≤ y.shown
  deal_fits y i e =
      let fits : Order → Type 0 = λ z. x.quantity ≤ z.shown in
      elim (or_cases (eqb y.number x.buy) (eqb y.number x.sell) e) [
        | inl g ↦ subst fits (sym (one_order os orderly.distinct y (order_at os d.i) i (at_in os d.i pair.buy_in) (eqb-true y.number x.buy g ∙ d.buy))) deal_size.1
        | inr g ↦ subst fits (sym (one_order os orderly.distinct y (order_at os d.j) i (at_in os d.j pair.sell_in) (eqb-true y.number x.sell g ∙ d.sell))) deal_size.2
      ]

  module _ (l : List Standing) (a : Agree os l) where
    pub agree_deal : Agree (settled x.buy x.sell x.quantity os) (filter (λ x. ltb 0 (still_open x)) (map (with_trade x) l))
    agree_deal = agree_trade x os l a deal_fits

    pub smaller_deal : smaller (traded_contract r) (filter (λ x. ltb 0 (still_open x)) (map (with_trade x) l)) + 1 ≤ smaller (traded_contract r) l
    smaller_deal =
        let b = a.row (order_at os d.i) (at_in os d.i pair.buy_in) in
        let s = a.row (order_at os d.j) (at_in os d.j pair.sell_in) in
        let c = round_contract (OpenIn m (traded_contract r)) r os d.i d.j d.chosen.pair in
        smaller_after (traded_contract r) x b.0 s.0 (λ x. ltb 0 (still_open x)) l b.1 s.1
        (sym b.2.number ∙ sym d.buy) (sym s.2.number ∙ sym d.sell)
        (sym b.2.contract ∙ c) (sym s.2.contract ∙ sym pair.one_contract ∙ c)
        (sym b.2.side ∙ pair.buys) (sym s.2.side ∙ pair.sells)
        deal_size.0 (upto x.quantity (order_at os d.i) b.0 b.2 deal_size.1) (upto x.quantity (order_at os d.j) s.0 s.2 deal_size.2)
