-- The pair that the best buy and the best sell make, by a relation that says the same as paths.
use Rattle.std.proofs.Common.{ℕ, List, Some, None}
use Rattle.book.specs.declared.rows.Order.{Order}
use Rattle.book.specs.Ranks.{order_at}
use Rattle.routes.specs.Paths.{Relation}
use Rattle.matching.specs.declared.round.Round.{Round}
use Rattle.matching.specs.Ways.{Way}
use Rattle.matching.specs.Orders.{TradingAt}
use Rattle.matching.specs.Bests.{Best}
use Rattle.matching.specs.Pairs.{InRound, Chosen}
use Rattle.matching.proofs.Members.{executable, concerns, in_round}

module _ (O W : Relation) (there : (p q : ℕ) → W p q → Way O p q) (back : (p q : ℕ) → Way O p q → W p q) (round : Round) (os : List Order) where
  paired : (i j : ℕ) → TradingAt W round os i j → InRound O round os i j
  paired i j h =
      let m = h.2.0 in
      in_round O round os i j (record {
        buy_in = h.0;
        sell_in = h.1;
        buys = m.buys;
        sells = m.sells;
        one_contract = m.one_contract;
        meet = m.meet;
        leads = there (order_at os j).area (order_at os i).area h.2.2;
      }) h.2.1

  trading : (i j : ℕ) → InRound O round os i j → TradingAt W round os i j
  trading i j h =
      let e = executable O round os i j h in
      (e.buy_in, e.sell_in, (record { buys = e.buys; sells = e.sells; one_contract = e.one_contract; meet = e.meet }, concerns O round os i j h, back (order_at os j).area (order_at os i).area e.leads))

  pub no_pair : Best (λ k. (l : ℕ) × TradingAt W round os k l) os None → (i j : ℕ) → InRound O round os i j → ⊥
  no_pair h i j p = let t = trading i j p in h i t.0 (j, t)

  pub chosen : (i j : ℕ) → Best (λ k. (l : ℕ) × TradingAt W round os k l) os (Some i) → Best (TradingAt W round os i) os (Some j) → Chosen O round os i j
  chosen i j h k = record {
    pair = paired i j k.0;
    best_buy = λ i' j' p. let t = trading i' j' p in h.1 i' t.0 (j', t);
    best_sell = λ j' p. let t = trading i j' p in k.1 j' t.1 t;
  }
