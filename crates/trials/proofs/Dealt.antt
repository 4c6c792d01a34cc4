-- The trade of a chosen pair.
use Rattle.std.proofs.Common.{◌≡◌, ℕ, min, List, length, pos, refl}
use Rattle.capacity.specs.Meaning.{Capacity}
use Rattle.book.specs.declared.rows.Order.{Order}
use Rattle.book.specs.Ranks.{order_at}
use Rattle.flows.specs.Flows.{OpenIn, least}
use Rattle.matching.specs.declared.round.Round.{Round}
use Rattle.matching.specs.Pairs.{Chosen}
use Rattle.routes.specs.Paths.{IsRoute}
use Rattle.trades.specs.declared.trade.Trade.{Trade}
use Rattle.trades.specs.Deals.{traded_contract, price, Deals}

module _ (m : Capacity) (os : List Order) (r : Round) (i j : ℕ) (xs : List ℕ) (q : ℕ) where
  abbrev pub trade_of : Trade
  trade_of =
      let b = order_at os i in
      let s = order_at os j in
      record { contract = traded_contract r; buy = b.number; sell = s.number; buyer = b.area; seller = s.area; price = price r i j b s; quantity = q; areas = length xs }

  pub dealt : Chosen (OpenIn m (traded_contract r)) r os i j
      → IsRoute (OpenIn m (traded_contract r)) (order_at os j).area (order_at os i).area xs
      → pos q ≡ least m (traded_contract r) (pos (min (order_at os i).shown (order_at os j).shown)) xs
      → Deals m os r trade_of xs
  dealt chosen route most = record { i = i; j = j; chosen = chosen; contract = refl; buy = refl; sell = refl; buyer = refl; seller = refl; at_price = refl; route = route; areas = refl; quantity = most }
