-- What a round trades next: over the register's meaning and the list of orders, oldest first.
use Rattle.std.specs.Prelude.{◌≡◌, ℕ, min, cond, List, length, ℤ, pos, ◌==◌, nat_lt}
use Rattle.book.specs.declared.rows.Order.{Order}
use Rattle.book.specs.Ranks.{order_at}
use Rattle.capacity.specs.Meaning.{Capacity}
use Rattle.flows.specs.Flows.{OpenIn, least}
use Rattle.matching.specs.declared.round.Round.{Round}
use Rattle.matching.specs.declared.round.Round.TheVariants.{Regular, Batch}
use Rattle.matching.specs.Pairs.{Chosen}
use Rattle.routes.specs.Paths.{IsRoute}
use Rattle.trades.specs.declared.trade.Trade.{Trade}

abbrev pub traded_contract : Round → ℕ
traded_contract (Regular c n) = c
traded_contract (Batch c) = c

-- of the buy b at place i and the sell s at place j: the other's limit in a regular round, the older one's in a batch
abbrev pub price : Round → ℕ → ℕ → Order → Order → ℤ
price (Regular c n) i j b s = cond (b.number == n) s.limit b.limit
price (Batch c) i j b s = cond (nat_lt i j) b.limit s.limit

-- The round trades x along the route xs: the pair that it chooses, by numbers and areas; the route from the seller's area to the
-- buyer's; and the least of both shown parts and every ATC on the route.
pub record Deals (m : Capacity) (os : List Order) (r : Round) (x : Trade) (xs : List ℕ) : Type 0 where
  pub i : ℕ
  pub j : ℕ
  pub chosen : Chosen (OpenIn m (traded_contract r)) r os i j
  pub contract : x.contract ≡ traded_contract r
  pub buy : x.buy ≡ (order_at os i).number
  pub sell : x.sell ≡ (order_at os j).number
  pub buyer : x.buyer ≡ (order_at os i).area
  pub seller : x.seller ≡ (order_at os j).area
  pub at_price : x.price ≡ price r i j (order_at os i) (order_at os j)
  pub route : IsRoute (OpenIn m (traded_contract r)) (order_at os j).area (order_at os i).area xs
  pub areas : x.areas ≡ length xs
  pub quantity : pos x.quantity ≡ least m (traded_contract r) (pos (min (order_at os i).shown (order_at os j).shown)) xs
