-- Two orders in a round, wherever they stand in the book: for the contracts of the private functions that compare them.
use Rattle.std.specs.Prelude.{◌≡◌, ℕ, ◌<◌, ◌⊎◌, List, length, ◌≤ℤ◌}
use Rattle.book.specs.declared.rows.Order.{Order}
use Rattle.book.specs.declared.rows.Side.TheVariants.{Buy, Sell}
use Rattle.book.specs.Ranks.{order_at}
use Rattle.routes.specs.Paths.{Relation}
use Rattle.matching.specs.declared.round.Round.{Round}
use Rattle.matching.specs.declared.round.Round.TheVariants.{Regular, Batch}

-- a buy and a sell of one contract whose limits meet
pub record Meeting (b s : Order) : Type 0 where
  pub buys : b.side ≡ Buy
  pub sells : s.side ≡ Sell
  pub one_contract : b.contract ≡ s.contract
  pub meet : s.limit ≤ℤ b.limit

abbrev pub Concerns : Round → Order → Order → Type 0
Concerns (Regular c n) b s = (b.contract ≡ c) × ((b.number ≡ n) ⊎ (s.number ≡ n))
Concerns (Batch c) b s = b.contract ≡ c

-- they may trade with each other, by a relation of the areas that lead to each other
abbrev pub Trading : Relation → Round → Order → Order → Type 0
Trading Leads round b s = Meeting b s × Concerns round b s × Leads s.area b.area

-- the orders at the places i and j may
abbrev pub TradingAt : Relation → Round → List Order → ℕ → ℕ → Type 0
TradingAt Leads round os i j = (i < length os) × (j < length os) × Trading Leads round (order_at os i) (order_at os j)
