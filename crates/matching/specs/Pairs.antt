-- Which pairs of orders a round may trade, and which of them it trades: by places in the list of orders, oldest first, and over any relation of open directions.
use Rattle.std.specs.Prelude.{◌≡◌, ℕ, ◌<◌, ◌⊎◌, List, length, ◌≤ℤ◌}
use Rattle.book.specs.declared.rows.Order.{Order}
use Rattle.book.specs.declared.rows.Side.TheVariants.{Buy, Sell}
use Rattle.book.specs.Ranks.{RanksAbove, order_at}
use Rattle.routes.specs.Paths.{Relation, Path}
use Rattle.matching.specs.declared.round.Round.{Round}
use Rattle.matching.specs.declared.round.Round.TheVariants.{Regular, Batch}

-- the buy at i and the sell at j are of one contract, the buy's limit is at least the sell's, and a path leads from the sell's area to the buy's
pub record Executable (Open : Relation) (os : List Order) (i j : ℕ) : Type 0 where
  pub buy_in : i < length os
  pub sell_in : j < length os
  pub buys : (order_at os i).side ≡ Buy
  pub sells : (order_at os j).side ≡ Sell
  pub one_contract : (order_at os i).contract ≡ (order_at os j).contract
  pub meet : (order_at os j).limit ≤ℤ (order_at os i).limit
  pub leads : (xs : List ℕ) × Path Open (order_at os j).area (order_at os i).area xs

-- a pair of the round: it is of the round's contract, and in a regular round the incoming order stands in it
abbrev pub InRound : Relation → Round → List Order → ℕ → ℕ → Type 0
InRound Open (Regular c n) os i j = Executable Open os i j × ((order_at os i).contract ≡ c) × (((order_at os i).number ≡ n) ⊎ ((order_at os j).number ≡ n))
InRound Open (Batch c) os i j = Executable Open os i j × ((order_at os i).contract ≡ c)

-- the pair that the round trades: the highest-ranked buy in any pair of it, and the highest-ranked sell in a pair of it with that buy
pub record Chosen (Open : Relation) (round : Round) (os : List Order) (i j : ℕ) : Type 0 where
  pub pair : InRound Open round os i j
  pub best_buy : (i' j' : ℕ) → InRound Open round os i' j' → (i' ≡ i) ⊎ RanksAbove os i i'
  pub best_sell : (j' : ℕ) → InRound Open round os i j' → (j' ≡ j) ⊎ RanksAbove os j j'
