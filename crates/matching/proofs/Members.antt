-- What a pair of a round is: executable, of the round's contract, and with the incoming order in it in a regular round.
use Rattle.std.proofs.Common.{ℕ, List}
use Rattle.book.specs.declared.rows.Order.{Order}
use Rattle.book.specs.Ranks.{order_at}
use Rattle.routes.specs.Paths.{Relation}
use Rattle.matching.specs.declared.round.Round.{Round}
use Rattle.matching.specs.declared.round.Round.TheVariants.{Regular, Batch}
use Rattle.matching.specs.Orders.{Concerns}
use Rattle.matching.specs.Pairs.{Executable, InRound}

module _ (O : Relation) where
  pub executable : (round : Round) (os : List Order) (i j : ℕ) → InRound O round os i j → Executable O os i j
  executable (Regular c n) os i j h = h.0
  executable (Batch c) os i j h = h.0

  pub concerns : (round : Round) (os : List Order) (i j : ℕ) → InRound O round os i j → Concerns round (order_at os i) (order_at os j)
  concerns (Regular c n) os i j h = (h.1, h.2)
  concerns (Batch c) os i j h = h.1

  pub in_round : (round : Round) (os : List Order) (i j : ℕ) → Executable O os i j → Concerns round (order_at os i) (order_at os j) → InRound O round os i j
  in_round (Regular c n) os i j h k = (h, k.0, k.1)
  in_round (Batch c) os i j h k = (h, k)
