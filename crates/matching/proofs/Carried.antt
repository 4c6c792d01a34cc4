-- Pairs, and which of them a round trades, carry over to a relation with the same directions open between different areas.
use Rattle.std.proofs.Common.{ℕ, List}
use Rattle.book.specs.declared.rows.Order.{Order}
use Rattle.book.specs.Ranks.{order_at}
use Rattle.routes.specs.Laws.{Within}
use Rattle.routes.specs.Paths.{Relation}
use Rattle.routes.proofs.Carried.{path_over}
use Rattle.matching.specs.declared.round.Round.{Round}
use Rattle.matching.specs.declared.round.Round.TheVariants.{Regular, Batch}
use Rattle.matching.specs.Pairs.{Executable, InRound, Chosen}

module _ (O P : Relation) (w : Within O P) where
  pub executable_over : (os : List Order) (i j : ℕ) → Executable O os i j → Executable P os i j
  executable_over os i j h = record {
    buy_in = h.buy_in;
    sell_in = h.sell_in;
    buys = h.buys;
    sells = h.sells;
    one_contract = h.one_contract;
    meet = h.meet;
    leads = (h.leads.0, path_over O P w (order_at os j).area (order_at os i).area h.leads.0 h.leads.1);
  }

  pub in_round_over : (round : Round) (os : List Order) (i j : ℕ) → InRound O round os i j → InRound P round os i j
  in_round_over (Regular c n) os i j h = (executable_over os i j h.0, h.1, h.2)
  in_round_over (Batch c) os i j h = (executable_over os i j h.0, h.1)

pub chosen_over : (O P : Relation) → Within O P → Within P O → (round : Round) (os : List Order) (i j : ℕ) → Chosen O round os i j → Chosen P round os i j
chosen_over O P there back round os i j h = record {
  pair = in_round_over O P there round os i j h.pair;
  best_buy = λ i' j' q. h.best_buy i' j' (in_round_over P O back round os i' j' q);
  best_sell = λ j' q. h.best_sell j' (in_round_over P O back round os i j' q);
}
