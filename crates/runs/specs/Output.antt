-- The lines that a run prints of what the session refuses and trades.
use Rattle.std.specs.Prelude.{ℕ, List, [], ◌∷◌, ◌++◌, map, codes}
use Rattle.trades.specs.declared.trade.Trade.{Trade}
use Rattle.session.specs.Rounds.{Logged}
use Rattle.reading.specs.Output.{refusal_line}
use Rattle.reading.specs.Printing.{Number, plain, amount, price, Line}
use Rattle.lines.specs.declared.faults.LineFault.{LineFault}
use Rattle.lines.specs.Faults.{number, place}

abbrev pub refused_line : ℕ → LineFault → Line
refused_line n e = refusal_line n (number e) (place e)

-- contract, the buy's and the sell's number, the price and the quantity
abbrev pub deal_numbers : Trade → List Number
deal_numbers t = plain t.contract ∷ plain t.buy ∷ plain t.sell ∷ price t.price ∷ amount t.quantity ∷ []

-- a trade, and the areas of its route
abbrev pub trade_line : Logged → Line
trade_line x = record { letter = codes "T"; numbers = deal_numbers x.trade ++ map plain x.route }
