-- Two worked rounds in contract 3: one that a grant opens, and one that goes to the better price across a border.
use Rattle.std.specs.Prelude.{ℕ, ℤ, List, [], ◌∷◌, pos, None, Ok, Err}
use Rattle.capacity.specs.declared.direction.Direction.{Direction}
use Rattle.capacity.specs.declared.faults.RegisterFault.TheVariants.{Short}
use Rattle.capacity.specs.declared.figures.Figures.{Figures}
use Rattle.book.specs.declared.rows.Kind.TheVariants.{Non}
use Rattle.book.specs.declared.rows.Side.{Side}
use Rattle.book.specs.declared.rows.Side.TheVariants.{Buy, Sell}
use Rattle.session.specs.declared.entries.Entry.{Entry}
use Rattle.session.specs.declared.faults.SessionFault.{SessionFault}
use Rattle.session.specs.declared.faults.SessionFault.TheVariants.{Register}
use Rattle.session.specs.Rounds.{Logged}
use Rattle.events.specs.declared.calls.Call.TheVariants.{Enter, Request, Notice}
use Rattle.events.specs.Events.{Answer}
use Rattle.trials.specs.Rows.{Row, row}

-- from area 0 to area b
abbrev pub way : ℕ → Direction
way b = record { contract = 3; from = 0; to = b }

-- NTC 100 there, and none back
abbrev pub hundred : Figures
hundred = record { ntc = 100; ntc_back = 0; aac = 0; aac_back = 0 }

-- 50 by number, area, side and limit
abbrev pub entry : ℕ → ℕ → Side → ℤ → Entry
entry n a s l = record { number = n; member = 7; contract = 3; area = a; terms = record { kind = Non; side = s; limit = l; quantity = 50; peak = 0; delta = 0 } }

abbrev pub accepted : Answer
accepted = Ok None

-- 100 can still flow, and less than was asked
abbrev pub short : SessionFault
short = Register (Short (way 1) (pos 100))

-- 50 from area 1 to area 0, at the limit of the older order
abbrev pub traded_back : Logged
traded_back = record {
  trade = record { contract = 3; buy = 2; sell = 1; buyer = 0; seller = 1; price = pos 4000; quantity = 50; areas = 2 };
  route = 1 ∷ 0 ∷ [];
}

-- A sell rests in area 1, and in area 0 a buy that it meets, but there is no way from 1 to 0. A request of 101 from 0 to 1 is refused,
-- since 100 can flow; one of 100 is granted, opens the way back, and its round trades.
abbrev pub grant : List Row
grant =
    row (Notice (way 1) hundred) accepted []
    ∷ row (Enter (entry 1 1 Sell (pos 4000))) accepted []
    ∷ row (Enter (entry 2 0 Buy (pos 5000))) accepted []
    ∷ row (Request (way 1) 101) (Err short) []
    ∷ row (Request (way 1) 100) accepted (traded_back ∷ [])
    ∷ []

-- 50 from area 0 to area 2, at the limit of the order that rested
abbrev pub traded_across : Logged
traded_across = record {
  trade = record { contract = 3; buy = 2; sell = 4; buyer = 2; seller = 0; price = pos 6000; quantity = 50; areas = 2 };
  route = 0 ∷ 2 ∷ [];
}

-- Buys rest in area 1 at 5,000 and in area 2 at 6,000, and in area 1 a sell at 5,500, with no way from 1. A sell in area 0 at 4,500
-- trades with the buy in area 2.
abbrev pub border : List Row
border =
    row (Notice (way 1) hundred) accepted []
    ∷ row (Notice (way 2) hundred) accepted []
    ∷ row (Enter (entry 1 1 Buy (pos 5000))) accepted []
    ∷ row (Enter (entry 2 2 Buy (pos 6000))) accepted []
    ∷ row (Enter (entry 3 1 Sell (pos 5500))) accepted []
    ∷ row (Enter (entry 4 0 Sell (pos 4500))) accepted (traded_across ∷ [])
    ∷ []
