-- Icebergs as the rows that they are made from and written back to.
use Rattle.std.specs.Prelude.{◌≡◌, Bool, true, false, ◌&&◌, Some, None, Ok, Err, Option, Result, min, nat_le, nat_lt}
use Rattle.book.specs.declared.rows.Order.{Order}
use Rattle.book.specs.declared.iced.Iceberg.{Iceberg}
use Rattle.book.specs.Orders.{is_ice, first_slice, shows, with_parts}

-- the row is an iceberg's: it shows at least 1, and never more than its peak or what is open
abbrev pub is_iceberg : Order → Bool
is_iceberg o = is_ice o.kind && (nat_lt 0 o.shown && (nat_le o.shown o.peak && nat_le o.shown o.«open»))

-- an order of kind ICE is an iceberg, and no other is
abbrev pub Iced : Order → Type 0
Iced o = is_iceberg o ≡ is_ice o.kind

-- the same while it shows some
abbrev pub IcedIfShown : Order → Type 0
IcedIfShown o = shows o ≡ true → Iced o

-- the row with the smaller of its peak and what is open shown
abbrev pub sliced : Order → Order
sliced o = with_parts o.limit o.«open» (min o.peak o.«open») o

-- the row with what its kind shows at first
abbrev pub with_first_slice : Order → Order
with_first_slice o = with_parts o.limit o.«open» (first_slice o.kind o.peak o.«open») o

-- the row of an iceberg, if there is one
abbrev pub row_if : Option Iceberg → Option Order
row_if None = None
row_if (Some i) = Some i.order

-- the row that a trade leaves, and whether it is still an iceberg's
abbrev pub row_left : Result Iceberg Order → Order
row_left (Ok i) = i.order
row_left (Err o) = o

abbrev pub is_showing : Result Iceberg Order → Bool
is_showing (Ok i) = true
is_showing (Err o) = false
