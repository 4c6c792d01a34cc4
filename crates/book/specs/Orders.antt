-- Orders: how they are entered, and their slices and limits.
use Rattle.std.specs.Prelude.{ℕ, ◌-◌, min, Bool, true, false, not, ◌&&◌, ◌||◌, ℤ, pos, negsuc, ◌+ℤ◌, ◌-ℤ◌, ◌==◌, int_lt, nat_lt}
use Rattle.book.specs.declared.rows.Side.{Side}
use Rattle.book.specs.declared.rows.Side.TheVariants.{Buy, Sell}
use Rattle.book.specs.declared.rows.Kind.{Kind}
use Rattle.book.specs.declared.rows.Kind.TheVariants.{Non, Ioc, Ice}
use Rattle.book.specs.declared.rows.Order.{Order}
use Rattle.book.specs.declared.rows.OrderTerms.{OrderTerms}

abbrev pub is_ice : Kind → Bool
is_ice Non = false
is_ice Ioc = false
is_ice Ice = true

abbrev pub is_ioc : Kind → Bool
is_ioc Non = false
is_ioc Ioc = true
is_ioc Ice = false

-- whether an order rests once the round of the incoming order n is done: an incoming IOC does not
abbrev pub rests : ℕ → Order → Bool
rests n o = not (o.number == n && is_ioc o.kind)

-- what a kind shows at first of a quantity
abbrev pub first_slice : Kind → ℕ → ℕ → ℕ
first_slice Non peak q = q
first_slice Ioc peak q = q
first_slice Ice peak q = min peak q

-- a limit moved by d: it falls for a buy and rises for a sell
abbrev pub moved : Side → ℤ → ℕ → ℤ
moved Buy l d = l -ℤ pos d
moved Sell l d = l +ℤ pos d

-- outside −999,999 to 999,999
abbrev pub beyond : ℤ → Bool
beyond l = int_lt l (negsuc 999998) || int_lt (pos 999999) l

-- an order as it is entered: number, member, contract, area and terms
abbrev pub entered : ℕ → ℕ → ℕ → ℕ → OrderTerms → Order
entered n m c a t = record {
  number = n;
  member = m;
  contract = c;
  side = t.side;
  area = a;
  kind = t.kind;
  limit = t.limit;
  «open» = t.quantity;
  shown = first_slice t.kind t.peak t.quantity;
  peak = t.peak;
  delta = t.delta;
}

-- the order with another limit, open quantity and shown part
abbrev pub with_parts : ℤ → ℕ → ℕ → Order → Order
with_parts l q v o = record {
  number = o.number;
  member = o.member;
  contract = o.contract;
  side = o.side;
  area = o.area;
  kind = o.kind;
  limit = l;
  «open» = q;
  shown = v;
  peak = o.peak;
  delta = o.delta;
}

-- a trade lowers shown and open alike
abbrev pub lessened : ℕ → Order → Order
lessened q o = with_parts o.limit (o.«open» - q) (o.shown - q) o

abbrev pub next_slice : Order → Order
next_slice o = with_parts (moved o.side o.limit o.delta) o.«open» (min o.peak o.«open») o

abbrev pub shows : Order → Bool
shows o = nat_lt 0 o.shown

-- nothing shown, some open
abbrev pub run_out : Order → Bool
run_out o = not (shows o) && nat_lt 0 o.«open»
