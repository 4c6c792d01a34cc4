-- What the book of a session keeps: every order in range through all its slices, and no number twice.
use Rattle.std.specs.Prelude.{◌≡◌, ℕ, ◌+◌, ◌*◌, ◌≤◌, true, List, [], ◌∷◌, ℤ, pos, negsuc, ◌≤ℤ◌, ◌≢◌}
use Rattle.std.specs.List.{AllByRecursion}
use Rattle.book.specs.declared.rows.Kind.{Kind}
use Rattle.book.specs.declared.rows.Kind.TheVariants.{Non, Ioc, Ice}
use Rattle.book.specs.declared.rows.Order.{Order}
use Rattle.book.specs.Orders.{moved, shows}

abbrev pub InLimits : ℤ → Type 0
InLimits l = (negsuc 999998 ≤ℤ l) × (l ≤ℤ pos 999999)

-- an iceberg shows no more than its peak or what is open, and some number of further slices shows the rest, the last at a limit in range
pub record Sliced (o : Order) : Type 0 where
  pub peaked : o.shown ≤ o.peak
  pub within : o.shown ≤ o.«open»
  pub further : ℕ
  pub enough : o.«open» ≤ o.shown + further * o.peak
  pub last : InLimits (moved o.side o.limit (o.delta * further))

-- NON and IOC show all that is open
abbrev pub Parted : Kind → Order → Type 0
Parted Non o = o.shown ≡ o.«open»
Parted Ioc o = o.shown ≡ o.«open»
Parted Ice o = Sliced o

-- in range now, and through all slices to come
abbrev pub Lasts : Order → Type 0
Lasts o = InLimits o.limit × Parted o.kind o × (o.«open» ≤ 9999)

-- an order as the book may hold it: it shows some, and lasts
abbrev pub Fit : Order → Type 0
Fit o = (shows o ≡ true) × Lasts o

-- no order has the number n
abbrev pub Lacks : ℕ → List Order → Type 0
Lacks n os = AllByRecursion (λ o. o.number ≢ n) os

-- no two orders have one number
abbrev pub Distinct : List Order → Type 0
Distinct [] = Unit {0}
Distinct (o ∷ os) = Lacks o.number os × Distinct os

pub record Orderly (os : List Order) : Type 0 where
  pub fit : AllByRecursion Fit os
  pub distinct : Distinct os
