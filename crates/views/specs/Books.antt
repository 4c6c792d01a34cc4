-- The lines of the book view.
use Rattle.std.specs.Prelude.{◌≡◌, ℕ, ◌<◌, false, List, [], ◌∷◌, length, pos, Some, None, Decides, Option}
use Rattle.book.specs.declared.rows.Order.{Order}
use Rattle.book.specs.declared.rows.Side.{Side}
use Rattle.book.specs.declared.rows.Side.TheVariants.{Buy, Sell}
use Rattle.book.specs.Orders.{is_ioc}
use Rattle.book.specs.Ranks.{order_at, RanksAbove}
use Rattle.capacity.specs.Meaning.{Capacity}
use Rattle.flows.specs.Flows.{OpenIn, least}
use Rattle.routes.specs.Paths.{Path, IsRoute}
use Rattle.session.specs.Calls.{Test, contract_test, closed_test, area_test}
use Rattle.session.specs.State.{State}
use Rattle.views.specs.declared.lines.BookLine.{BookLine}
use Rattle.views.specs.Gathered.{Gathered}
use Rattle.views.specs.Ranks.{book_before}

-- which way a path must lead between the view's area a and an order's area b: from a to a buy, from a sell to a
abbrev pub way : Side → ℕ → ℕ → ℕ × ℕ
way Buy a b = (a, b)
way Sell a b = (b, a)

-- an order of the contract and side that is not IOC
pub record Wanted (c : ℕ) (s : Side) (o : Order) : Type 0 where
  pub contract : o.contract ≡ c
  pub side : o.side ≡ s
  pub rests : is_ioc o.kind ≡ false

-- the view of contract c from area a shows the order o: it is wanted, and a path leads
abbrev pub Seen : Capacity → ℕ → ℕ → Side → Order → Type 0
Seen m c a s o = Wanted c s o × ((xs : List ℕ) × Path (OpenIn m c) (way s a o.area).0 (way s a o.area).1 xs)

-- the line x of the order o at place i: its quantity is the least of the shown part and the ATCs on the route
pub record Line (m : Capacity) (c a : ℕ) (s : Side) (i : ℕ) (o : Order) (x : BookLine) : Type 0 where
  pub wanted : Wanted c s o
  pub side : x.side ≡ s
  pub limit : x.limit ≡ o.limit
  pub place : x.place ≡ i
  pub route : List ℕ
  pub along : IsRoute (OpenIn m c) (way s a o.area).0 (way s a o.area).1 route
  pub quantity : pos x.quantity ≡ least m c (pos o.shown) route

-- what the view shows of place i
abbrev pub Shows : Capacity → List Order → ℕ → ℕ → Side → ℕ → Option BookLine → Type 0
Shows m os c a s i None = Seen m c a s (order_at os i) → ⊥
Shows m os c a s i (Some x) = Line m c a s i (order_at os i) x

-- the lines of all places
abbrev pub LinesOf : Capacity → List Order → ℕ → ℕ → Side → List BookLine → Type 0
LinesOf m os c a s = Gathered (Shows m os c a s) (length os)

abbrev pub BookLines : State → ℕ → ℕ → Side → List BookLine → Type 0
BookLines s c a side = LinesOf s.capacity s.book c a side

-- Of two lines the one comes first whose order ranks above the other's.
abbrev pub AsRanked : State → ℕ → ℕ → Side → Type 0
AsRanked s c a side =
    (i j : ℕ) (x y : BookLine)
    → i < length s.book → j < length s.book → Shows s.capacity s.book c a side i (Some x) → Shows s.capacity s.book c a side j (Some y)
    → Decides (book_before x y) (RanksAbove s.book i j)

-- what a view of a contract from an area is refused by, before its lines count
abbrev pub area_tests : State → ℕ → ℕ → List Test
area_tests s c a = contract_test c ∷ closed_test s c ∷ area_test a ∷ []
