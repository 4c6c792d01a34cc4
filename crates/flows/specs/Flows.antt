-- What a trade asks of a register's meaning: open directions, the least ATC of a route, and the takes along it.
use Rattle.std.specs.Prelude.{ℕ, ◌≤◌, min, Bool, cond, ◌&&◌, List, ℤ, pos, ◌≤ℤ◌, int_le, nat_le, unsigned_abs}
use Rattle.std.specs.Int.{int_min}
use Rattle.capacity.specs.Answers.{take_tests}
use Rattle.capacity.specs.Meaning.{Capacity, atc, taken}
use Rattle.capacity.specs.Tests.{resulting}
use Rattle.routes.specs.Paths.{Relation, Holds, Path}
use Rattle.flows.specs.Hops.{along, EachHop}

-- in contract c one can go from a to b: the areas are joined and at least one unit can flow
abbrev pub open_in : Capacity → ℕ → ℕ → ℕ → Bool
open_in m c a b = nat_le c 23 && (m.joins a b && int_le (pos 1) (atc m c a b))

abbrev pub OpenIn : Capacity → ℕ → Relation
OpenIn m c = Holds (open_in m c)

-- what can flow from a to b, 0 where the direction is not open
abbrev pub flow : Capacity → ℕ → ℕ → ℕ → ℕ
flow m c a b = cond (open_in m c a b) (unsigned_abs (atc m c a b)) 0

abbrev pub min_flow : Capacity → ℕ → ℕ → ℕ → ℕ → ℕ
min_flow m c n a b = min n (flow m c a b)

-- the least of n and of what can flow at each hop of the list
abbrev pub least_flow : Capacity → ℕ → ℕ → List ℕ → ℕ
least_flow m c n = along (min_flow m c) n

-- the least of z and of the ATCs from area to area of the list
abbrev pub least : Capacity → ℕ → ℤ → List ℕ → ℤ
least m c z = along (λ y a b. int_min y (atc m c a b)) z

-- what stands after a take of q is asked for: a take that is refused changes nothing
abbrev pub asked_take : ℕ → ℕ → Capacity → ℕ → ℕ → Capacity
asked_take c q m a b = resulting (take_tests m c a b q) m (taken m c a b q)

-- a take of q asked for on each connector of the list, in order
abbrev pub asked_along : Capacity → ℕ → ℕ → List ℕ → Capacity
asked_along m c q = along (asked_take c q) m

-- q more taken on each connector of the list
abbrev pub carried : Capacity → ℕ → ℕ → List ℕ → Capacity
carried m c q = along (λ n a b. taken n c a b q) m

-- no ATC from area to area of the list is below nought
abbrev pub NoneBelow : Capacity → ℕ → List ℕ → Type 0
NoneBelow m c = EachHop (λ a b. pos 0 ≤ℤ atc m c a b)

-- a route from x to y can carry q, at most n, in contract c
pub record Carries (m : Capacity) (c x y n q : ℕ) (xs : List ℕ) : Type 0 where
  pub path : Path (OpenIn m c) x y xs
  pub some : 1 ≤ q
  pub few : q ≤ 99999
  pub fits : pos q ≤ℤ least m c (pos n) xs
