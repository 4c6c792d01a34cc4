-- When an order stands, by the events themselves: what gave it, that nothing took it out since, and what was traded of it since.
use Rattle.std.specs.Prelude.{◌≡◌, ℕ, ◌<◌, cond, ◌||◌, List, ◌∷◌, ◌++◌, map, Ok, Err, None, Option, ◌==◌}
use Rattle.book.specs.declared.rows.Kind.TheVariants.{Ioc}
use Rattle.book.specs.declared.rows.Side.{Side}
use Rattle.capacity.specs.Meaning.{Capacity, Sound}
use Rattle.routes.specs.Paths.{NoRepeat}
use Rattle.session.specs.declared.entries.Change.{Change as AChange}
use Rattle.session.specs.declared.entries.Entry.{Entry}
use Rattle.session.specs.State.{State}
use Rattle.events.specs.declared.calls.Call.TheVariants.{Enter, Change, Withdraw, Close}
use Rattle.events.specs.declared.events.Event.{Event}
use Rattle.events.specs.declared.events.Event.TheVariants.{Called, Stepped}
use Rattle.history.specs.History.{Reached}
use Rattle.history.specs.Standing.{◌∈◌, Standing, still_open, newly, regiven, over_trades, standing, open_on}

-- what steps answered as traded with the number n, as the buy's or as the sell's
abbrev pub traded_of : ℕ → List Event → ℕ
traded_of n = over_trades (λ t. cond (n == t.buy || n == t.sell) t.quantity 0)

-- What takes out an order that was given so: its withdrawal and the closing of its contract, the end of a round if it is IOC; and a
-- change of it, which gives it anew. A call that is refused takes nothing out.
abbrev pub TakesOut : Event → Entry → Type 0
TakesOut (Called p k (Err f)) x = ⊥
TakesOut (Called p (Withdraw n m) (Ok a)) x = x.number ≡ n
TakesOut (Called p (Close c) (Ok a)) x = x.contract ≡ c
TakesOut (Called p (Change c) (Ok a)) x = x.number ≡ c.number
TakesOut (Stepped p z (Ok None)) x = x.terms.kind ≡ Ioc
TakesOut other x = ⊥

-- An order given as x is remains through the events since: nothing took it out, x has what was traded with its number, and it is not
-- used up.
pub record Remains (x : Standing) (since : List Event) : Type 0 where
  pub stays : (e : Event) → e ∈ since → TakesOut e x.given → ⊥
  pub traded : x.traded ≡ traded_of x.given.number since
  pub some_open : 0 < still_open x

-- as it was given, with nothing traded yet
abbrev pub as_given : Standing → Standing
as_given x = record { given = x.given; traded = 0 }

mutual
  -- The newest of these events gives an order so: an accepted entry, or an accepted change of an order that stood before it, which
  -- keeps all but limit and quantity.
  pub data Gives : List Event → Standing → Type 0 where
    by_entry : (p : ℕ) (e : Entry) (a : Option ℕ) (before : List Event)
        → Gives (Called p (Enter e) (Ok a) ∷ before) (newly e)
    by_change : (p : ℕ) (c : AChange) (a : Option ℕ) (before : List Event) (y : Standing)
        → Stands before y
        → y.given.number ≡ c.number
        → Gives (Called p (Change c) (Ok a) ∷ before) (newly (regiven y.given c.limit c.quantity))

  -- After these events, newest first, an order stands: it was given, and remains through all that happened since. What is open of it
  -- is `still_open`, its limit `limit_now`.
  pub data Stands : List Event → Standing → Type 0 where
    stands : (since until : List Event) (x : Standing)
        → Gives until (as_given x)
        → Remains x since
        → Stands (since ++ until) x

-- the list has each order that stands, has no other, and no number twice
pub record Lists (h : List Event) (l : List Standing) : Type 0 where
  pub each : (x : Standing) → Stands h x → x ∈ l
  pub only : (x : Standing) → x ∈ l → Stands h x
  pub once : NoRepeat (map (λ x. x.given.number) l)

-- what is open on a side of a contract is the same over every list of what stands
abbrev pub Sums : List Event → List Standing → Type 0
Sums h l = (k : List Standing) → Lists h k → (c : ℕ) (d : Side) → open_on c d k ≡ open_on c d l

-- for every register, every session and every list of events, the list that is carried along the events has just what stands
abbrev pub StandingTold : Type 0
StandingTold =
    (m : Capacity) (n : ℕ) (h : List Event) (s : State) → Sound m → Reached m n h s → Lists h (standing h) × Sums h (standing h)
