-- Which order ranks above which.
use Rattle.std.specs.Prelude.{◌≡◌, ℕ, ◌<◌, ◌⊎◌, List, length, ℤ, pos, ◌<ℤ◌, ◌≢◌, slice_index_or}
use Rattle.book.specs.declared.rows.Side.{Side}
use Rattle.book.specs.declared.rows.Side.TheVariants.{Buy, Sell}
use Rattle.book.specs.declared.rows.Kind.TheVariants.{Non}
use Rattle.book.specs.declared.rows.Order.{Order}

-- lower, or equal and older
abbrev pub Sooner : ℤ → ℤ → ℕ → ℕ → Type 0
Sooner l k i j = (l <ℤ k) ⊎ ((l ≡ k) × (i < j))

-- a buy ranks above another by a higher limit, a sell by a lower one, and at equal limits the older
abbrev pub Ahead : Side → Side → ℤ → ℤ → ℕ → ℕ → Type 0
Ahead Buy Buy l k i j = Sooner k l i j
Ahead Buy Sell l k i j = ⊥
Ahead Sell Buy l k i j = ⊥
Ahead Sell Sell l k i j = Sooner l k i j

-- what is read past the end of a list
abbrev pub blank : Order
blank = record {
  number = 0;
  member = 0;
  contract = 0;
  side = Buy;
  area = 0;
  kind = Non;
  limit = pos 0;
  «open» = 0;
  shown = 0;
  peak = 0;
  delta = 0;
}

abbrev pub order_at : List Order → ℕ → Order
order_at os i = slice_index_or os i blank

-- the order at place i ranks above the one at place j
abbrev pub RanksAbove : List Order → ℕ → ℕ → Type 0
RanksAbove os i j =
    (i < length os)
    × (j < length os)
    × Ahead (order_at os i).side (order_at os j).side (order_at os i).limit (order_at os j).limit i j

-- none ranks above itself, rank carries over, and of two places with one side one ranks above the other
pub record Strict (os : List Order) : Type 0 where
  pub never_itself : (i : ℕ) → RanksAbove os i i → ⊥
  pub carries : (i j k : ℕ) → RanksAbove os i j → RanksAbove os j k → RanksAbove os i k
  pub one_of : (i j : ℕ) → i < length os → j < length os → (order_at os i).side ≡ (order_at os j).side → (i ≢ j) → RanksAbove os i j ⊎ RanksAbove os j i
