-- The best place so far: for the contracts of the private functions that look for it.
use Rattle.std.specs.Prelude.{◌≡◌, ℕ, ◌<◌, ◌≤◌, Bool, true, false, ◌⊎◌, List, length, Some, None, Option, MatchOption}
use Rattle.book.specs.declared.rows.Side.{Side}
use Rattle.book.specs.declared.rows.Order.{Order}
use Rattle.book.specs.Ranks.{RanksAbove, order_at}
use Rattle.book.specs.Places.{orders}
use Rattle.matching.specs.declared.pairs.Pairing.{Pairing}
use Rattle.matching.specs.Orders.{TradingAt}
use Rattle.matching.specs.Spans.{Spanned}
use Rattle.matching.specs.Ways.{Leading}

-- the highest-ranked of the places that have P, if any has
abbrev pub Best : (ℕ → Type 0) → List Order → Option ℕ → Type 0
Best P os None = (k : ℕ) → k < length os → P k → ⊥
Best P os (Some b) = P b × ((k : ℕ) → k < length os → P k → (k ≡ b) ⊎ RanksAbove os b k)

-- of the best so far and the next place the one that ranks above the other
abbrev pub Higher : List Order → Option ℕ → ℕ → ℕ → Type 0
Higher os None k r = r ≡ k
Higher os (Some b) k r = ((r ≡ k) × RanksAbove os k b) ⊎ ((r ≡ b) × (RanksAbove os k b → ⊥))

-- what a test tells of places, T, where all that pass hold one side
abbrev pub OneSide : (ℕ → Bool → Type 0) → List Order → Type 0
OneSide T os = (s : Side) × ((k : ℕ) → k < length os → T k true → (order_at os k).side ≡ s)

-- the highest-ranked of the places from f on and below n that pass a test, if any passes
pub record Passes (T : ℕ → Bool → Type 0) (os : List Order) (f n : ℕ) (r : Option ℕ) : Type 0 where
  pub highest : MatchOption r ((k : ℕ) → f ≤ k → k < n → T k false) (λ b. (b < length os) × T b true × ((k : ℕ) → f ≤ k → k < n → T k false ⊎ ((k ≡ b) ⊎ RanksAbove os b k)))

-- the places of a buy and a sell that may trade with each other
abbrev pub Pairs : Pairing → ℕ → ℕ → Type 0
Pairs p = TradingAt (Leading p.ways.to) p.round (orders p.book.now)

-- the buy at i may trade with some sell
abbrev pub Paired : Pairing → ℕ → Type 0
Paired p i = (j : ℕ) × Pairs p i j

-- the span is one for the round over this book
abbrev pub Ready : Pairing → Type 0
Ready p = Spanned p.round (orders p.book.now) p.span
