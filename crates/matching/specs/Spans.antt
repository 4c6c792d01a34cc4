-- Where the orders stand without which a round has no pair: for the contracts of the private functions that go over those places alone.
use Rattle.std.specs.Prelude.{◌≡◌, ℕ, ◌<◌, ◌≤◌, ◌⊎◌, List, length}
use Rattle.book.specs.declared.rows.Order.{Order}
use Rattle.book.specs.Ranks.{order_at}
use Rattle.matching.specs.declared.round.Round.{Round}
use Rattle.matching.specs.declared.spans.Span.{Span}
use Rattle.matching.specs.Orders.{Concerns}

-- the place k is in the span
abbrev pub In : Span → ℕ → Type 0
In s k = (s.from ≤ k) × (k < s.to)

-- the span ends within the first n places, and has those of them whose orders have the number
pub record Covers (number : ℕ) (os : List Order) (n : ℕ) (s : Span) : Type 0 where
  pub room : s.to ≤ n
  pub whole : (k : ℕ) → k < n → (order_at os k).number ≡ number → In s k

-- of two orders that the round concerns one is in the span, which ends within the book
pub record Spanned (round : Round) (os : List Order) (s : Span) : Type 0 where
  pub room : s.to ≤ length os
  pub one_in : (i j : ℕ) → i < length os → j < length os → Concerns round (order_at os i) (order_at os j) → In s i ⊎ In s j
