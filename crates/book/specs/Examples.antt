-- Icebergs at their edges.
use Rattle.std.specs.Prelude.{◌≡◌, ℕ, [], ◌∷◌, ℤ, pos, Some, None}
use Rattle.book.specs.declared.rows.Side.TheVariants.{Buy, Sell}
use Rattle.book.specs.declared.rows.Kind.TheVariants.{Non, Ice}
use Rattle.book.specs.declared.rows.Order.{Order}
use Rattle.book.specs.declared.rows.OrderTerms.{OrderTerms}
use Rattle.book.specs.Orders.{entered, with_parts}
use Rattle.book.specs.Terms.{refusal}
use Rattle.book.specs.Trades.{settled}

-- an iceberg sell with a peak of 50: limit, quantity and delta
abbrev pub sells : ℤ → ℕ → ℕ → OrderTerms
sells l q d = record { kind = Ice; side = Sell; limit = l; quantity = q; peak = 50; delta = d }

-- a sell of 120 at 4,000 with a delta of 100, number 5
abbrev pub berg : Order
berg = entered 5 1 3 0 (sells (pos 4000) 120 100)

-- one that is younger, number 6
abbrev pub other : Order
other = entered 6 1 3 0 (record { kind = Non; side = Sell; limit = pos 4500; quantity = 10; peak = 0; delta = 0 })

-- an iceberg buy of 120 at 4,000, with a peak of 50 and a delta of 100, number 7
abbrev pub bid : Order
bid = entered 7 2 3 0 (record { kind = Ice; side = Buy; limit = pos 4000; quantity = 120; peak = 50; delta = 100 })

-- slices of 50, 50 and 20 at 4,000, 4,100 and 4,200, each next one the newest; of two that are renewed at once the older is renewed first;
-- two slices may end at 999,999, three not
pub record Examples : Type 0 where
  pub first : berg ≡ with_parts (pos 4000) 120 50 berg
  pub second : settled 9 5 50 (berg ∷ other ∷ []) ≡ other ∷ with_parts (pos 4100) 70 50 berg ∷ []
  pub third : settled 9 5 50 (other ∷ with_parts (pos 4100) 70 50 berg ∷ []) ≡ other ∷ with_parts (pos 4200) 20 20 berg ∷ []
  pub gone : settled 9 5 20 (other ∷ with_parts (pos 4200) 20 20 berg ∷ []) ≡ other ∷ []
  pub both : settled 7 5 50 (berg ∷ other ∷ bid ∷ []) ≡ other ∷ with_parts (pos 4100) 70 50 berg ∷ with_parts (pos 3900) 70 50 bid ∷ []
  pub two_pass : refusal (sells (pos 999998) 100 1) ≡ None
  pub three_fail : refusal (sells (pos 999998) 101 1) ≡ Some 7
