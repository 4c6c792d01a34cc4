-- What a trade does to the book.
use Rattle.std.specs.Prelude.{ℕ, Bool, cond, not, ◌&&◌, ◌||◌, List, [], ◌∷◌, ◌++◌, map, filter, ◌==◌, nat_lt}
use Rattle.book.specs.declared.rows.Order.{Order}
use Rattle.book.specs.Orders.{lessened, next_slice, shows, run_out, is_ice, moved, beyond}

-- the orders b and s each after a trade of q
abbrev pub struck : ℕ → ℕ → ℕ → Order → Order
struck b s q o = cond (o.number == b || o.number == s) (lessened q o) o

-- what shows keeps its place, and the next slices of what passes are the newest, in its order
abbrev pub renewed_by : (Order → Bool) → List Order → List Order
renewed_by p os = filter shows os ++ map next_slice (filter p os)

-- the book after a trade of q between the orders b and s
abbrev pub settled : ℕ → ℕ → ℕ → List Order → List Order
settled b s q os = renewed_by run_out (map (struck b s q) os)

-- a row that has run out and can be renewed, as every one can that lasts: an iceberg with a peak, its next limit in range
abbrev pub renewable : Order → Bool
renewable o = is_ice o.kind && (run_out o && (nat_lt 0 o.peak && not (beyond (moved o.side o.limit o.delta))))

-- the book after a trade, whatever rows it holds: what cannot be renewed leaves
abbrev pub settled_rows : ℕ → ℕ → ℕ → List Order → List Order
settled_rows b s q os = renewed_by renewable (map (struck b s q) os)

-- what a row that has run out leaves as the newest
abbrev pub renewal : Order → List Order
renewal o = cond (renewable o) (next_slice o ∷ []) []
