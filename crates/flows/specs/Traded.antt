-- What a trade along a route from x to y makes of a register, in contract c, with the quantity q.
use Rattle.std.specs.Prelude.{◌≡◌, ℕ, ◌⊎◌, List, ◌≢◌}
use Rattle.capacity.specs.Meaning.{Capacity}
use Rattle.routes.specs.Laws.{Reach}
use Rattle.flows.specs.Balance.{Moved}
use Rattle.flows.specs.Flows.{open_in, OpenIn, carried, NoneBelow}

-- what can be reached after could be before, or one could go from a to y and from x to b:
-- a trade opens nothing but ways back along its route
abbrev pub OnlyBack : Capacity → Capacity → ℕ → ℕ → ℕ → Type 0
OnlyBack m n c x y = (a b : ℕ) → Reach (OpenIn n c) a b → Reach (OpenIn m c) a b ⊎ (Reach (OpenIn m c) a y × Reach (OpenIn m c) x b)

-- from m before the trade to n after it
pub record Traded (m n : Capacity) (c x y q : ℕ) (route : List ℕ) : Type 0 where
  -- every take was granted
  pub granted : n ≡ carried m c q route
  pub covered : NoneBelow n c route
  pub moved : Moved m n c x y q
  pub only_back : OnlyBack m n c x y
  pub elsewhere : (k : ℕ) → (k ≢ c) → open_in n k ≡ open_in m k
