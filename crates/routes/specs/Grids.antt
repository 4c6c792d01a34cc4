-- What a grid says: which directions are open.
use Rattle.std.specs.Prelude.{ℕ, ◌+◌, ◌*◌, Bool, false, cond, ◌&&◌, List, ◌==◌, nat_lt, slice_index_or}
use Rattle.routes.specs.Paths.{Relation, Holds}
use Rattle.routes.specs.declared.grid.Grid.{Grid}

-- the flag of the direction from a to b; a number that is no area has none set
abbrev pub flag : List Bool → ℕ → ℕ → Bool
flag fs a b = (nat_lt a 16 && nat_lt b 16) && slice_index_or fs (16 * a + b) false

-- whether the direction from a to b is open
abbrev pub opens : Grid → ℕ → ℕ → Bool
opens g = flag g.flags

abbrev pub Leads : Grid → Relation
Leads g = Holds (opens g)

-- no direction is open
abbrev pub shut : ℕ → ℕ → Bool
shut a b = false

-- f, but v from p to q, where these are areas
abbrev pub turned : (ℕ → ℕ → Bool) → ℕ → ℕ → Bool → ℕ → ℕ → Bool
turned f p q v a b = cond ((nat_lt p 16 && nat_lt q 16) && (a == p && b == q)) v (f a b)
