-- Of two paths with three areas the one through the lower area is the route.
use Rattle.std.specs.Prelude.{ℕ, Bool, ◌&&◌, ◌||◌, [], ◌∷◌, ◌==◌}
use Rattle.routes.specs.Paths.{Holds, IsRoute}

-- one of the two areas is x and the other y
abbrev pub between : ℕ → ℕ → ℕ → ℕ → Bool
between x y a b = (a == x && b == y) || (a == y && b == x)

-- 0-1, 1-3, 0-2 and 2-3 are open, both ways
abbrev pub diamond : ℕ → ℕ → Bool
diamond a b = (between 0 1 a b || between 1 3 a b) || (between 0 2 a b || between 2 3 a b)

pub record Example : Type 0 where
  pub lowest : IsRoute (Holds diamond) 0 3 (0 ∷ 1 ∷ 3 ∷ [])
