-- One direction among all, and figures by direction with one connector's two replaced.
use Rattle.std.specs.Prelude.{ℕ, Bool, cond, ◌&&◌, ◌==◌}

-- whether (a, b) is the direction from x to y
abbrev pub is_way : ℕ → ℕ → ℕ → ℕ → Bool
is_way x y a b = a == x && b == y

-- whether (c, a, b) is the direction from x to y in contract k
abbrev pub is_way_in : ℕ → ℕ → ℕ → ℕ → ℕ → ℕ → Bool
is_way_in k x y c a b = c == k && is_way x y a b

-- f with v for the direction from x to y in contract k, and w for the way back
abbrev pub put : {X : Type 0} → (ℕ → ℕ → ℕ → X) → ℕ → ℕ → ℕ → X → X → (ℕ → ℕ → ℕ → X)
put f k x y v w = λ c a b. cond (is_way_in k x y c a b) v (cond (is_way_in k y x c a b) w (f c a b))
