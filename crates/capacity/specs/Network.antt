-- What a map of connectors holds, and what connecting two areas makes of it.
use Rattle.std.specs.Prelude.{ℕ, zero, suc, ◌+◌, Bool, false, cond, ◌||◌, List, [], ◌∷◌, ◌==◌, nat_le, nat_lt}
use Rattle.capacity.specs.Directions.{is_way}
use Rattle.capacity.specs.Faults.{MapRefusal, map_refusal}

-- Which areas are joined, and what is kept back in each direction.
pub record Network : Type 0 where
  pub joins : ℕ → ℕ → Bool
  pub kept : ℕ → ℕ → ℕ

abbrev pub no_network : Network
no_network = record { joins = λ a b. false; kept = λ a b. 0 }

-- f at each number below n, summed
unfoldable pub sum_below : ℕ → (ℕ → ℕ) → ℕ
sum_below zero f = 0
sum_below (suc n) f = sum_below n f + f n

-- how many connectors there are: each is counted once, at its higher area
unfoldable pub connectors : (ℕ → ℕ → Bool) → ℕ
connectors j = sum_below 16 (λ a. sum_below a (λ b. cond (j a b) 1 0))

-- 12 comes before 16
abbrev pub connect_tests : Network → ℕ → ℕ → ℕ → ℕ → List (Bool × MapRefusal)
connect_tests m a b v w =
    (nat_lt 99999 v || nat_lt 99999 w, map_refusal 12 a b)
    ∷ ((nat_lt 15 a || (nat_lt 15 b || a == b)) || (m.joins a b || nat_le 32 (connectors m.joins)), map_refusal 16 a b)
    ∷ []

-- x and y joined, with v kept back from x to y and w from y to x
abbrev pub connected : Network → ℕ → ℕ → ℕ → ℕ → Network
connected m x y v w = record {
  joins = λ a b. (is_way x y a b || is_way y x a b) || m.joins a b;
  kept = λ a b. cond (is_way x y a b) v (cond (is_way y x a b) w (m.kept a b));
}
