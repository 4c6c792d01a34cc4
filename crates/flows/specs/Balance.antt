-- The net use that an area carries out over its connectors, and what a trade makes of it.
use Rattle.std.specs.Prelude.{◌≡◌, ℕ, zero, suc, cond, ◌&&◌, ℤ, pos, ◌+ℤ◌, ◌==◌}
use Rattle.capacity.specs.Meaning.{Capacity}

-- the sum of f 0, f 1, .., f (n - 1)
abbrev pub sum_to : ℕ → (ℕ → ℤ) → ℤ
sum_to zero f = pos 0
sum_to (suc n) f = sum_to n f +ℤ f n

-- the net use in contract c away from area a, over the connectors of a
abbrev pub net_out : Capacity → ℕ → ℕ → ℤ
net_out m c a = sum_to 16 (λ b. cond (m.joins a b) (m.net c a b) (pos 0))

-- q in contract c and area x, and nought in every other
abbrev pub only_at : ℕ → ℕ → ℕ → ℕ → ℕ → ℕ
only_at c x q k a = cond (c == k && x == a) q 0

-- from m to n area x carries q more out in contract c and area y as much less; for every other area, and in every other contract, nothing changes
abbrev pub Moved : Capacity → Capacity → ℕ → ℕ → ℕ → ℕ → Type 0
Moved m n c x y q = (k a : ℕ) → (net_out n k a +ℤ pos (only_at c y q k a)) ≡ (net_out m k a +ℤ pos (only_at c x q k a))
