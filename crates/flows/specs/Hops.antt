-- From area to area along a list: a step made at each hop, and what holds of each.
use Rattle.std.specs.Prelude.{ℕ, List, [], ◌∷◌}

-- f at the hop from a to the first area of the list, then at each further hop, in order
abbrev pub onward : {S : Type 0} → (S → ℕ → ℕ → S) → S → ℕ → List ℕ → S
onward f s a [] = s
onward f s a (b ∷ rest) = onward f (f s a b) b rest

-- f at each hop from an area of the list to the next, in order
abbrev pub along : {S : Type 0} → (S → ℕ → ℕ → S) → S → List ℕ → S
along f s [] = s
along f s (a ∷ rest) = onward f s a rest

abbrev pub EachOnward : (ℕ → ℕ → Type 0) → ℕ → List ℕ → Type 0
EachOnward P a [] = Unit {0}
EachOnward P a (b ∷ rest) = P a b × EachOnward P b rest

-- P holds of each hop from an area of the list to the next
abbrev pub EachHop : (ℕ → ℕ → Type 0) → List ℕ → Type 0
EachHop P [] = Unit {0}
EachHop P (a ∷ rest) = EachOnward P a rest
