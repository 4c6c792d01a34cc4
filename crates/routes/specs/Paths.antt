-- Paths between areas, and which of them is the route, over any relation of open directions.
use Rattle.std.specs.Prelude.{◌≡◌, ℕ, ◌<◌, ◌≤◌, Bool, true, ◌⊎◌, List, [], ◌∷◌, length, ◌≢◌}
use Rattle.std.specs.List.{AllByRecursion}

-- areas are numbered 0 to 15
abbrev pub Area : ℕ → Type 0
Area a = a < 16

-- which directions are open: from the first area to the second
abbrev pub Relation : Type 1
Relation = ℕ → ℕ → Type 0

-- the directions for which a test holds
abbrev pub Holds : (ℕ → ℕ → Bool) → Relation
Holds f a b = f a b ≡ true

-- one can go from area a to area b directly
abbrev pub Hop : Relation → ℕ → ℕ → Type 0
Hop Open a b = Area a × Area b × Open a b

-- from a, through each area of the list in turn, each open from the one before, to q
abbrev pub Onward : Relation → ℕ → ℕ → List ℕ → Type 0
Onward Open a q [] = a ≡ q
Onward Open a q (b ∷ rest) = Hop Open a b × Onward Open b q rest

-- a list of areas from p to q, each next one open from the one before; areas may come again
abbrev pub Walk : Relation → ℕ → ℕ → List ℕ → Type 0
Walk Open p q [] = ⊥
Walk Open p q (a ∷ rest) = Area a × (a ≡ p) × Onward Open a q rest

-- no number stands in the list twice
abbrev pub NoRepeat : List ℕ → Type 0
NoRepeat [] = Unit {0}
NoRepeat (a ∷ rest) = AllByRecursion (λ b. b ≢ a) rest × NoRepeat rest

abbrev pub Path : Relation → ℕ → ℕ → List ℕ → Type 0
Path Open p q xs = Walk Open p q xs × NoRepeat xs

-- xs has the lower number at the first place where it differs from ys, or there is no such place
abbrev pub Lower : List ℕ → List ℕ → Type 0
Lower [] ys = Unit {0}
Lower (x ∷ xs) [] = ⊥
Lower (x ∷ xs) (y ∷ ys) = (x < y) ⊎ ((x ≡ y) × Lower xs ys)

-- xs has fewer areas than ys, or as many and is the lower
abbrev pub Before : List ℕ → List ℕ → Type 0
Before xs ys = (length xs < length ys) ⊎ ((length xs ≡ length ys) × Lower xs ys)

-- of all paths from p to q the one with the fewest areas, and of several such the lowest
abbrev pub IsRoute : Relation → ℕ → ℕ → List ℕ → Type 0
IsRoute Open p q xs = Path Open p q xs × ((ys : List ℕ) → Path Open p q ys → Before xs ys)

-- n is how many areas the route from a to q has, 0 where there is no path
pub record Size (Open : Relation) (a q n : ℕ) : Type 0 where
  pub none : n ≡ 0 → (xs : List ℕ) → Path Open a q xs → ⊥
  pub some : 0 < n → (xs : List ℕ) × Path Open a q xs × (length xs ≡ n)
  pub least : (xs : List ℕ) → Path Open a q xs → n ≤ length xs
  pub route : (xs : List ℕ) → IsRoute Open a q xs → length xs ≡ n
