-- What a table of sizes says: for the contracts of the private functions that make and read it.
use Rattle.std.specs.Prelude.{ℕ, ◌<◌, List, IsSomeAnd, slice_get, slice_index_or}
use Rattle.routes.specs.declared.sizes.Sizes.{Sizes}
use Rattle.routes.specs.Listed.{size_of}
use Rattle.routes.specs.Paths.{Relation, Path}

-- a path leads from p to q
abbrev pub Way : Relation → Relation
Way Open p q = (xs : List ℕ) × Path Open p q xs

-- the sizes tell from which areas a path leads to q
abbrev pub Tells : Relation → ℕ → Sizes → Type 0
Tells Open q s = (a : ℕ) → (0 < size_of s a → Way Open a q) × (Way Open a q → 0 < size_of s a)

-- the table has, for each area below k, the sizes of the routes to it
abbrev pub Told : Relation → List Sizes → ℕ → Type 0
Told Open t k = (q : ℕ) (d : Sizes) → q < k → Tells Open q (slice_index_or t q d)

-- by the table a path leads from p to q
abbrev pub Leading : List Sizes → Relation
Leading t p q = IsSomeAnd (slice_get t q) (λ s. 0 < size_of s p)
