-- What a list of cells says: the first that names a pair counts, for both directions of its connector.
use Rattle.std.specs.Prelude.{ℕ, Bool, true, false, ◌||◌, List, [], ◌∷◌}
use Rattle.capacity.specs.declared.side.Side.{Side}
use Rattle.capacity.specs.Sides.{no_side}
use Rattle.capacity.specs.Directions.{is_way_in, put}
use Rattle.cells.specs.declared.cell.Cell.{Cell}

-- whether a cell is for contract c and the connector of a and b
abbrev pub names : Cell → ℕ → ℕ → ℕ → Bool
names x c a b = is_way_in x.direction.contract x.direction.from x.direction.to c a b || is_way_in x.direction.contract x.direction.to x.direction.from c a b

-- what the first cell for a pair says, there and back; with none, z
abbrev pub first_says : {X : Type 0} → (Cell → X) → (Cell → X) → X → List Cell → ℕ → ℕ → ℕ → X
first_says g h z [] c a b = z
first_says g h z (x ∷ xs) c a b = put (first_says g h z xs) x.direction.contract x.direction.from x.direction.to (g x) (h x) c a b

abbrev pub noted_in : List Cell → ℕ → ℕ → ℕ → Bool
noted_in = first_says (λ x. true) (λ x. true) false

abbrev pub side_in : List Cell → ℕ → ℕ → ℕ → Side
side_in = first_says (λ x. x.pair.there) (λ x. x.pair.back) no_side
