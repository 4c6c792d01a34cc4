-- What is made of the number words of a line.
use Rattle.std.specs.Prelude.{◌≡◌, ℕ, List, [], ◌∷◌, ℤ, pos, Ok, Err, Result, map, slice_index, slice_index_or, unsigned_abs}
use Rattle.numbers.specs.declared.Unit.TheVariants as unit
use Rattle.reading.specs.declared.faults.WordFault.{WordFault}
use Rattle.reading.specs.declared.fields.Field.{Field}
use Rattle.reading.specs.declared.fields.Field.TheVariants.{Count}
use Rattle.reading.specs.declared.links.Link.{Link}
use Rattle.reading.specs.Fields.{Numbers}

-- numbers without their signs
abbrev pub sizes : List ℤ → List ℕ
sizes = map unsigned_abs

-- the number at place i of a line's
abbrev pub at : List ℤ → ℕ → ℤ
at zs i = slice_index_or zs i (pos 0)

-- the words ws, with i before them, are numbers by these fields, and make gives of them what is asked for; or they are refused
abbrev pub Makes : {X : Type 0} → ℕ → List Field → (List ℤ → X) → List (List ℕ) → Result X WordFault → Type 0
Makes i fs make ws (Ok x) = (zs : List ℤ) × (Numbers i fs ws (Ok zs) × (x ≡ make zs))
Makes i fs make ws (Err e) = Numbers i fs ws (Err e)

-- the same of the numbers without their signs
abbrev pub MakesOfCounts : {X : Type 0} → ℕ → List Field → (List ℕ → X) → List (List ℕ) → Result X WordFault → Type 0
MakesOfCounts i fs make ws r = Makes i fs (λ zs. make (sizes zs)) ws r

-- the count at place i of a line's
abbrev pub count : List ℕ → ℕ → ℕ
count ns i = slice_index ns i

-- M from to held heldBack
abbrev pub link_fields : List Field
link_fields = Count unit.Count ∷ Count unit.Count ∷ Count unit.Megawatt ∷ Count unit.Megawatt ∷ []

abbrev pub link : List ℕ → Link
link ns = record { from = count ns 0; to = count ns 1; held = count ns 2; held_back = count ns 3 }
