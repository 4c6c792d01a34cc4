-- The lines of the capacity view.
use Rattle.std.specs.Prelude.{◌≡◌, ℕ, ◌/◌, ◌%◌, true, cond, List, [], ◌∷◌, Option}
use Rattle.std.specs.List.{ContainsAt as Has}
use Rattle.capacity.specs.Meaning.{Capacity, atc}
use Rattle.session.specs.Calls.{Test, contract_test, closed_test}
use Rattle.session.specs.State.{State}
use Rattle.views.specs.declared.lines.CapacityLine.{CapacityLine}
use Rattle.views.specs.Gathered.{line_if, each_below}

-- the direction from a to b, if a connector has it
abbrev pub line_of : Capacity → ℕ → ℕ → ℕ → List CapacityLine
line_of m c a b = cond (m.joins a b) (record { from = a; to = b; atc = atc m c a b } ∷ []) []

-- what the view shows at place i: sixteen places for each area that a direction may lead from
abbrev pub ShowsDirection : Capacity → ℕ → ℕ → Option CapacityLine → Type 0
ShowsDirection m c i o = line_if o ≡ line_of m c (i / 16) (i % 16)

abbrev pub lines_from : Capacity → ℕ → ℕ → List CapacityLine
lines_from m c a = each_below 16 (line_of m c a)

-- every direction of the connectors
abbrev pub capacity_lines : Capacity → ℕ → List CapacityLine
capacity_lines m c = each_below 16 (lines_from m c)

abbrev pub CapacityLines : State → ℕ → List CapacityLine → Type 0
CapacityLines s c xs = xs ≡ capacity_lines s.capacity c

-- No direction of a connector is left out, whichever areas it joins.
abbrev pub NoneLeftOut : State → ℕ → Type 0
NoneLeftOut s c = (a b : ℕ) → s.capacity.joins a b ≡ true → Has (capacity_lines s.capacity c) (record { from = a; to = b; atc = atc s.capacity c a b })

-- what a view of a contract is refused by, before its lines count
abbrev pub contract_tests : State → ℕ → List Test
contract_tests s c = contract_test c ∷ closed_test s c ∷ []
