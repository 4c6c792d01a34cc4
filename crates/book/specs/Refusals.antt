-- Refusals by their numbers.
use Rattle.std.specs.Prelude.{ℕ, Bool, cond, List, [], ◌∷◌, Some, None, Ok, Err, Option, Result}
use Rattle.book.specs.declared.faults.BookFault.{BookFault}
use Rattle.book.specs.declared.faults.BookFault.TheVariants.{Limit, Quantity, Slices, Full}

abbrev pub fault_number : BookFault → ℕ
fault_number Limit = 5
fault_number Quantity = 6
fault_number Slices = 7
fault_number Full = 10

-- the number that an answer refuses by, if it does
abbrev pub told : Result (Unit {0}) BookFault → Option ℕ
told (Ok u) = None
told (Err f) = Some (fault_number f)

-- tests with their numbers: that of the first that applies, if one does
abbrev pub first_refusing : List (Bool × ℕ) → Option ℕ
first_refusing [] = None
first_refusing (t ∷ ts) = cond t.0 (Some t.1) (first_refusing ts)
