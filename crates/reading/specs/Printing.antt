-- Printed lines: a letter, and numbers that each follow a space; and that every number of a line reads back.
use Rattle.std.specs.Prelude.{ℕ, Bool, true, false, List, [], ◌∷◌, ◌++◌, ℤ, pos, codes, Ok}
use Rattle.std.specs.List.{AllByRecursion}
use Rattle.numbers.specs.declared.Unit.{Unit as Measure}
use Rattle.numbers.specs.declared.Unit.TheVariants.{Count, Megawatt, Euro}
use Rattle.numbers.specs.Printing.{shown}
use Rattle.numbers.specs.Reading.{Answers}
use Rattle.reading.specs.declared.output.PrintedNumber.{PrintedNumber}
use Rattle.reading.specs.declared.output.PrintedNumber.TheVariants.{Plain, Amount, Flow, Price}

-- a number as it is printed: its unit, whether its reader allows a sign, and its count of units
pub record Number : Type 0 where
  pub unit : Measure
  pub signed : Bool
  pub count : ℤ

-- a contract, an area, a number of an order, of a line or of a refusal, a place, a count
abbrev pub plain : ℕ → Number
plain n = record { unit = Count; signed = false; count = pos n }

-- a quantity in MW
abbrev pub amount : ℕ → Number
amount q = record { unit = Megawatt; signed = false; count = pos q }

-- an ATC in MW, which may be below nought
abbrev pub flow : ℤ → Number
flow z = record { unit = Megawatt; signed = true; count = z }

-- a limit or a price in euro
abbrev pub price : ℤ → Number
price z = record { unit = Euro; signed = true; count = z }

abbrev pub number_of : PrintedNumber → Number
number_of (Plain n) = plain n
number_of (Amount q) = amount q
number_of (Flow z) = flow z
number_of (Price z) = price z

-- a line as it is printed: its letter, and its numbers
pub record Line : Type 0 where
  pub letter : List ℕ
  pub numbers : List Number

abbrev pub numbers_text : List Number → List ℕ
numbers_text [] = []
numbers_text (n ∷ ns) = codes " " ++ (shown n.unit n.count ++ numbers_text ns)

-- byte 10 ends it
abbrev pub line_text : Line → List ℕ
line_text l = l.letter ++ (numbers_text l.numbers ++ codes "\n")

-- lines one after another
abbrev pub lines_text : List Line → List ℕ
lines_text [] = []
lines_text (l ∷ ls) = line_text l ++ lines_text ls

-- it is in range of its reader, and what is printed is read as the same count
abbrev pub ReadsBack : Number → Type 0
ReadsBack n = Answers (shown n.unit n.count) n.unit n.signed (Ok n.count)

-- so is every number of the line
abbrev pub LineReadsBack : Line → Type 0
LineReadsBack l = AllByRecursion ReadsBack l.numbers
