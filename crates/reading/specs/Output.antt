-- The lines that every run prints.
use Rattle.std.specs.Prelude.{ℕ, List, [], ◌∷◌, codes, Some, None, Option}
use Rattle.reading.specs.Printing.{Line, plain}

-- mark and version: the first line of a script
abbrev pub mark : List ℕ
mark = codes "CTM 1"

-- and the first line of what it prints
abbrev pub mark_line : Line
mark_line = record { letter = codes "CTM"; numbers = plain 1 ∷ [] }

-- the place of the word at fault as it is printed, 0 where no word is at fault
abbrev pub place_figure : Option ℕ → ℕ
place_figure None = 0
place_figure (Some i) = i

-- the number of the line, that of its refusal, and the place of the word at fault
abbrev pub refusal_line : ℕ → ℕ → Option ℕ → Line
refusal_line n number place =
    record { letter = codes "R"; numbers = plain n ∷ plain number ∷ plain (place_figure place) ∷ [] }

-- how many orders rest
abbrev pub quiet_line : ℕ → Line
quiet_line k = record { letter = codes "Q"; numbers = plain k ∷ [] }
