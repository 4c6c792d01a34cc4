-- What a part of a screen is heard as: for the contracts of its private functions.
use Rattle.std.specs.Prelude.{List}
use Rattle.std.specs.List.{AllByRecursion}
use Rattle.reading.specs.Printing.{Line, lines_text, LineReadsBack}
use Rattle.reading.specs.Sinks.{Hearing}

-- lines of this form are heard, and no more, and each reads back
abbrev pub HeardBack : {S : Type 0} → Hearing S → (List Line → Type 0) → S → S → Type 0
HeardBack hears Form before after =
    (ls : List Line) × Form ls × AllByRecursion LineReadsBack ls × hears before (lines_text ls) after
