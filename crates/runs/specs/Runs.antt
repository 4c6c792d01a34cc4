-- What the run of a script prints, the history that it tells, and the session that it leaves.
use Rattle.std.specs.Prelude.{◌≡◌, ℕ, ◌+◌, ◌<◌, ◌≤◌, ◌⊎◌, List, [], ◌∷◌, ◌++◌, length, Some, None, Option, ◌≢◌, IsUtf8}
use Rattle.std.specs.List.{AllByRecursion}
use Rattle.std.specs.Option.{option_map}
use Rattle.capacity.specs.declared.reserve.Reserve.{Reserve}
use Rattle.capacity.specs.declared.table.FullTable.{FullTable}
use Rattle.capacity.specs.Meaning.{Capacity}
use Rattle.capacity.specs.Network.{Network, no_network}
use Rattle.capacity.specs.Shapes.{table_of, layered}
use Rattle.session.specs.declared.state.Session.{Session}
use Rattle.session.specs.State.{State, state, fresh}
use Rattle.history.specs.Laws.{Lawfully}
use Rattle.reading.specs.declared.faults.WordFault.TheVariants.{Form}
use Rattle.reading.specs.Faults.{word_number, word_place}
use Rattle.reading.specs.Fields.{first_letter, after_letter}
use Rattle.reading.specs.Output.{mark, mark_line, refusal_line}
use Rattle.reading.specs.Printing.{Line, lines_text, LineReadsBack}
use Rattle.reading.specs.Text.{lines, words}
use Rattle.runs.specs.Lines.{session_number, Outcome, LinesCome, all_printed, events}
use Rattle.runs.specs.Maps.{Linked, MapLine, map_printed, register_on}

-- The lines from number n on, over a register that means m, print these lines and leave the session t: what is printed is the printed form
-- of a history of a session begun afresh, lawful at every point of it.
pub record CallLines (m : Capacity) (n : ℕ) (ls : List (List ℕ)) (t : State) (out : List Line) : Type 0 where
  pub outcomes : List Outcome
  pub each : LinesCome (fresh session_number m) ls outcomes t
  pub printed : out ≡ all_printed n outcomes
  pub lawful : Lawfully m session_number (events outcomes []) t

-- the M lines (77); the first line with another letter ends the map, whatever comes of it
abbrev pub MapLines : Network → ℕ → List (List ℕ) → State → List Line → Type 0
MapLines m n [] t out = CallLines (register_on m) n [] t out
MapLines m n (l ∷ ls) t out =
    ((first_letter (words l) ≡ Some 77)
    × ((r : Linked) × (m' : Network) × (more : List Line) × (MapLine 1 m (after_letter (words l)) r m' × (out ≡ map_printed n r ++ more) × MapLines m' (n + 1) ls t more)))
    ⊎ ((first_letter (words l) ≢ Some 77) × CallLines (register_on m) n (l ∷ ls) t out)

-- a script whose form is wrong is refused as line n, and leaves no session
abbrev pub Misformed : ℕ → Option State → List Line → Type 0
Misformed n t out = (t ≡ None) × (out ≡ refusal_line n (word_number Form) (word_place Form) ∷ [])

-- the lines of a script: the first is exactly mark and version; after another nothing more is read
abbrev pub Headed : List (List ℕ) → Option State → List Line → Type 0
Headed [] t out = Misformed 1 t out
Headed (l ∷ ls) t out =
    ((l ≡ mark) × ((u : State) × ((t ≡ Some u) × MapLines no_network 2 ls u out)))
    ⊎ ((l ≢ mark) × Misformed 1 t out)

-- a script that is too long is refused as line 0
abbrev pub ComesTo : List ℕ → Option State → List Line → Type 0
ComesTo script t out = ((65536 < length script) × Misformed 0 t out) ⊎ ((length script ≤ 65536) × Headed (lines script) t out)

-- what a script prints, and the session that it leaves: mark and version, and then what its lines come to
abbrev pub Prints : List ℕ → Option State → List Line → Type 0
Prints script t out = (rest : List Line) × ((out ≡ mark_line ∷ rest) × ComesTo script t rest)

-- a script prints no other lines, and leaves no other session
abbrev pub OnePrint : List ℕ → Type 0
OnePrint script = (t t' : Option State) (out out' : List Line) → Prints script t out → Prints script t' out' → (t ≡ t') × (out ≡ out')

-- every number of every line that a script prints is in range of its reader, and reads back as the same count
abbrev pub PrintsReadBack : List ℕ → Type 0
PrintsReadBack script = (t : Option State) (out : List Line) → Prints script t out → AllByRecursion LineReadsBack out

-- what a script prints is text: UTF-8
abbrev pub PrintsText : List ℕ → Type 0
PrintsText script = (t : Option State) (out : List Line) → Prints script t out → IsUtf8 (lines_text out)

-- the session that a run leaves
abbrev pub left : Option (Session (Reserve FullTable)) → Option State
left = option_map (state (layered table_of))
