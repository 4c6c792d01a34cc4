-- What the parts of a run have read and printed.
use Rattle.std.specs.Prelude.{◌≡◌, ℕ, ◌+◌, Bool, true, false, List, [], ◌∷◌, ◌++◌, Ok, Err, Option, Result}
use Rattle.capacity.specs.Meaning.{Capacity}
use Rattle.capacity.specs.Network.{Network, no_network}
use Rattle.session.specs.State.{State}
use Rattle.reading.specs.declared.reader.Reader.{Reader}
use Rattle.reading.specs.Reading.{ahead, below}
use Rattle.reading.specs.Sinks.{Hearing}
use Rattle.reading.specs.Output.{mark}
use Rattle.reading.specs.Printing.{Line, lines_text}
use Rattle.events.specs.declared.calls.Call.{Call}
use Rattle.reading.specs.declared.faults.WordFault.{WordFault}
use Rattle.lines.specs.Asking.{Asks, LineReadTo}
use Rattle.lines.specs.declared.faults.LineFault.{LineFault}
use Rattle.lines.specs.declared.faults.LineFault.TheVariants.{Word}
use Rattle.runs.specs.Lines.{Outcome, LinesCome, all_printed, trade_lines, LinePart}
use Rattle.runs.specs.Maps.{register_on}
use Rattle.runs.specs.Runs.{CallLines, MapLines, ComesTo}

-- the first line is mark and version, and is read
abbrev pub FirstLine : List (List ℕ) → Bool → List (List ℕ) → Type 0
FirstLine [] true ls = ⊥
FirstLine [] false ls = Unit {0}
FirstLine (l ∷ ls₀) true ls = (l ≡ mark) × (ls ≡ ls₀)
FirstLine (l ∷ ls₀) false ls = l ≡ mark → ⊥

abbrev pub HeaderRead : Reader → Bool → Reader → Type 0
HeaderRead s true t = FirstLine (below s) true (below t) × (t.lines ≡ s.lines + 1)
HeaderRead s false t = FirstLine (below s) false []

-- the line asks for a call; or its words are at fault, which is carried upward whole
abbrev pub AskedFor : Reader → Result Call LineFault → Reader → Type 0
AskedFor r (Ok k) r' = Asks r.words (ahead r) (Ok k) × LineReadTo r (Ok k) r'
AskedFor r (Err f) r' = (e : WordFault) × ((f ≡ Word e) × Asks r.words (ahead r) (Err e) × LineReadTo r (Err e) r')

-- what lines may print, and the session that they leave
abbrev pub Allowing : Type 1
Allowing = State → List Line → Type 0

-- what the lines after the line at hand may print, while the map is made
abbrev pub MapsBelow : Network → Reader → Allowing
MapsBelow m s = MapLines m (s.lines + 1) (below s)

-- what they may print once the map is made, over a register that means m
abbrev pub CallsBelow : Capacity → Reader → Allowing
CallsBelow m s = CallLines m (s.lines + 1) (below s)

-- what the lines from number n on print, from the session s on, which becomes t
pub record Turns (s : State) (n : ℕ) (ls : List (List ℕ)) (t : State) (out : List Line) : Type 0 where
  pub outcomes : List Outcome
  pub each : LinesCome s ls outcomes t
  pub printed : out ≡ all_printed n outcomes

-- what they may print from the session s on
abbrev pub TurnsBelow : State → Reader → Allowing
TurnsBelow s r = Turns s (r.lines + 1) (below r)

-- where H says what hearing a text makes of a sink
module _ {S : Type 0} (H : Hearing S) where
  -- the line at hand is run on the session s with a pass of number p, before its last line is printed
  abbrev pub TurnRun : State → ℕ → Reader → S → Result (Unit {0}) LineFault → State → Reader → S → Type 0
  TurnRun = LinePart H trade_lines

  -- some lines are printed, and with what Q allows after them they are what P allows
  abbrev pub PrintsSome : Allowing → Allowing → S → S → Type 0
  PrintsSome P Q before after =
      (out : List Line) × (H before (lines_text out) after × ((t : State) (more : List Line) → Q t more → P t (out ++ more)))

  abbrev pub MapsRun : Reader → S → Network → Reader → S → Type 0
  MapsRun s before m t after = PrintsSome (MapsBelow no_network s) (CallsBelow (register_on m) t) before after

  abbrev pub CallsRun : Capacity → Reader → S → State → S → Type 0
  CallsRun m s before t after = (out : List Line) × (H before (lines_text out) after × CallsBelow m s t out)

  abbrev pub ScriptRun : List ℕ → S → Option State → S → Type 0
  ScriptRun script before t after = (out : List Line) × (H before (lines_text out) after × ComesTo script t out)
