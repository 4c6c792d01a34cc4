-- What a line of calls comes to on a session, what is printed of it, and the events that it adds.
use Rattle.std.specs.Prelude.{◌≡◌, ℕ, ◌+◌, List, [], ◌∷◌, ◌++◌, map, length, Ok, Err, Result}
use Rattle.capacity.specs.Tests.{said}
use Rattle.session.specs.Faults.{Refusal, number_of}
use Rattle.session.specs.Faults as session
use Rattle.session.specs.Rounds.{Logged}
use Rattle.session.specs.State.{State}
use Rattle.events.specs.declared.calls.Call.{Call}
use Rattle.events.specs.declared.events.Event.{Event}
use Rattle.events.specs.Events.{Answer, acceptance}
use Rattle.events.specs.Turns.{Turned, with_turn}
use Rattle.reading.specs.declared.faults.WordFault.{WordFault}
use Rattle.reading.specs.Faults.{LineRefusal, own_refusal, lower_refusal, upward}
use Rattle.reading.specs.Output.{quiet_line}
use Rattle.reading.specs.Printing.{Line, lines_text}
use Rattle.reading.specs.declared.reader.Reader.{Reader}
use Rattle.reading.specs.Reading.{ahead}
use Rattle.reading.specs.Sinks.{Hearing}
use Rattle.reading.specs.Text.{words}
use Rattle.lines.specs.declared.faults.LineFault.{LineFault}
use Rattle.lines.specs.declared.faults.LineFault.TheVariants.{Word, Session}
use Rattle.lines.specs.Asking.{Asks, LineReadTo}
use Rattle.lines.specs.Faults as line
use Rattle.runs.specs.Output.{refused_line, trade_line}

-- the number of the session that a script runs
abbrev pub session_number : ℕ
session_number = 1

-- what a line of calls came to: it was refused as it was read; or it was a turn of the session, with so many orders resting after it
pub data Outcome : Type 0 where
  unread : WordFault → Outcome
  turn : Call → Answer → List Logged → ℕ → Outcome

-- what was read: a fault of the line's words, or the call that the line asks for
abbrev pub asked : Outcome → Result Call WordFault
asked (unread e) = Err e
asked (turn k a xs r) = Ok k

-- what the line is answered: accepted, or its fault whole
abbrev pub line_answer : Outcome → Result (Unit {0}) LineFault
line_answer (unread e) = Err (Word e)
line_answer (turn k a xs r) = upward Session (acceptance a)

-- the session refuses what the line asks for, and its refusal is told whole
abbrev pub session_refusal : Refusal → LineRefusal Refusal
session_refusal r = lower_refusal (number_of r) r

-- what the line is told by: number and place of its word's fault; of a turn, nothing or the session's refusal
abbrev pub line_told : Outcome → Result (Unit {0}) (LineRefusal Refusal)
line_told (unread e) = Err (own_refusal e)
line_told (turn k a xs r) = said session_refusal (said session.told (acceptance a))

-- with a pass of number p the words ws of a line, with i before them, come to this at s, and t stands after it
abbrev pub LineComes : ℕ → ℕ → State → List (List ℕ) → Outcome → State → Type 0
LineComes p i s ws (unread e) t = Asks i ws (Err e) × (t ≡ s)
LineComes p i s ws (turn k a xs r) t = Asks i ws (Ok k) × Turned s p k a xs t × (r ≡ length t.book)

-- the lines of a script
abbrev pub LinesCome : State → List (List ℕ) → List Outcome → State → Type 0
LinesCome s [] os t = (os ≡ []) × (t ≡ s)
LinesCome s (l ∷ ls) [] t = ⊥
LinesCome s (l ∷ ls) (o ∷ os) t = (u : State) × LineComes session_number 0 s (words l) o u × LinesCome u ls os t

-- the line n of a script ends with this: where it is accepted, the orders resting
abbrev pub answer_line : ℕ → Result (Unit {0}) LineFault → ℕ → Line
answer_line n (Err f) r = refused_line n f
answer_line n (Ok x) r = quiet_line r

-- the lines of the trades that a line makes
abbrev pub trade_lines : ℕ → Outcome → List Line
trade_lines n (unread e) = []
trade_lines n (turn k a xs r) = map trade_line xs

-- what is printed for line n
abbrev pub printed : ℕ → Outcome → List Line
printed n (unread e) = refused_line n (Word e) ∷ []
printed n (turn k a xs r) = map trade_line xs ++ answer_line n (upward Session (acceptance a)) r ∷ []

-- for the lines from number n on
abbrev pub all_printed : ℕ → List Outcome → List Line
all_printed n [] = []
all_printed n (o ∷ os) = printed n o ++ all_printed (n + 1) os

-- the events of the turns, newest first, added to those before them
abbrev pub events : List Outcome → List Event → List Event
events [] h = h
events (unread e ∷ os) h = events os h
events (turn k a xs r ∷ os) h = events os (with_turn session_number k a xs h)

-- no other outcome of a line fits, and no other session after it
abbrev pub OneOutcome : ℕ → ℕ → State → List (List ℕ) → Type 0
OneOutcome p i s ws =
    (o o' : Outcome) (t t' : State) → LineComes p i s ws o t → LineComes p i s ws o' t' → (o ≡ o') × (t ≡ t')

-- The line at hand is run on the session s with a pass of number p, where H says what hearing a text makes of a sink:
-- what it comes to, how far it is read, what it is answered, by what it is told, and which of its lines are heard.
pub record LinePart {S : Type 0} (H : Hearing S) (part : ℕ → Outcome → List Line) (s : State) (p : ℕ) (r : Reader)
    (before : S) (answer : Result (Unit {0}) LineFault) (t : State) (r' : Reader) (after : S) : Type 0 where
  pub outcome : Outcome
  pub comes : LineComes p r.words s (ahead r) outcome t
  pub read : LineReadTo r (asked outcome) r'
  pub answered : answer ≡ line_answer outcome
  pub told : said line.told answer ≡ line_told outcome
  pub heard : H before (lines_text (part r.lines outcome)) after

-- all its lines are printed
abbrev pub LineRun : {S : Type 0} → Hearing S
    → State → ℕ → Reader → S → Result (Unit {0}) LineFault → State → Reader → S → Type 0
LineRun H = LinePart H printed
