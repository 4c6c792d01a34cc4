-- What a line is told by follows from what it comes to.
use Rattle.std.proofs.Common.{◌≡◌, ℕ, List, Ok, Err, Result, refl, ap, ◌∙◌, inl, inr}
use Rattle.capacity.specs.declared.faults.MapFault.{MapFault}
use Rattle.capacity.specs.Faults.{map_told}
use Rattle.capacity.specs.Network.{Network}
use Rattle.capacity.specs.Tests.{said}
use Rattle.reading.specs.declared.faults.LinkFault.TheVariants.{Map}
use Rattle.reading.specs.Faults.{link_told, upward}
use Rattle.reading.specs.declared.reader.Reader.{Reader}
use Rattle.reading.specs.Printing.{lines_text}
use Rattle.reading.specs.Reading.{ahead}
use Rattle.reading.specs.Sinks.{Hearing}
use Rattle.lines.specs.declared.faults.LineFault.{LineFault}
use Rattle.lines.specs.Faults as line
use Rattle.runs.specs.Lines.{Outcome, unread, turn, line_answer, line_told}
use Rattle.runs.specs.Maps.{Linked, MapLine, MapLineRun, LinkTold, map_printed, map_refusal}

outcome_told : (o : Outcome) → said line.told (line_answer o) ≡ line_told o
outcome_told (unread e) = refl
outcome_told (turn k (Ok n) xs r) = refl
outcome_told (turn k (Err f) xs r) = refl

pub as_answered : (o : Outcome) (answer : Result (Unit {0}) LineFault) → answer ≡ line_answer o → said line.told answer ≡ line_told o
as_answered o answer e = ap (said line.told) e ∙ outcome_told o

map_upward : (a : Result (Unit {0}) MapFault) → said link_told (upward Map a) ≡ said map_refusal (said map_told a)
map_upward (Ok x) = refl
map_upward (Err f) = refl

as_linked : (i : ℕ) (m m' : Network) (ws : List (List ℕ)) (r : Linked) → MapLine i m ws r m' → LinkTold i m ws r
as_linked i m m' ws r (inl (e, (makes, is, after))) = (Err e, (makes, ap (said link_told) is))
as_linked i m m' ws r (inr (x, (makes, c))) = (Ok x, (makes, ap (said link_told) c.outcome ∙ map_upward c.answer ∙ ap (said map_refusal) c.as_told))

pub map_line_run : {S : Type 0} (H : Hearing S) (m m' : Network) (r : Reader) (answer : Linked) (a b : S) → MapLine r.words m (ahead r) answer m' → H a (lines_text (map_printed r.lines answer)) b → MapLineRun H m r a answer m' b
map_line_run H m m' r answer a b line heard = record { comes = line; told = as_linked r.words m m' (ahead r) answer line; heard = heard }
