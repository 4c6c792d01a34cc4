-- What an M line comes to, and what is printed of it.
use Rattle.std.specs.Prelude.{◌≡◌, ℕ, ◌⊎◌, List, [], ◌∷◌, Ok, Err, Result}
use Rattle.capacity.specs.declared.faults.MapFault.{MapFault}
use Rattle.capacity.specs.Faults.{MapRefusal, map_told}
use Rattle.capacity.specs.Meaning.{Capacity, reserved}
use Rattle.capacity.specs.Network.{Network, connect_tests, connected}
use Rattle.capacity.specs.Tables.{fresh}
use Rattle.capacity.specs.Tests.{answered, resulting, said}
use Rattle.reading.specs.declared.faults.WordFault.{WordFault}
use Rattle.reading.specs.declared.faults.LinkFault.{LinkFault}
use Rattle.reading.specs.declared.faults.LinkFault.TheVariants.{Word, Map}
use Rattle.reading.specs.declared.links.Link.{Link}
use Rattle.reading.specs.Faults.{LineRefusal, own_refusal, lower_refusal, link_told, link_number, link_place, upward}
use Rattle.reading.specs.Making.{MakesOfCounts, link_fields, link}
use Rattle.reading.specs.Output.{refusal_line}
use Rattle.reading.specs.declared.reader.Reader.{Reader}
use Rattle.reading.specs.Fields.{WordsRead, StoppedAt}
use Rattle.reading.specs.Printing.{Line, lines_text}
use Rattle.reading.specs.Reading.{ahead}
use Rattle.reading.specs.Sinks.{Hearing}

-- what an M line comes to
abbrev pub Linked : Type 0
Linked = Result (Unit {0}) LinkFault

-- The map takes the connector, or refuses it by the first test that applies and stays as it was.
pub record Connects (m : Network) (x : Link) (r : Linked) (m' : Network) : Type 0 where
  pub answer : Result (Unit {0}) MapFault
  pub as_told : said map_told answer ≡ answered (connect_tests m x.from x.to x.held x.held_back)
  pub outcome : r ≡ upward Map answer
  pub after : m' ≡ resulting (connect_tests m x.from x.to x.held x.held_back) m (connected m x.from x.to x.held x.held_back)

-- an M line with these words after its letter, which has i words with it before them: its words are at fault, or they name a connector
abbrev pub MapLine : ℕ → Network → List (List ℕ) → Linked → Network → Type 0
MapLine i m ws r m' =
    ((e : WordFault) × (MakesOfCounts i link_fields link ws (Err e) × (r ≡ Err (Word e)) × (m' ≡ m)))
    ⊎ ((x : Link) × (MakesOfCounts i link_fields link ws (Ok x) × Connects m x r m'))

-- the map refuses the connector, and its refusal is told whole
abbrev pub map_refusal : MapRefusal → LineRefusal MapRefusal
map_refusal r = lower_refusal r.number r

-- what an M line is told by that is read as this: number and place of its word's fault;
-- or, of the connector that it names, nothing or the refusal of the map's first test that applies
abbrev pub connector_told : Network → Result Link WordFault → Result (Unit {0}) (LineRefusal MapRefusal)
connector_told m (Err e) = Err (own_refusal e)
connector_told m (Ok x) = said map_refusal (answered (connect_tests m x.from x.to x.held x.held_back))

-- so is an M line told with these words after its letter, which has i words with it before them
abbrev pub LinkTold : ℕ → Network → List (List ℕ) → Linked → Type 0
LinkTold i m ws r =
    (x : Result Link WordFault) × (MakesOfCounts i link_fields link ws x × (said link_told r ≡ connector_told m x))

-- a refused M line is printed; an accepted one prints nothing
abbrev pub map_printed : ℕ → Linked → List Line
map_printed n (Ok x) = []
map_printed n (Err e) = refusal_line n (link_number e) (link_place e) ∷ []

-- a reserve layer over a full table with all at nought
abbrev pub register_on : Network → Capacity
register_on m = reserved (fresh m.joins) m.kept

-- no other answer to an M line fits, and no other map after it
abbrev pub OneLink : ℕ → Network → List (List ℕ) → Type 0
OneLink i m ws = (r r' : Linked) (n n' : Network) → MapLine i m ws r n → MapLine i m ws r' n' → (r ≡ r') × (n ≡ n')

-- how far an M line is read: to its end, up to the word at fault, or not at all
abbrev pub LinkReadTo : Reader → Linked → Reader → Type 0
LinkReadTo s (Ok x) t = WordsRead 4 s t
LinkReadTo s (Err (Map f)) t = WordsRead 4 s t
LinkReadTo s (Err (Word e)) t = StoppedAt s e t

-- The words of an M line after its letter are run, where H says what hearing a text makes of a sink:
-- the map after them, what they are answered, by what they are told, and what is heard.
pub record MapLineRun {S : Type 0} (H : Hearing S) (m : Network) (r : Reader)
    (before : S) (answer : Linked) (m' : Network) (after : S) : Type 0 where
  pub comes : MapLine r.words m (ahead r) answer m'
  pub told : LinkTold r.words m (ahead r) answer
  pub heard : H before (lines_text (map_printed r.lines answer)) after
