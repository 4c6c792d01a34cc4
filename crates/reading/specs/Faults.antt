-- What a line is refused by: the number, the place of the word at fault, and the refusal of what stands below, whole.
use Rattle.std.specs.Prelude.{ℕ, Some, None, Ok, Err, Option, Result}
use Rattle.capacity.specs.Faults.{MapRefusal, map_told}
use Rattle.numbers.specs.Reading.{fault_number}
use Rattle.reading.specs.declared.faults.WordFault.{WordFault}
use Rattle.reading.specs.declared.faults.WordFault.TheVariants.{Form, Number}
use Rattle.reading.specs.declared.faults.LinkFault.{LinkFault}
use Rattle.reading.specs.declared.faults.LinkFault.TheVariants.{Word, Map}

abbrev pub word_number : WordFault → ℕ
word_number Form = 17
word_number (Number i f) = fault_number f

-- the letter is the first word; none where no word is at fault
abbrev pub word_place : WordFault → Option ℕ
word_place Form = None
word_place (Number i f) = Some i

-- A line's refusal; X are the refusals of what it asks for. Where the line itself is at fault, none of these stands below it.
pub record LineRefusal (X : Type 0) : Type 0 where
  pub number : ℕ
  pub place : Option ℕ
  pub lower : Option X

-- the line itself is at fault
abbrev pub own_refusal : {X : Type 0} → WordFault → LineRefusal X
own_refusal f = record { number = word_number f; place = word_place f; lower = None }

-- what it asks for is refused by the number n, and no word is at fault
abbrev pub lower_refusal : {X : Type 0} → ℕ → X → LineRefusal X
lower_refusal n x = record { number = n; place = None; lower = Some x }

-- that of an M line, with the map's
abbrev pub link_told : LinkFault → LineRefusal MapRefusal
link_told (Word f) = own_refusal f
link_told (Map f) = let r = map_told f in lower_refusal r.number r

abbrev pub link_number : LinkFault → ℕ
link_number f = (link_told f).number

abbrev pub link_place : LinkFault → Option ℕ
link_place f = (link_told f).place

-- an answer of what stands below, its fault carried upward whole
abbrev pub upward : {F G : Type 0} → (F → G) → Result (Unit {0}) F → Result (Unit {0}) G
upward up (Ok x) = Ok tt
upward up (Err f) = Err (up f)
