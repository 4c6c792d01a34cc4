-- What a line asks for: by its letter, and the numbers, side and kind that follow it.
use Rattle.std.specs.Prelude.{◌≡◌, ℕ, ◌+◌, List, [], ◌∷◌, ℤ, Some, None, Ok, Err, codes, MatchBool, Option, Result, ◌==◌, ◌≢◌, length, take, slice_index_or}
use Rattle.numbers.specs.declared.Unit.TheVariants as unit
use Rattle.book.specs.declared.rows.Kind.{Kind}
use Rattle.book.specs.declared.rows.Kind.TheVariants.{Non, Ioc, Ice}
use Rattle.book.specs.declared.rows.Side.{Side}
use Rattle.book.specs.declared.rows.Side.TheVariants.{Buy, Sell}
use Rattle.capacity.specs.declared.direction.Direction.{Direction}
use Rattle.events.specs.declared.calls.Call.{Call}
use Rattle.events.specs.declared.calls.Call.TheVariants.{Enter, Change, Withdraw, Request, Notice, Close}
use Rattle.reading.specs.declared.faults.WordFault.{WordFault}
use Rattle.reading.specs.declared.faults.WordFault.TheVariants.{Form, Number}
use Rattle.reading.specs.declared.fields.Field.{Field}
use Rattle.reading.specs.declared.fields.Field.TheVariants.{Count, Signed, Letters}
use Rattle.reading.specs.declared.reader.Reader.{Reader}
use Rattle.reading.specs.Fields.{first_letter, after_letter, WordsRead, StoppedAt}
use Rattle.reading.specs.Making.{Makes, MakesOfCounts, sizes, at, count}
use Rattle.reading.specs.Reading.{ahead}

-- the direction that the first three numbers name
abbrev pub direction : List ℕ → Direction
direction ns = record { contract = count ns 0; from = count ns 1; to = count ns 2 }

-- N contract from to ntc ntcBack aac aacBack
abbrev pub notice_fields : List Field
notice_fields = Count unit.Count ∷ Count unit.Count ∷ Count unit.Count ∷ Count unit.Megawatt ∷ Count unit.Megawatt ∷ Count unit.Megawatt ∷ Count unit.Megawatt ∷ []

abbrev pub notice : List ℕ → Call
notice ns = Notice (direction ns) (record { ntc = count ns 3; ntc_back = count ns 4; aac = count ns 5; aac_back = count ns 6 })

-- X contract from to quantity
abbrev pub request_fields : List Field
request_fields = Count unit.Count ∷ Count unit.Count ∷ Count unit.Count ∷ Count unit.Megawatt ∷ []

abbrev pub request : List ℕ → Call
request ns = Request (direction ns) (count ns 3)

-- C order member limit quantity
abbrev pub change_fields : List Field
change_fields = Count unit.Count ∷ Count unit.Count ∷ Signed unit.Euro ∷ Count unit.Megawatt ∷ []

abbrev pub change : List ℤ → Call
change zs = let ns = sizes zs in Change (record { number = count ns 0; member = count ns 1; limit = at zs 2; quantity = count ns 3 })

-- W order member
abbrev pub withdrawal_fields : List Field
withdrawal_fields = Count unit.Count ∷ Count unit.Count ∷ []

abbrev pub withdrawal : List ℕ → Call
withdrawal ns = Withdraw (count ns 0) (count ns 1)

-- K contract
abbrev pub closing_fields : List Field
closing_fields = Count unit.Count ∷ []

abbrev pub closing : List ℕ → Call
closing ns = Close (count ns 0)

-- E order member contract side area kind limit quantity peak delta
abbrev pub entry_fields : List Field
entry_fields =
    Count unit.Count ∷ Count unit.Count ∷ Count unit.Count ∷ Letters ∷ Count unit.Count ∷ Letters
    ∷ Signed unit.Euro ∷ Count unit.Megawatt ∷ Count unit.Megawatt ∷ Count unit.Euro ∷ []

abbrev pub entry : Side → Kind → List ℤ → Call
entry side kind zs =
    let ns = sizes zs in
    Enter (record {
      number = count ns 0;
      member = count ns 1;
      contract = count ns 2;
      area = count ns 4;
      terms = record { kind = kind; side = side; limit = at zs 6; quantity = count ns 7; peak = count ns 8; delta = count ns 9 };
    })

abbrev pub side_word : Side → List ℕ
side_word Buy = codes "B"
side_word Sell = codes "S"

abbrev pub kind_word : Kind → List ℕ
kind_word Non = codes "NON"
kind_word Ioc = codes "IOC"
kind_word Ice = codes "ICE"

-- x is what the word stands for, by the words that there are
abbrev pub Stands : {X : Type 0} → (X → List ℕ) → List ℕ → Option X → Type 0
Stands spelt w None = (x : _) → w ≢ spelt x
Stands spelt w (Some x) = w ≡ spelt x

-- the fourth word is a side and the sixth a kind, or the line has a wrong form
abbrev pub EntryBy : ℕ → List (List ℕ) → Option Side → Option Kind → Result Call WordFault → Type 0
EntryBy i ws None k r = r ≡ Err Form
EntryBy i ws (Some d) None r = r ≡ Err Form
EntryBy i ws (Some d) (Some k) r = Makes i entry_fields (entry d k) ws r

abbrev pub EntryLine : ℕ → List (List ℕ) → Result Call WordFault → Type 0
EntryLine i ws r = (d : Option Side) × (k : Option Kind) × (Stands side_word (slice_index_or ws 3 []) d × Stands kind_word (slice_index_or ws 5 []) k × EntryBy i ws d k r)

-- the letter, by its code; a line with another letter, or without one, has a wrong form
abbrev pub ByLetter : Option ℕ → ℕ → List (List ℕ) → Result Call WordFault → Type 0
ByLetter None i ws r = r ≡ Err Form
ByLetter (Some c) i ws r =
    MatchBool (c == 67) (Makes i change_fields change ws r)
    (MatchBool (c == 69) (EntryLine i ws r)
    (MatchBool (c == 75) (MakesOfCounts i closing_fields closing ws r)
    (MatchBool (c == 78) (MakesOfCounts i notice_fields notice ws r)
    (MatchBool (c == 87) (MakesOfCounts i withdrawal_fields withdrawal ws r)
    (MatchBool (c == 88) (MakesOfCounts i request_fields request ws r)
    (r ≡ Err Form))))))

-- what the words of a line ask for, with i words before them
abbrev pub Asks : ℕ → List (List ℕ) → Result Call WordFault → Type 0
Asks i ws r = ByLetter (first_letter ws) (i + 1) (after_letter ws) r

-- How far a line is read: to its end, where it asks for a call; its first word, if it has one, where its form is wrong;
-- else up to the word at fault.
abbrev pub LineReadTo : Reader → Result Call WordFault → Reader → Type 0
LineReadTo s (Ok k) t = WordsRead (length (ahead s)) s t
LineReadTo s (Err Form) t = WordsRead (length (take 1 (ahead s))) s t
LineReadTo s (Err (Number i f)) t = StoppedAt s (Number i f) t
