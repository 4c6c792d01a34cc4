-- The number words of a line: their numbers, or the leftmost one that is no number of its unit.
use Rattle.std.specs.Prelude.{◌≡◌, ℕ, zero, suc, ◌+◌, true, false, List, [], ◌∷◌, length, take, drop, ℤ, pos, Some, None, Ok, Err, Option, Result}
use Rattle.numbers.specs.declared.NumberFault.{NumberFault}
use Rattle.numbers.specs.Reading.{Answers}
use Rattle.reading.specs.declared.fields.Field.{Field}
use Rattle.reading.specs.declared.fields.Field.TheVariants.{Count, Signed, Letters}
use Rattle.reading.specs.declared.faults.WordFault.{WordFault}
use Rattle.reading.specs.declared.faults.WordFault.TheVariants.{Form, Number}
use Rattle.reading.specs.declared.reader.Reader.{Reader}
use Rattle.reading.specs.Text.{words}
use Rattle.reading.specs.Reading.{ahead, below}

-- what a word is read as: a number of its unit, below nought only where that is allowed; letters are no number, and stand as nought
abbrev pub WordAnswers : Field → List ℕ → Result ℤ NumberFault → Type 0
WordAnswers (Count u) w r = Answers w u false r
WordAnswers (Signed u) w r = Answers w u true r
WordAnswers Letters w (Ok z) = z ≡ pos 0
WordAnswers Letters w (Err f) = ⊥

-- the words ws are these numbers by these fields, and then the words rest
abbrev pub Read : List Field → List (List ℕ) → List ℤ → List (List ℕ) → Type 0
Read [] ws zs rest = (ws ≡ rest) × (zs ≡ [])
Read (u ∷ us) ws zs rest =
    (w : List ℕ) × (ws' : List (List ℕ)) × (z : ℤ) × (zs' : List ℤ)
    × ((ws ≡ w ∷ ws') × (zs ≡ z ∷ zs') × WordAnswers u w (Ok z) × Read us ws' zs' rest)

-- k words are numbers by their fields, and the next one is none, by the fault f
abbrev pub Faulty : List Field → List (List ℕ) → ℕ → NumberFault → Type 0
Faulty [] ws k f = ⊥
Faulty (u ∷ us) [] k f = ⊥
Faulty (u ∷ us) (w ∷ ws) zero f = WordAnswers u w (Err f)
Faulty (u ∷ us) (w ∷ ws) (suc k) f = ((z : ℤ) × WordAnswers u w (Ok z)) × Faulty us ws k f

-- What the words ws are read as, where one number by each field is asked for and i words stand before them:
-- a wrong number of words comes before a word that is no number.
abbrev pub Numbers : ℕ → List Field → List (List ℕ) → Result (List ℤ) WordFault → Type 0
Numbers i us ws (Ok zs) = Read us ws zs []
Numbers i us ws (Err Form) = length ws ≡ length us → ⊥
Numbers i us ws (Err (Number k f)) = (length ws ≡ length us) × ((j : ℕ) × (Faulty us ws j f × (k ≡ i + (j + 1))))

-- the letter that a word is
abbrev pub letter : List ℕ → Option ℕ
letter [] = None
letter (c ∷ []) = Some c
letter (c ∷ d ∷ ds) = None

-- the letter of a line, and the words that follow it
abbrev pub first_letter : List (List ℕ) → Option ℕ
first_letter [] = None
first_letter (w ∷ ws) = letter w

abbrev pub after_letter : List (List ℕ) → List (List ℕ)
after_letter [] = []
after_letter (w ∷ ws) = ws

-- the reader stays in its line
abbrev pub InLine : Reader → Reader → Type 0
InLine s t = (below t ≡ below s) × (t.lines ≡ s.lines)

-- n words of the line are read
abbrev pub WordsRead : ℕ → Reader → Reader → Type 0
WordsRead n s t = (ahead t ≡ drop n (ahead s)) × (t.words ≡ s.words + n)

-- the line is read up to the word at fault; not at all where it has too many or too few
abbrev pub StoppedAt : Reader → WordFault → Reader → Type 0
StoppedAt s Form t = WordsRead 0 s t
StoppedAt s (Number k f) t = (j : ℕ) × ((k ≡ s.words + j) × WordsRead j s t)

-- how far a line is read for n number words
abbrev pub ReadTo : {X : Type 0} → ℕ → Reader → Result X WordFault → Reader → Type 0
ReadTo n s (Ok x) t = WordsRead n s t
ReadTo n s (Err e) t = StoppedAt s e t

-- the letter l of the line is read; a word of another length than 1 is read as none, and so is a missing one
pub record LetterTaken (s : Reader) (l : Option ℕ) (t : Reader) : Type 0 where
  pub is : l ≡ first_letter (ahead s)
  pub rest : ahead t ≡ after_letter (ahead s)
  pub counted : (c : ℕ) → l ≡ Some c → t.words ≡ s.words + 1
  pub passed : l ≡ None → t.words ≡ s.words + length (take 1 (ahead s))
  pub stays : InLine s t

-- the letter of the first of some lines
abbrev pub letter_below : List (List ℕ) → Option ℕ
letter_below [] = None
letter_below (l ∷ ls) = first_letter (words l)

-- one word is taken, and is a number by its field, or not
abbrev pub OneFault : ℕ → Field → List (List ℕ) → WordFault → Type 0
OneFault i u ws Form = ws ≡ []
OneFault i u ws (Number k f) = Faulty (u ∷ []) ws 0 f × (k ≡ i + 1)

abbrev pub OneTaken : Reader → Field → Result ℤ WordFault → Reader → Type 0
OneTaken s u (Ok z) t = InLine s t × (t.words ≡ s.words + 1) × Read (u ∷ []) (ahead s) (z ∷ []) (ahead t)
OneTaken s u (Err e) t = InLine s t × OneFault s.words u (ahead s) e × StoppedAt s e t
