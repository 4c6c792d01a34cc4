-- How far a line is read: its letter, and then what follows it.
use Rattle.std.proofs.Common.{◌≡◌, ℕ, ◌+◌, List, [], ◌∷◌, length, take, drop, Some, None, Ok, Err, Option, Result, refl, ap, ◌∙◌, add-zero, arith}
use Rattle.std.proofs.lemmas.List.{drop-drop}
use Rattle.events.specs.declared.calls.Call.{Call}
use Rattle.reading.specs.declared.faults.WordFault.{WordFault}
use Rattle.reading.specs.declared.faults.WordFault.TheVariants.{Form, Number}
use Rattle.reading.specs.declared.reader.Reader.{Reader}
use Rattle.reading.specs.Fields.{first_letter, after_letter, LetterTaken, WordsRead, ReadTo}
use Rattle.reading.specs.Reading.{ahead}
use Rattle.lines.specs.Asking.{LineReadTo}

-- words are read after others
further : (n m : ℕ) (s t u : Reader) → WordsRead n s t → WordsRead m t u → WordsRead (n + m) s u
further n m s t u (rest, counted) (rest', counted') = (rest' ∙ ap (drop m) rest ∙ drop-drop m n (ahead s), omega (arith, counted, counted'))

first_passed : (ws : List (List ℕ)) → after_letter ws ≡ drop (length (take 1 ws)) ws
first_passed [] = refl
first_passed (w ∷ ws) = refl

one_passed : (ws : List (List ℕ)) (c : ℕ) → Some c ≡ first_letter ws → length (take 1 ws) ≡ 1
one_passed [] c e = cc
one_passed (w ∷ ws) c e = refl

then_the_rest : (ws : List (List ℕ)) → length (take 1 ws) + length (after_letter ws) ≡ length ws
then_the_rest [] = refl
then_the_rest (w ∷ ws) = grind arith

-- the first word is read, letter or not
pub letter_read : (s : Reader) (l : Option ℕ) (t : Reader) → LetterTaken s l t → WordsRead (length (take 1 (ahead s))) s t
letter_read s None t h = (h.rest ∙ first_passed (ahead s), h.passed refl)
letter_read s (Some c) t h = (h.rest ∙ first_passed (ahead s), rw (one_passed (ahead s) c h.is) (h.counted c refl))

-- the letter is read, and then what follows it
pub line_read : (s t u : Reader) (l : Option ℕ) (r : Result Call WordFault) → LetterTaken s l t → ReadTo (length (ahead t)) t r u → LineReadTo s r u
line_read s t u l (Ok k) h to =
    let all : length (take 1 (ahead s)) + length (ahead t) ≡ length (ahead s) = ap (λ ws. length (take 1 (ahead s)) + length ws) h.rest ∙ then_the_rest (ahead s) in
    rw all at (further _ _ s t u (letter_read s l t h) to)
line_read s t u l (Err Form) h to = rw add-zero at (further _ 0 s t u (letter_read s l t h) to)
line_read s t u l (Err (Number i f)) h (j, (at, to)) =
    let first = letter_read s l t h in
    (length (take 1 (ahead s)) + j, (omega (arith, at, first.1), further _ j s t u first to))
