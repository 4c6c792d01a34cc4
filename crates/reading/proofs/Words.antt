-- Words of a line by their places.
use Rattle.std.proofs.Common.{◌≡◌, ℕ, ◌+◌, List, drop, Some, None, Option, sym, ap, ◌∙◌, Bor}
use Rattle.std.proofs.lemmas.List.{drop-drop}
use Rattle.reading.specs.declared.reader.Reader.{Reader}
use Rattle.reading.specs.Reading.{ahead, NextWord}

one_taken : (s t : Reader) (w : Option (Bor (List ℕ))) → NextWord s w t → ahead t ≡ drop 1 (ahead s)
one_taken s t None h = h.1.0 ∙ h.0 ∙ ap (drop 1) (sym h.0)
one_taken s t (Some w) h = ap (drop 1) (sym h.0)

-- one word more is passed
pub passed : (i : ℕ) (ws : List (List ℕ)) (s t : Reader) (w : Option (Bor (List ℕ))) → ahead s ≡ drop i ws → NextWord s w t → ahead t ≡ drop (i + 1) ws
passed i ws s t w e h = one_taken s t w h ∙ ap (drop 1) e ∙ drop-drop 1 i ws
