-- What a reader of a script has before it, and what each call takes of it.
use Rattle.std.specs.Prelude.{◌≡◌, ℕ, ◌+◌, ◌<◌, ◌≤◌, Bool, true, false, List, [], ◌∷◌, length, Some, None, Option}
use Rattle.std.specs.Borrow.{Bor}
use Rattle.std.specs.Option.{option_map}
use Rattle.reading.specs.declared.reader.Reader.{Reader}
use Rattle.reading.specs.Text.{lines, words}

-- what is not read yet of the line at hand; none once its last word is read
abbrev pub unread : Reader → Option (List ℕ)
unread r = option_map (λ x. x.now) r.line

abbrev pub words_of : Option (List ℕ) → List (List ℕ)
words_of None = []
words_of (Some l) = words l

-- the words of the line at hand that are still to come
abbrev pub ahead : Reader → List (List ℕ)
ahead r = words_of (unread r)

-- the lines that follow the line at hand
abbrev pub below : Reader → List (List ℕ)
below r = lines r.rest.now

-- a reader before the first line; of more than 65,536 bytes it reads none
pub record Begun (bs : List ℕ) (r : Reader) : Type 0 where
  pub none_ahead : ahead r ≡ []
  pub all_below : length bs ≤ 65536 → below r ≡ lines bs
  pub too_long : 65536 < length bs → below r ≡ []
  pub no_line : r.lines ≡ 0
  pub no_word : r.words ≡ 0

-- nothing is read
abbrev pub Kept : Reader → Reader → Type 0
Kept s t = (ahead t ≡ ahead s) × (below t ≡ below s) × (t.lines ≡ s.lines) × (t.words ≡ s.words)

-- the next line is at hand with its number and no word read; at the end all stays
abbrev pub NextLine : Reader → Bool → Reader → Type 0
NextLine s false t = (below s ≡ []) × Kept s t
NextLine s true t = ((l : List ℕ) × ((below s ≡ l ∷ below t) × (unread t ≡ Some l))) × (t.lines ≡ s.lines + 1) × (t.words ≡ 0)

-- one word is taken and counted, and nothing else; at the line's end all stays
abbrev pub NextWord : Reader → Option (Bor (List ℕ)) → Reader → Type 0
NextWord s None t = (ahead s ≡ []) × Kept s t
NextWord s (Some w) t = (ahead s ≡ w.now ∷ ahead t) × (t.words ≡ s.words + 1) × (below t ≡ below s) × (t.lines ≡ s.lines)
