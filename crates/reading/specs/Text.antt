-- A script as lines, and a line as words.
use Rattle.std.specs.Prelude.{◌≡◌, ℕ, ◌+◌, ◌<◌, cond, List, [], ◌∷◌, length, Some, None, Option, ◌==◌}
use Rattle.std.specs.Borrow.{Bor}

-- a byte before the first of some pieces
abbrev pub onto : ℕ → List (List ℕ) → List (List ℕ)
onto c [] = (c ∷ []) ∷ []
onto c (p ∷ ps) = (c ∷ p) ∷ ps

-- a text cut at each byte b, where no text at all is the pieces e
abbrev pub cut : ℕ → List (List ℕ) → List ℕ → List (List ℕ)
cut b e [] = e
cut b e (c ∷ cs) = cond (c == b) ([] ∷ cut b e cs) (onto c (cut b e cs))

-- byte 10 ends a line; the last may lack it, and no line follows one at the very end
abbrev pub lines : List ℕ → List (List ℕ)
lines = cut 10 []

-- single spaces part words, so that two hold an empty word, and an empty line is one empty word
abbrev pub words : List ℕ → List (List ℕ)
words = cut 32 ([] ∷ [])

-- how many bytes a line has left, its end counted
abbrev pub with_its_end : Option (Bor (List ℕ)) → ℕ
with_its_end None = 0
with_its_end (Some l) = length l.now + 1

-- the first piece of a text that is cut at b, and what follows it
abbrev pub Parted : ℕ → List ℕ → List ℕ → Option (Bor (List ℕ)) → Type 0
Parted b s front None = (front ≡ s) × (cut b ([] ∷ []) s ≡ s ∷ []) × (0 < length s → cut b [] s ≡ s ∷ [])
Parted b s front (Some back) = ((e : List (List ℕ)) → cut b e s ≡ front ∷ cut b e back.now) × (length front + (length back.now + 1) ≡ length s)
