-- What a sink of text owes.
use Rattle.std.specs.Prelude.{ℕ, List, [], ◌++◌}

-- what hearing a text makes of a sink
abbrev pub Hearing : Type 0 → Type 1
Hearing S = S → List ℕ → S → Type 0

-- a sink that is left as it is has heard the empty text, and to hear a text and then another is to hear both as one:
-- so it tells what was heard, and not in which parts
pub record Whole {S : Type 0} (hears : Hearing S) : Type 0 where
  pub nothing : (s : S) → hears s [] s
  pub joined : (s t u : S) (a b : List ℕ) → hears s a t → hears t b u → hears s (a ++ b) u
