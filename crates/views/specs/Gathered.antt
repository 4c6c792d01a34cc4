-- Lines gathered over the numbers below one, the last number first; a view then ranks them.
use Rattle.std.specs.Prelude.{◌≡◌, ℕ, zero, suc, List, [], ◌∷◌, ◌++◌, Some, None, Option}

-- one line, or none
abbrev pub line_if : {A : Type 0} → Option A → List A
line_if None = []
line_if (Some x) = x ∷ []

-- what f gives at each number below n
unfoldable pub each_below : {A : Type 0} → ℕ → (ℕ → List A) → List A
each_below zero f = []
each_below (suc n) f = f n ++ each_below n f

-- xs has the line, if any, that Shows tells of each number below n
unfoldable pub Gathered : {A : Type 0} → (ℕ → Option A → Type 0) → ℕ → List A → Type 0
Gathered Shows zero xs = xs ≡ []
Gathered {A} Shows (suc n) xs = (o : Option A) × (rest : List A) × Shows n o × Gathered Shows n rest × (xs ≡ line_if o ++ rest)
