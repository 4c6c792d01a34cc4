-- A call that no test refuses, and one that some test does.
use Rattle.std.proofs.Common.{◌≡◌, Bool, true, false, List, [], ◌∷◌, Ok, Err, refl}
use Rattle.capacity.specs.Tests.{answered, resulting}

-- none of the tests applies
abbrev pub Passes : {T : Type 0} → List (Bool × T) → Type 0
Passes [] = Unit {0}
Passes (t ∷ ts) = (t.0 ≡ false) × Passes ts

pub passes_answered : {T : Type 0} (ts : List (Bool × T)) → Passes ts → Ok tt ≡ answered ts
passes_answered [] h = refl
passes_answered (t ∷ ts) h = rw h.0 (passes_answered ts h.1)

pub passes_resulting : {T S : Type 0} (ts : List (Bool × T)) (m n : S) → Passes ts → n ≡ resulting ts m n
passes_resulting [] m n h = refl
passes_resulting (t ∷ ts) m n h = rw h.0 (passes_resulting ts m n h.1)

pub answered_passes : {T : Type 0} (ts : List (Bool × T)) → Ok tt ≡ answered ts → Passes ts
answered_passes [] e = tt
answered_passes ((true, x) ∷ ts) e = absurd cc
answered_passes ((false, x) ∷ ts) e = (refl, answered_passes ts e)

pub refused_resulting : {T S : Type 0} (ts : List (Bool × T)) (x : T) (m n : S) → Err x ≡ answered ts → m ≡ resulting ts m n
refused_resulting [] x m n e = absurd cc
refused_resulting ((true, y) ∷ ts) x m n e = refl
refused_resulting ((false, y) ∷ ts) x m n e = refused_resulting ts x m n e
