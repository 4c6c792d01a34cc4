-- How a call is decided: a list of tests, each with the refusal that it brings, of which the first that applies counts.
use Rattle.std.specs.Prelude.{Bool, cond, List, [], ◌∷◌, Ok, Err, Result}

-- refused by the first test that applies; with none, accepted
abbrev pub answered : {T : Type 0} → List (Bool × T) → Result (Unit {0}) T
answered [] = Ok tt
answered (t ∷ ts) = cond t.0 (Err t.1) (answered ts)

-- what stands after the call: m as it was if a test applies, else n
abbrev pub resulting : {T S : Type 0} → List (Bool × T) → S → S → S
resulting [] m n = n
resulting (t ∷ ts) m n = cond t.0 m (resulting ts m n)

-- an answer, with its refusal told by f
abbrev pub said : {E T : Type 0} → (E → T) → Result (Unit {0}) E → Result (Unit {0}) T
said f (Ok x) = Ok tt
said f (Err e) = Err (f e)
