-- There is one route at most.
use Rattle.std.proofs.Common.{◌≡◌, ℕ, List, [], ◌∷◌, length, Option, Some, None, MatchOption, refl, inl, inr, arith}
use Rattle.routes.specs.declared.route.Route.{Route}
use Rattle.routes.specs.Listed.{listed}
use Rattle.routes.specs.Paths.{Relation, Lower, Path, IsRoute}

-- two lists that are each no higher than the other, and as long, are one
lower_same : (xs ys : List ℕ) → length xs ≡ length ys → Lower xs ys → Lower ys xs → xs ≡ ys
lower_same [] [] e h k = refl
lower_same [] (y ∷ ys) e h k = absurd (omega arith)
lower_same (x ∷ xs) [] e h k = absurd h
lower_same (x ∷ xs) (y ∷ ys) e h k =
    elim h [
      | inl l ↦ elim k [ inl m ↦ absurd (omega arith) | inr m ↦ absurd (omega (arith, m.0)) ]
      | inr l ↦ elim k [
        | inl m ↦ absurd (omega (arith, l.0))
        | inr m ↦ let u : x ≡ y = l.0 in let v : xs ≡ ys = lower_same xs ys (omega arith) l.1 m.1 in cc
      ]
    ]

pub one_route : (O : Relation) (p q : ℕ) (xs ys : List ℕ) → IsRoute O p q xs → IsRoute O p q ys → xs ≡ ys
one_route O p q xs ys h k =
    elim (h.1 ys k.0) [
      | inl l ↦ elim (k.1 xs h.0) [ inl m ↦ absurd (omega arith) | inr m ↦ absurd (omega (arith, m.0)) ]
      | inr l ↦ elim (k.1 xs h.0) [ inl m ↦ absurd (omega (arith, l.0)) | inr m ↦ lower_same xs ys l.0 l.1 m.1 ]
    ]

-- an answer is the only one
pub only_one : (O : Relation) (p q : ℕ) (r : Option Route) → MatchOption r ((xs : List ℕ) → Path O p q xs → ⊥) (λ w. IsRoute O p q (listed w)) → (xs : List ℕ) → IsRoute O p q xs → MatchOption r ⊥ (λ w. listed w ≡ xs)
only_one O p q None h xs k = h xs k.0
only_one O p q (Some w) h xs k = one_route O p q (listed w) xs h k
