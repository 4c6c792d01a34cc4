-- What a search for the first place says.
use Rattle.std.proofs.Common.{◌≡◌, ℕ, suc, ◌+◌, ◌<◌, Bool, true, false, List, [], ◌∷◌, length, take, Some, None, Option, sym, subst, inl, inr, arith}
use Rattle.std.specs.List.{HoldsAt, AllByRecursion}
use Rattle.std.proofs.lemmas.Bool.{cond-true, cond-false, cases_Bool}
use Rattle.book.specs.Places.{place, place_from, Placed}

abbrev pub From : {X : Type 0} → (X → Bool) → ℕ → List X → Option ℕ → Type 0
From p i xs None = AllByRecursion (λ x. p x ≡ false) xs
From p i xs (Some k) = (m : ℕ) × (k ≡ i + m) × (m < length xs) × HoldsAt (λ x. p x ≡ true) xs m × AllByRecursion (λ x. p x ≡ false) (take m xs)

past_one : {X : Type 0} (p : X → Bool) (i : ℕ) (x : X) (xs : List X) (o : Option ℕ) → p x ≡ false → From p (i + 1) xs o → From p i (x ∷ xs) o
past_one p i x xs None n h = (n, h)
past_one p i x xs (Some k) n h = (suc h.0, omega (arith, h.1), omega (arith, h.2), h.3, (n, h.4))

pub from : {X : Type 0} (p : X → Bool) (i : ℕ) (xs : List X) → From p i xs (place_from p i xs)
from p i [] = tt
from p i (x ∷ xs) =
    elim (cases_Bool (p x)) [
      | inl y ↦ subst (From p i (x ∷ xs)) (sym (cond-true (p x) (Some i) (place_from p (i + 1) xs) y)) (0, omega arith, omega arith, λ d. y, tt)
      | inr n ↦ subst (From p i (x ∷ xs)) (sym (cond-false (p x) (Some i) (place_from p (i + 1) xs) n)) (past_one p i x xs (place_from p (i + 1) xs) n (from p (i + 1) xs))
    ]

at_start : {X : Type 0} (p : X → Bool) (xs : List X) (o : Option ℕ) → From p 0 xs o → Placed p xs o
at_start p xs None h = h
at_start {X} p xs (Some k) h =
    let e : h.0 ≡ k = omega (arith, h.1) in
    let P : ℕ → Type 0 = λ m. (m < length xs) × HoldsAt (λ x. p x ≡ true) xs m × AllByRecursion (λ x. p x ≡ false) (take m xs) in
    subst P e (h.2, h.3, h.4)

pub placed : {X : Type 0} (p : X → Bool) (xs : List X) → Placed p xs (place p xs)
placed p xs = at_start p xs (place p xs) (from p 0 xs)

pub placed_by : {X : Type 0} (p : X → Bool) (xs : List X) (o : Option ℕ) → o ≡ place p xs → Placed p xs o
placed_by p xs o e = subst (Placed p xs) (sym e) (placed p xs)
