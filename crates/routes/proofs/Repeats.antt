-- A list of numbers below n, none repeated, has at most n of them.
use Rattle.std.proofs.Common.{◌≡◌, ℕ, ◌<◌, ◌≤◌, true, false, eqb, List, [], ◌∷◌, length, sym, inl, inr, ◌≢◌, arith}
use Rattle.std.specs.List.{AllByRecursion, IsDistinct, list_any}
use Rattle.std.proofs.ByRecursion.{All-weaker}
use Rattle.std.proofs.lemmas.Bool.{cases_eq, ne_eqb, false≢true}
use Rattle.std.proofs.lemmas.Map.Keys.{IsDistinct-cons}
use Rattle.std.proofs.lemmas.Map.Steps.{length-le_from_distinct_below}
use Rattle.routes.specs.Paths.{NoRepeat}

distinct : (xs : List ℕ) → NoRepeat xs → IsDistinct eqb xs
unfolding IsDistinct
distinct [] u = tt
distinct (x ∷ xs) u = IsDistinct-cons eqb x xs (All-weaker (λ y. y ≢ x) (λ y. eqb x y ≡ false) (λ y n. ne_eqb x y (λ e. n (sym e))) xs u.0) (distinct xs u.1)

among : (n : ℕ) (xs : List ℕ) → AllByRecursion (λ x. x < n) xs → (q : ℕ) → list_any (eqb q) xs ≡ true → q < n
among n [] h q e = absurd (false≢true e)
among n (x ∷ xs) h q e = elim (cases_eq q x) [
  | inl z ↦ omega (arith, h.0)
  | inr z ↦ among n xs h.1 q (rw (ne_eqb q x z) at e)
]

pub few : (n : ℕ) (xs : List ℕ) → NoRepeat xs → AllByRecursion (λ x. x < n) xs → length xs ≤ n
few n xs u h = length-le_from_distinct_below xs n (distinct xs u) (among n xs h)
