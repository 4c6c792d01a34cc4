-- No view is refused for want of lines, nor for its area.
use Rattle.std.proofs.Common.{◌≡◌, ℕ, zero, suc, ◌*◌, ◌≤◌, Bool, true, false, cond, List, [], ◌∷◌, length, Some, None, Option, ap, arith, length-append}
use Rattle.std.proofs.lemmas.Bool.{le-ltb}
use Rattle.capacity.specs.Tests.{answered}
use Rattle.capacity.specs.Meaning.{Capacity, atc}
use Rattle.session.specs.Calls.{contract_test, closed_test}
use Rattle.session.specs.Faults.{own}
use Rattle.session.specs.State.{State}
use Rattle.views.specs.Books.{area_tests}
use Rattle.views.specs.Capacities.{line_of, lines_from, capacity_lines, contract_tests}
use Rattle.views.specs.Gathered.{line_if, each_below, Gathered}

one_if : {A : Type 0} (b : Bool) (x : A) → length (cond b (x ∷ []) []) ≤ 1
one_if true x = omega arith
one_if false x = omega arith

module _ {A : Type 0} where
  below_few : (k : ℕ) (f : ℕ → List A) → ((i : ℕ) → length (f i) ≤ k) → (n : ℕ) → length (each_below n f) ≤ n * k
  unfolding each_below
  below_few k f few zero = omega arith
  below_few k f few (suc n) = omega (arith, few n, below_few k f few n, length-append (f n) (each_below n f))

  at_most_one : (o : Option A) → length (line_if o) ≤ 1
  at_most_one None = omega arith
  at_most_one (Some x) = omega arith

  pub gathered_few : (Shows : ℕ → Option A → Type 0) (n : ℕ) (xs : List A) → Gathered Shows n xs → length xs ≤ n
  unfolding Gathered
  gathered_few Shows zero xs g = omega (arith, ap length g)
  gathered_few Shows (suc n) xs g = omega (arith, at_most_one g.0, gathered_few Shows n g.1 g.3, ap length g.4, length-append (line_if g.0) g.1)

-- sixteen areas, and sixteen from each
pub capacity_few : (m : Capacity) (c : ℕ) → length (capacity_lines m c) ≤ 256
capacity_few m c = below_few 16 (lines_from m c) (λ a. below_few 1 (line_of m c a) (λ b. one_if (m.joins a b) (record { from = a; to = b; atc = atc m c a b })) 16) 16

-- of these areas the tests are those of the contract
pub in_area : (s : State) (c a : ℕ) → a ≤ 15 → answered (area_tests s c a) ≡ answered (contract_tests s c)
in_area s c a l = ap (λ (b : Bool). answered (contract_test c ∷ closed_test s c ∷ (b, own 4) ∷ [])) (le-ltb 15 a l)
