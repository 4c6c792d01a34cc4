-- The book as the list of its orders, oldest first.
use Rattle.std.specs.Prelude.{◌≡◌, ℕ, ◌+◌, ◌<◌, Bool, true, false, cond, not, ◌&&◌, List, [], ◌∷◌, ◌++◌, length, take, drop, Some, None, Option, ◌==◌, nat_lt, slice_get}
use Rattle.std.specs.List.{HoldsAt, AllByRecursion, position_from}
use Rattle.book.specs.declared.rows.Order.{Order}
use Rattle.book.specs.declared.places.Book.{Book}
use Rattle.book.specs.Refusals.{first_refusing}

-- the orders in the book, oldest first
abbrev pub orders : Book → List Order
orders b = take b.len b.rows

-- the refusal of one more order
abbrev pub append_refusal : List Order → Option ℕ
append_refusal os = first_refusing ((not (nat_lt (length os) 128), 10) ∷ [])

-- the list with one more at its end, if there is a place
abbrev pub appended : List Order → Order → List Order
appended os o = cond (nat_lt (length os) 128) (os ++ o ∷ []) os

-- the order at a place
abbrev pub nth : {X : Type 0} → List X → ℕ → Option X
nth xs i = slice_get xs i

-- the list without its element at i, all of it if there is none
abbrev pub without : {X : Type 0} → List X → ℕ → List X
without xs i = take i xs ++ drop (i + 1) xs

-- the first place, counted from i, whose order passes
abbrev pub place_from : {X : Type 0} → (X → Bool) → ℕ → List X → Option ℕ
place_from p i xs = position_from p i xs

abbrev pub place : {X : Type 0} → (X → Bool) → List X → Option ℕ
place p xs = place_from p 0 xs

-- the same as a relation: none passes, or the first that passes stands there
abbrev pub Placed : {X : Type 0} → (X → Bool) → List X → Option ℕ → Type 0
Placed p xs None = AllByRecursion (λ x. p x ≡ false) xs
Placed p xs (Some k) = (k < length xs) × HoldsAt (λ x. p x ≡ true) xs k × AllByRecursion (λ x. p x ≡ false) (take k xs)

abbrev pub numbered : ℕ → Order → Bool
numbered n o = o.number == n

abbrev pub numbered_of : ℕ → ℕ → Order → Bool
numbered_of n m o = o.number == n && o.member == m

abbrev pub of_contract : ℕ → Order → Bool
of_contract c o = o.contract == c

abbrev pub not_of_contract : ℕ → Order → Bool
not_of_contract c o = not (o.contract == c)
