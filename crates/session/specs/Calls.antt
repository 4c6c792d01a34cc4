-- How each call is answered, and the state after it: the refusals are a list of tests, of which the first that applies counts.
use Rattle.std.specs.Prelude.{◌≡◌, ℕ, Bool, false, cond, not, ◌||◌, List, [], ◌∷◌, ◌++◌, length, ℤ, is_some, Some, None, Ok, Err, filter, Option, Result, ◌==◌, nat_lt}
use Rattle.capacity.specs.declared.faults.RegisterFault.{RegisterFault}
use Rattle.capacity.specs.Faults as register
use Rattle.capacity.specs.Tests.{answered, resulting, said}
use Rattle.capacity.specs.Meaning.{Capacity, taken, noticed}
use Rattle.capacity.specs.Answers.{take_tests, notice_tests}
use Rattle.capacity.specs.declared.figures.Figures.{Figures}
use Rattle.book.specs.declared.rows.Order.{Order}
use Rattle.book.specs.declared.rows.OrderTerms.{OrderTerms}
use Rattle.book.specs.Orders.{entered}
use Rattle.book.specs.Places.{place, without, numbered, numbered_of, of_contract, not_of_contract}
use Rattle.book.specs.Ranks.{order_at}
use Rattle.book.specs.Terms.{size_tests, bounds_tests, slice_tests, ill_sliced}
use Rattle.matching.specs.declared.round.Round.TheVariants.{Regular, Batch}
use Rattle.session.specs.declared.entries.Entry.{Entry}
use Rattle.session.specs.declared.passes.QuietPass.{QuietPass}
use Rattle.session.specs.declared.passes.RoundPass.{RoundPass}
use Rattle.session.specs.declared.passes.Refused.{Refused}
use Rattle.session.specs.declared.passes.Closing.{Closing}
use Rattle.session.specs.Faults.{Refusal, own, registers, told}
use Rattle.session.specs.declared.state.Session.{Session}
use Rattle.session.specs.State.{State, state, quiet_here}

-- a test, and the refusal that it brings
abbrev pub Test : Type 0
Test = Bool × Refusal

-- the answer by the first test that applies, and the state after: s as it was if one does, else t
abbrev pub decided : List Test → State → State → Result (Unit {0}) Refusal × State
decided ts s t = (answered ts, resulting ts s t)

-- tests of a layer below as the session's
abbrev pub raised : {A : Type 0} → (A → Refusal) → List (Bool × A) → List Test
raised f [] = []
raised f (t ∷ ts) = (t.0, f t.1) ∷ raised f ts

-- what a call answered: accepted, or why not
abbrev pub answer : {P Q : Type 0} → Result P (Refused Q) → Result (Unit {0}) Refusal
answer (Ok p) = Ok tt
answer (Err e) = Err (told e.fault)

-- the number on the pass that came back, of a call that begins a round and of one that does not
abbrev pub begun : Result RoundPass (Refused QuietPass) → ℕ
begun (Ok p) = p.number
begun (Err e) = e.pass.number

abbrev pub kept : Result QuietPass (Refused QuietPass) → ℕ
kept (Ok p) = p.number
kept (Err e) = e.pass.number

-- the same of a closing, and its answer
abbrev pub shut : Result Closing (Refused QuietPass) → ℕ
shut (Ok a) = a.pass.number
shut (Err e) = e.pass.number

abbrev pub counted : Result Closing (Refused QuietPass) → Result ℕ Refusal
counted (Ok a) = Ok a.gone
counted (Err e) = Err (told e.fault)

abbrev pub pass_test : State → ℕ → Test
pass_test s p = (not (quiet_here s p), own 1)

abbrev pub contract_test : ℕ → Test
contract_test c = (nat_lt 23 c, own 2)

abbrev pub closed_test : State → ℕ → Test
closed_test s c = (s.closed c, own 3)

abbrev pub area_test : ℕ → Test
area_test a = (nat_lt 15 a, own 4)

abbrev pub taken_test : State → ℕ → Test
taken_test s n = (is_some (place (numbered n) s.book), own 8)

abbrev pub unknown_test : State → ℕ → ℕ → Test
unknown_test s n m = (not (is_some (place (numbered_of n m) s.book)), own 9)

abbrev pub full_test : State → Test
full_test s = (not (nat_lt (length s.book) 128), own 10)

-- a batch round under way, over another capacity
abbrev pub in_batch : State → ℕ → Capacity → State
in_batch s c m = record { number = s.number; round = Some (Batch c); closed = s.closed; book = s.book; capacity = m }

-- the tests of a call that the register answers by the tests ts
abbrev pub asking_tests : State → ℕ → ℕ → List (Bool × register.Refusal) → List Test
asking_tests s p c ts = pass_test s p ∷ closed_test s c ∷ raised registers ts

-- what such a call answers and leaves: a batch round, over the capacity m
abbrev pub Asked : Result (Unit {0}) Refusal → State → State → ℕ → ℕ → List (Bool × register.Refusal) → Capacity → Type 0
Asked a t s p c ts m = (a ≡ answered (asking_tests s p c ts)) × (t ≡ resulting (asking_tests s p c ts) s (in_batch s c m))

-- a call answers by the tests ts, and where none applies leads to m: calls says what it gives, and leaves, of a register
abbrev pub AnswersBy : {R : Type 0} → (R → Capacity) → (R → Result (Unit {0}) RegisterFault → R → Type 0) → R → List (Bool × register.Refusal) → Capacity → Type 0
AnswersBy {R} meaning calls r ts m = (a : Result (Unit {0}) RegisterFault) (r' : R) → calls r a r' → (said register.told a ≡ answered ts) × (meaning r' ≡ resulting ts (meaning r) m)

-- whatever a call gives of a register r, it leaves of its memory what calls may leave
abbrev pub LeavesBy : {R : Type 0} → (R → Result (Unit {0}) RegisterFault → R → Type 0) → (R → R → Type 0) → R → Type 0
LeavesBy {R} calls leaves r = (a : Result (Unit {0}) RegisterFault) (r' : R) → calls r a r' → leaves r r'

abbrev pub request_tests : State → ℕ → ℕ → ℕ → ℕ → ℕ → List Test
request_tests s p c a b q = asking_tests s p c (take_tests s.capacity c a b q)

-- a request takes a quantity on one connector
abbrev pub requesting : State → ℕ → ℕ → ℕ → ℕ → ℕ → Result (Unit {0}) Refusal × State
requesting s p c a b q = decided (request_tests s p c a b q) s (in_batch s c (taken s.capacity c a b q))

abbrev pub notifying_tests : State → ℕ → ℕ → ℕ → ℕ → Figures → List Test
notifying_tests s p c a b f = asking_tests s p c (notice_tests s.capacity c a b f)

-- a notice goes to the register
abbrev pub noticing : State → ℕ → ℕ → ℕ → ℕ → Figures → Result (Unit {0}) Refusal × State
noticing s p c a b f = decided (notifying_tests s p c a b f) s (in_batch s c (noticed s.capacity c a b f))

-- the list without what stands at a place, if it is one
abbrev pub less : List Order → Option ℕ → List Order
less os None = os
less os (Some k) = without os k

abbrev pub withdraw_tests : State → ℕ → ℕ → ℕ → List Test
withdraw_tests s p n m = pass_test s p ∷ unknown_test s n m ∷ []

-- a withdrawal takes the order of a number and member out
abbrev pub withdrawing : State → ℕ → ℕ → ℕ → Result (Unit {0}) Refusal × State
withdrawing s p n m =
    decided (withdraw_tests s p n m) s
    (record { number = s.number; round = s.round; closed = s.closed; book = less s.book (place (numbered_of n m) s.book); capacity = s.capacity })

-- an answer that gives x where it accepts
abbrev pub giving : {X T : Type 0} → X → Result (Unit {0}) T → Result X T
giving x (Ok u) = Ok x
giving x (Err e) = Err e

abbrev pub close_tests : State → ℕ → ℕ → List Test
close_tests s p c = pass_test s p ∷ contract_test c ∷ closed_test s c ∷ []

-- a closing takes a contract's orders out, closes it and answers how many went
abbrev pub closing : State → ℕ → ℕ → Result ℕ Refusal × State
closing s p c = (
  giving (length (filter (of_contract c) s.book)) (answered (close_tests s p c)),
  resulting (close_tests s p c) s
      (record { number = s.number; round = s.round; closed = λ k. (k == c) || s.closed k; book = filter (not_of_contract c) s.book; capacity = s.capacity }),
)

-- the tests of an entry, but for a full book
abbrev pub entry_checks : State → ℕ → Entry → List Test
entry_checks s p e =
    pass_test s p
    ∷ contract_test e.contract
    ∷ closed_test s e.contract
    ∷ area_test e.area
    ∷ raised own (size_tests e.terms ++ slice_tests e.terms)
    ++ taken_test s e.number
    ∷ []

-- the order is newest, and a regular round under way with it as incoming
abbrev pub after_entry : State → Entry → State
after_entry s e = record {
  number = s.number;
  round = Some (Regular e.contract e.number);
  closed = s.closed;
  book = s.book ++ entered e.number e.member e.contract e.area e.terms ∷ [];
  capacity = s.capacity;
}

-- an entry makes the order newest and begins a regular round with it as incoming
abbrev pub entering : State → ℕ → Entry → Result (Unit {0}) Refusal × State
entering s p e = decided (entry_checks s p e ++ full_test s ∷ []) s (after_entry s e)

-- an order's terms with another limit and quantity
abbrev pub terms_with : Order → ℤ → ℕ → OrderTerms
terms_with o l q = record { kind = o.kind; side = o.side; limit = l; quantity = q; peak = o.peak; delta = o.delta }

-- peak and delta of the order at a place, if it is one, do not go with the new limit and quantity
abbrev pub ill_changed : List Order → ℤ → ℕ → Option ℕ → Bool
ill_changed os l q None = false
ill_changed os l q (Some k) = ill_sliced (order_at os k).kind (terms_with (order_at os k) l q)

abbrev pub change_tests : State → ℕ → ℕ → ℕ → ℤ → ℕ → List Test
change_tests s p n m l q =
    pass_test s p
    ∷ raised own (bounds_tests l q)
    ++ unknown_test s n m
    ∷ (ill_changed s.book l q (place (numbered_of n m) s.book), own 7)
    ∷ []

-- the order at a place, if it is one, becomes newest with a new limit and quantity, an iceberg with its first slice anew,
-- and a regular round begins with it as incoming
abbrev pub changed : State → ℤ → ℕ → Option ℕ → State
changed s l q None = s
changed s l q (Some k) =
    let o = order_at s.book k in
    record {
      number = s.number;
      round = Some (Regular o.contract o.number);
      closed = s.closed;
      book = without s.book k ++ entered o.number o.member o.contract o.area (terms_with o l q) ∷ [];
      capacity = s.capacity;
    }

-- a change of the order of a number and member
abbrev pub changing : State → ℕ → ℕ → ℕ → ℤ → ℕ → Result (Unit {0}) Refusal × State
changing s p n m l q = decided (change_tests s p n m l q) s (changed s l q (place (numbered_of n m) s.book))

-- a register that came back, by its meaning, or the refusal with the session and the number on the pass
module _ {R : Type 0} (meaning : R → Capacity) where
  abbrev pub ended : Result R (Session R × Refused QuietPass) → Result Capacity (Refusal × State × ℕ)
  ended (Ok r) = Ok (meaning r)
  ended (Err e) = Err (told e.1.fault, state meaning e.0, e.1.pass.number)

-- the end of a session gives its register back
abbrev pub ending : State → ℕ → Result Capacity (Refusal × State × ℕ)
ending s p = cond (quiet_here s p) (Ok s.capacity) (Err (own 1, s, p))
