-- How the answer to some tests gives the answer to a longer list of them.
use Rattle.std.proofs.Common.{◌≡◌, ℕ, Bool, true, false, List, [], ◌∷◌, ◌++◌, is_some, Some, None, Ok, Err, Option, refl}
use Rattle.capacity.specs.Tests.{answered}
use Rattle.capacity.proofs.Passes.{Passes, answered_passes}
use Rattle.book.specs.declared.faults.BookFault.{BookFault}
use Rattle.book.specs.declared.faults.BookFault.TheVariants as book
use Rattle.book.specs.Refusals.{first_refusing, fault_number}
use Rattle.book.specs.Places.{place, numbered}
use Rattle.book.specs.Terms.{refusal, size_tests, slice_tests}
use Rattle.session.specs.Faults.{Refusal, own, told, risen}
use Rattle.session.specs.declared.entries.Entry.{Entry}
use Rattle.session.specs.State.{State}
use Rattle.session.specs.Calls.{Test, raised, entry_checks, taken_test}

-- what the first tests refuse stays refused
pub refused_on : {T : Type 0} (xs ys : List (Bool × T)) (e : T) → Err e ≡ answered xs → Err e ≡ answered (xs ++ ys)
refused_on [] ys e h = absurd (cc)
refused_on ((true, x) ∷ xs) ys e h = h
refused_on ((false, x) ∷ xs) ys e h = refused_on xs ys e h

-- where they refuse nothing, the rest decides
pub passed_on : {T : Type 0} (xs ys : List (Bool × T)) → Ok tt ≡ answered xs → answered ys ≡ answered (xs ++ ys)
passed_on [] ys h = refl
passed_on ((true, x) ∷ xs) ys h = absurd (cc)
passed_on ((false, x) ∷ xs) ys h = passed_on xs ys h

pub raised_refused : {A : Type 0} (f : A → Refusal) (ts : List (Bool × A)) (e : A) → Err e ≡ answered ts → Err (f e) ≡ answered (raised f ts)
raised_refused f [] e h = absurd (cc)
raised_refused f ((true, x) ∷ ts) e h = cc
raised_refused f ((false, x) ∷ ts) e h = raised_refused f ts e h

pub raised_passed : {A : Type 0} (f : A → Refusal) (ts : List (Bool × A)) → Ok tt ≡ answered ts → Ok tt ≡ answered (raised f ts)
raised_passed f [] h = refl
raised_passed f ((true, x) ∷ ts) h = absurd (cc)
raised_passed f ((false, x) ∷ ts) h = raised_passed f ts h

-- the book's tests, by their numbers
pub numbers_refused : (ts : List (Bool × ℕ)) (n : ℕ) → Some n ≡ first_refusing ts → Err (own n) ≡ answered (raised own ts)
numbers_refused [] n h = absurd (cc)
numbers_refused ((true, x) ∷ ts) n h = cc
numbers_refused ((false, x) ∷ ts) n h = numbers_refused ts n h

pub numbers_passed : (ts : List (Bool × ℕ)) → None ≡ first_refusing ts → Ok tt ≡ answered (raised own ts)
numbers_passed [] h = refl
numbers_passed ((true, x) ∷ ts) h = absurd (cc)
numbers_passed ((false, x) ∷ ts) h = numbers_passed ts h

pub passes_numbers : (ts : List (Bool × ℕ)) (us : List Test) → Passes (raised own ts ++ us) → (first_refusing ts ≡ None) × Passes us
passes_numbers [] us h = (refl, h)
passes_numbers (t ∷ ts) us h = let k = passes_numbers ts us h.1 in (rw h.0 k.0, k.1)

pub risen_told : (f : BookFault) → told (risen f) ≡ own (fault_number f)
risen_told book.Limit = refl
risen_told book.Quantity = refl
risen_told book.Slices = refl
risen_told book.Full = refl

pub none_is : {X : Type 0} (o : Option X) → is_some o ≡ false → o ≡ None
none_is None h = refl
none_is (Some x) h = absurd (cc)

-- an entry that no test refuses has terms that none refuses, and a number that no order has
pub entry_passed : (s : State) (p : ℕ) (e : Entry) → Ok tt ≡ answered (entry_checks s p e) → (refusal e.terms ≡ None) × (place (numbered e.number) s.book ≡ None)
entry_passed s p e h =
    let ps = answered_passes (entry_checks s p e) h in
    let k = passes_numbers (size_tests e.terms ++ slice_tests e.terms) (taken_test s e.number ∷ []) ps.1.1.1.1 in
    (k.0, none_is (place (numbered e.number) s.book) k.1.0)
