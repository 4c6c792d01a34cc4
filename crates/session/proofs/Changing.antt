-- A change: what its tests say, and an order that is taken out of the book, so that its number is free, and put back.
use Rattle.std.proofs.Common.{◌≡◌, ℕ, zero, suc, ◌+◌, ◌<◌, Bool, true, false, not, List, [], ◌∷◌, ◌++◌, length, take, drop, ℤ, is_some, Some, None, Ok, Option, sym, refl, ap, ◌∙◌, subst, add-one, arith}
use Rattle.std.specs.List.{AllByRecursion}
use Rattle.std.proofs.ByRecursion.{All-weaker, All-get_or}
use Rattle.std.proofs.lemmas.Option.{slice_get-get_or, get_or_from_slice_get}
use Rattle.std.proofs.lemmas.Bool.{ne_eqb}
use Rattle.capacity.specs.Tests.{answered}
use Rattle.capacity.proofs.Passes.{answered_passes}
use Rattle.book.specs.declared.rows.Order.{Order}
use Rattle.book.specs.declared.rows.OrderTerms.{OrderTerms}
use Rattle.book.specs.Orderly.{Lacks, Distinct, Orderly}
use Rattle.book.specs.Places.{nth, without, place, place_from, numbered}
use Rattle.book.specs.Orders.{entered}
use Rattle.book.specs.Ranks.{blank, order_at}
use Rattle.book.specs.Terms.{bounds_tests, slice_tests, terms_tests, bounds_refusal, refusal}
use Rattle.matching.specs.declared.round.Round.TheVariants.{Regular}
use Rattle.session.specs.Faults.{own}
use Rattle.session.specs.State.{State}
use Rattle.session.specs.Calls.{Test, raised, terms_with, ill_changed, changed}
use Rattle.session.proofs.Deciding.{passed_on, numbers_passed, passes_numbers}

-- the order at a place, as it is read
pub is_there : (os : List Order) (k : ℕ) (r : Option Order) → k < length os → r ≡ nth os k → is_some r ≡ true
is_there os k r h e = ap is_some (e ∙ slice_get-get_or os k blank h)

pub read_row : (os : List Order) (k : ℕ) (r : Option Order) (o : Order) → k < length os → r ≡ nth os k → r ≡ Some o → order_at os k ≡ o
read_row os k r o h e f = get_or_from_slice_get os k o blank (sym e ∙ f)

-- the tests of a change after the pass's, t: of an order at a place, or of none
abbrev tests_at : List Order → ℤ → ℕ → Option ℕ → List Test
tests_at os l q at = (not (is_some at), own 9) ∷ (ill_changed os l q at, own 7) ∷ []

abbrev change_at : Test → List Order → ℤ → ℕ → Option ℕ → List Test
change_at t os l q at = t ∷ raised own (bounds_tests l q) ++ tests_at os l q at

-- of an order that is there, with a limit and a quantity in range, the slices decide
pub slices_decide : (t : Test) (os : List Order) (l : ℤ) (q : ℕ) (at : Option ℕ) (k : ℕ) (r : Option Order) (o : Order) (x : OrderTerms) → at ≡ Some k → k < length os → r ≡ nth os k → r ≡ Some o → x ≡ terms_with o l q → Ok tt ≡ answered (t ∷ []) → None ≡ bounds_refusal l q → answered (raised own (slice_tests x)) ≡ answered (change_at t os l q at)
slices_decide t os l q at k r o x e here read some f p h =
    let sizes = raised own (bounds_tests l q) in
    ap (λ (y : OrderTerms). answered (raised own (slice_tests y))) (f ∙ ap (λ (r : Order). terms_with r l q) (sym (read_row os k r o here read some)))
    ∙ passed_on sizes (tests_at os l q (Some k)) (numbers_passed (bounds_tests l q) h)
    ∙ passed_on (t ∷ []) (sizes ++ tests_at os l q (Some k)) p
    ∙ ap (λ (a : Option ℕ). answered (change_at t os l q a)) (sym e)

-- where none refuses, the new terms pass all that an entry's must
pub change_passed : (t : Test) (os : List Order) (l : ℤ) (q : ℕ) (at : Option ℕ) (k : ℕ) → at ≡ Some k → Ok tt ≡ answered (change_at t os l q at) → refusal (terms_with (order_at os k) l q) ≡ None
change_passed t os l q at k e h =
    let ps = answered_passes (change_at t os l q (Some k)) (subst (λ (a : Option ℕ). Ok tt ≡ answered (change_at t os l q a)) e h) in
    (passes_numbers (terms_tests (terms_with (order_at os k) l q)) [] (ps.1.0, (ps.1.1.0, ps.1.1.1.1))).0

-- the others of a book lack the number of the one that is taken out
others_lack : (os : List Order) (k : ℕ) → Distinct os → k < length os → Lacks (order_at os k).number (take k os ++ drop (suc k) os)
others_lack [] k d l = absurd (omega arith)
others_lack (o ∷ os) zero d l = d.0
others_lack (o ∷ os) (suc k) d l = (λ e. All-get_or (λ x. x.number ≡ o.number → ⊥) os k blank (omega arith) d.0 (sym e), others_lack os k d.1 (omega arith))

none_from : (p : Order → Bool) (i : ℕ) (os : List Order) → AllByRecursion (λ o. p o ≡ false) os → place_from p i os ≡ None
none_from p i [] h = refl
none_from p i (o ∷ os) h = rw h.0 (none_from p (i + 1) os h.1)

number_free : (os : List Order) (k : ℕ) → Distinct os → k < length os → place (numbered (order_at os k).number) (without os k) ≡ None
number_free os k d l =
    let n = (order_at os k).number in
    let lacks : Lacks n (without os k) = rw add-one (others_lack os k d l) in
    none_from (numbered n) 0 (without os k) (All-weaker (λ o. o.number ≡ n → ⊥) (λ o. numbered n o ≡ false) (λ o ne. ne_eqb o.number n ne) (without os k) lacks)

-- once the order is out, no other has its number
pub number_gone : (os : List Order) (k : ℕ) (rest : List Order) (n : ℕ) → k < length os → rest ≡ without os k → n ≡ (order_at os k).number → Orderly os → place (numbered n) rest ≡ None
number_gone os k rest n here out e h = ap (place (numbered n)) out ∙ ap (λ (m : ℕ). place (numbered m) (without os k)) e ∙ number_free os k h.distinct here

-- the session after it
pub changed_so : (s : State) (l : ℤ) (q : ℕ) (at : Option ℕ) (k : ℕ) (o new : Order) (t : OrderTerms) (os : List Order)
    → at ≡ Some k → order_at s.book k ≡ o → t ≡ terms_with o l q → new ≡ entered o.number o.member o.contract o.area t → os ≡ without s.book k ++ new ∷ []
    → ◌≡◌ {A = State} (record { number = s.number; round = Some (Regular o.contract o.number); closed = s.closed; book = os; capacity = s.capacity }) (changed s l q at)
changed_so s l q at k o new t os here e h f g =
    let over : Order → List Order → State = λ r xs. record { number = s.number; round = Some (Regular r.contract r.number); closed = s.closed; book = xs; capacity = s.capacity } in
    let with : Order → OrderTerms → State = λ r x. over r (without s.book k ++ entered r.number r.member r.contract r.area x ∷ []) in
    ap (over o) (g ∙ ap (λ (r : Order). without s.book k ++ r ∷ []) f)
    ∙ ap (with o) h
    ∙ ap (λ (r : Order). with r (terms_with r l q)) (sym e)
    ∙ ap (changed s l q) (sym here)
