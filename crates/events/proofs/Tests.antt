-- Each call by its tests, of which the first that applies refuses it, and by what it leads to where none does.
use Rattle.std.proofs.Common.{◌≡◌, ℕ, true, false, not, ◌||◌, ◌&&◌, eqb, List, [], ◌∷◌, ◌++◌, is_some, Some, None, Ok, Err, filter, Option, Result, sym, refl, ap, ◌∙◌}
use Rattle.std.proofs.Math.Bool.{and-true}
use Rattle.std.proofs.lemmas.Bool.{not-false, and_parts, and_from, and_right, both_ways}
use Rattle.capacity.proofs.Passes.{Passes, answered_passes, passes_resulting, refused_resulting}
use Rattle.capacity.specs.Meaning.{taken, noticed}
use Rattle.capacity.specs.Tests.{answered, resulting}
use Rattle.book.specs.Places.{place, numbered_of, not_of_contract}
use Rattle.matching.specs.declared.round.Round.{Round}
use Rattle.session.specs.declared.entries.Change.{Change as AChange}
use Rattle.session.specs.declared.faults.SessionFault.{SessionFault}
use Rattle.session.specs.Calls.{Test, giving, entry_checks, full_test, after_entry, change_tests, changed, withdraw_tests, less, request_tests, notifying_tests, in_batch, close_tests}
use Rattle.session.specs.Faults.{Refusal, told}
use Rattle.session.specs.State.{State, is_quiet, quiet_here}
use Rattle.session.specs.Steps.{round_here}
use Rattle.events.specs.declared.calls.Call.{Call}
use Rattle.events.specs.declared.calls.Call.TheVariants.{Enter, Change, Withdraw, Request, Notice, Close}
use Rattle.events.specs.Events.{Answer, Plainly, Counting, Answered, begins_round, round_follows}

abbrev pub tests_of : State → ℕ → Call → List Test
tests_of s p (Enter e) = entry_checks s p e ++ full_test s ∷ []
tests_of s p (Change c) = change_tests s p c.number c.member c.limit c.quantity
tests_of s p (Withdraw n m) = withdraw_tests s p n m
tests_of s p (Request d q) = request_tests s p d.contract d.from d.to q
tests_of s p (Notice d f) = notifying_tests s p d.contract d.from d.to f
tests_of s p (Close c) = close_tests s p c

abbrev pub led_to : State → Call → State
led_to s (Enter e) = after_entry s e
led_to s (Change c) = changed s c.limit c.quantity (place (numbered_of c.number c.member) s.book)
led_to s (Withdraw n m) = record { number = s.number; round = s.round; closed = s.closed; book = less s.book (place (numbered_of n m) s.book); capacity = s.capacity }
led_to s (Request d q) = in_batch s d.contract (taken s.capacity d.contract d.from d.to q)
led_to s (Notice d f) = in_batch s d.contract (noticed s.capacity d.contract d.from d.to f)
led_to s (Close c) = record { number = s.number; round = s.round; closed = λ k. eqb k c || s.closed k; book = filter (not_of_contract c) s.book; capacity = s.capacity }

-- what the tests say of an answer
abbrev said_by : Answer → Result (Unit {0}) Refusal
said_by (Err f) = Err (told f)
said_by (Ok n) = Ok tt

plainly_said : (r : Result (Unit {0}) Refusal) (a : Answer) → Plainly r a → r ≡ said_by a
plainly_said r (Err f) h = h
plainly_said r (Ok None) h = h
plainly_said r (Ok (Some n)) h = absurd h

counting_said : (n : ℕ) (r : Result (Unit {0}) Refusal) (a : Answer) → Counting (giving n r) a → r ≡ said_by a
counting_said n (Ok u) (Err f) h = cc
counting_said n (Ok u) (Ok m) h = refl
counting_said n (Err f) (Err g) h = cc
counting_said n (Err f) (Ok None) h = absurd h
counting_said n (Err f) (Ok (Some m)) h = cc

by_tests : (s : State) (p : ℕ) (k : Call) (a : Answer) (t : State) → Answered s p k a t → (answered (tests_of s p k) ≡ said_by a) × (t ≡ resulting (tests_of s p k) s (led_to s k))
by_tests s p (Enter e) a t h = (plainly_said _ a h.0, h.1)
by_tests s p (Change c) a t h = (plainly_said _ a h.0, h.1)
by_tests s p (Withdraw n m) a t h = (plainly_said _ a h.0, h.1)
by_tests s p (Request d q) a t h = (plainly_said _ a h.0, h.1)
by_tests s p (Notice d f) a t h = (plainly_said _ a h.0, h.1)
by_tests s p (Close c) a t h = (counting_said _ _ a h.0, h.1)

-- a refused call changes nothing
pub refused : (s : State) (p : ℕ) (k : Call) (f : SessionFault) (t : State) → Answered s p k (Err f) t → t ≡ s
refused s p k f t h = let w = by_tests s p k (Err f) t h in w.1 ∙ sym (refused_resulting (tests_of s p k) (told f) s (led_to s k) (sym w.0))

-- of an accepted call no test applies, and it leads where it should
module _ (s : State) (p : ℕ) (k : Call) (n : Option ℕ) (t : State) (h : Answered s p k (Ok n) t) where
  pub passes : Passes (tests_of s p k)
  passes = answered_passes (tests_of s p k) (sym (by_tests s p k (Ok n) t h).0)

  pub leads : t ≡ led_to s k
  leads = (by_tests s p k (Ok n) t h).1 ∙ sym (passes_resulting (tests_of s p k) s (led_to s k) passes)

-- the pass is the first to be tested
first : (s : State) (p : ℕ) (k : Call) → Passes (tests_of s p k) → not (quiet_here s p) ≡ false
first s p (Enter e) ps = ps.0
first s p (Change c) ps = ps.0
first s p (Withdraw n m) ps = ps.0
first s p (Request d q) ps = ps.0
first s p (Notice d f) ps = ps.0
first s p (Close c) ps = ps.0

quiet_is : (r : Option Round) → is_quiet r ≡ true → r ≡ None
quiet_is None h = refl
quiet_is (Some r) h = cc

here : (s : State) (p : ℕ) (k : Call) → Passes (tests_of s p k) → (eqb p s.number ≡ true) × (is_quiet s.round ≡ true)
here s p k ps = and_parts (eqb p s.number) (is_quiet s.round) (not-false (quiet_here s p) (first s p k ps))

-- so an accepted call is made while quiet
pub quiet_before : (s : State) (p : ℕ) (k : Call) (n : Option ℕ) (t : State) → Answered s p k (Ok n) t → s.round ≡ None
quiet_before s p k n t h = quiet_is s.round (here s p k (passes s p k n t h)).1

-- ---- rounds

change_begins : (s : State) (p : ℕ) (c : AChange) (x : Option ℕ) → not (is_some x) ≡ false → eqb p s.number ≡ true → round_here (changed s c.limit c.quantity x) p ≡ true
change_begins s p c None b e = cc
change_begins s p c (Some k) b e = and_from _ _ e refl

begins : (s : State) (p : ℕ) (k : Call) → begins_round k ≡ true → Passes (tests_of s p k) → eqb p s.number ≡ true → round_here (led_to s k) p ≡ true
begins s p (Enter e) b ps o = and_from _ _ o refl
begins s p (Change c) b ps o = change_begins s p c (place (numbered_of c.number c.member) s.book) ps.1.1.1.0 o
begins s p (Withdraw n m) b ps o = cc
begins s p (Request d q) b ps o = and_from _ _ o refl
begins s p (Notice d f) b ps o = and_from _ _ o refl
begins s p (Close c) b ps o = cc

-- a call that begins a round leaves its pass as the pass of that round
pub round_begun : (s : State) (p : ℕ) (k : Call) (a : Answer) (t : State) → Answered s p k a t → round_follows k a ≡ true → round_here t p ≡ true
round_begun s p k (Err f) t h b = absurd (both_ways (begins_round k && false) (and_right (begins_round k) false refl) b)
round_begun s p k (Ok n) t h b =
    let ps = passes s p k n t h in
    rw (leads s p k n t h) (begins s p k (and_parts (begins_round k) true b).0 ps (here s p k ps).0)

stays : (s : State) (k : Call) → begins_round k ≡ false → (led_to s k).round ≡ s.round
stays s (Enter e) b = cc
stays s (Change c) b = cc
stays s (Withdraw n m) b = refl
stays s (Request d q) b = cc
stays s (Notice d f) b = cc
stays s (Close c) b = refl

-- a call that begins none leaves the session as quiet as it was
pub none_begun : (s : State) (p : ℕ) (k : Call) (a : Answer) (t : State) → Answered s p k a t → round_follows k a ≡ false → t.round ≡ s.round
none_begun s p k (Err f) t h b = ap (λ (u : State). u.round) (refused s p k f t h)
none_begun s p k (Ok n) t h b = ap (λ (u : State). u.round) (leads s p k n t h) ∙ stays s k (sym (and-true (begins_round k)) ∙ b)

-- ---- the session's number

changed_number : (s : State) (c : AChange) (x : Option ℕ) → (changed s c.limit c.quantity x).number ≡ s.number
changed_number s c None = refl
changed_number s c (Some k) = refl

led_number : (s : State) (k : Call) → (led_to s k).number ≡ s.number
led_number s (Enter e) = refl
led_number s (Change c) = changed_number s c (place (numbered_of c.number c.member) s.book)
led_number s (Withdraw n m) = refl
led_number s (Request d q) = refl
led_number s (Notice d f) = refl
led_number s (Close c) = refl

-- no call changes it
pub same_number : (s : State) (p : ℕ) (k : Call) (a : Answer) (t : State) → Answered s p k a t → t.number ≡ s.number
same_number s p k (Err f) t h = ap (λ (u : State). u.number) (refused s p k f t h)
same_number s p k (Ok n) t h = ap (λ (u : State). u.number) (leads s p k n t h) ∙ led_number s k
