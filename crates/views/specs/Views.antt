-- How a view is answered, whichever lines it has.
use Rattle.std.specs.Prelude.{◌≡◌, ℕ, ◌<◌, ◌≤◌, Bool, ◌⊎◌, List, length, take, drop, Ok, Err, Result}
use Rattle.capacity.specs.Tests.{answered}
use Rattle.ranking.specs.Ranking.{Ranking}
use Rattle.session.specs.declared.faults.SessionFault.{SessionFault}
use Rattle.session.specs.Calls.{Test}
use Rattle.session.specs.Faults.{Refusal, own, told}

-- the first n of the lines hold xs, ranked, and those beyond are as they were before
pub record Held {A : Type 0} (precedes : A → A → Bool) (xs before lines : List A) (n : ℕ) : Type 0 where
  pub count : n ≡ length xs
  pub ranked : Ranking precedes xs (take n lines)
  pub rest : drop n lines ≡ drop n before

-- the view has more lines than were lent
abbrev pub TooFew : {A : Type 0} → (List A → Type 0) → List A → Type 0
TooFew {A} Lines before = (xs : List A) × Lines xs × (length before < length xs)

-- its lines fit and are written, n of them
abbrev pub Written : {A : Type 0} → (A → A → Bool) → (List A → Type 0) → List A → ℕ → List A → Type 0
Written {A} precedes Lines before n after = (xs : List A) × Lines xs × (length xs ≤ length before) × Held precedes xs before after n

-- How a view is answered: ts are the tests that come before its lines, and Lines tells which lines it has; before and after are the lines lent.
abbrev pub Viewed : {A : Type 0} → (A → A → Bool) → List Test → (List A → Type 0) → List A → Result ℕ SessionFault → List A → Type 0
Viewed precedes ts Lines before (Err e) after =
    ((answered ts ≡ Err (told e)) ⊎ ((answered ts ≡ Ok tt) × (told e ≡ own 15) × TooFew Lines before)) × (after ≡ before)
Viewed precedes ts Lines before (Ok n) after = (answered ts ≡ Ok tt) × Written precedes Lines before n after

-- the answer, with its refusal told
abbrev pub viewed_told : Result ℕ SessionFault → Result ℕ Refusal
viewed_told (Ok n) = Ok n
viewed_told (Err e) = Err (told e)

-- A view over these lines has no other answer, and leaves no other lines.
abbrev pub OnlyView : {A : Type 0} → (A → A → Bool) → List Test → (List A → Type 0) → List A → Result ℕ SessionFault → List A → Type 0
OnlyView {A} precedes ts Lines before r after = (r' : Result ℕ SessionFault) (after' : List A) → Viewed precedes ts Lines before r' after' → (viewed_told r' ≡ viewed_told r) × (after' ≡ after)
