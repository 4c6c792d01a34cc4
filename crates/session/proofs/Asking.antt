-- A call that the register answers: what it answers and leaves, from what the register does.
use Rattle.std.proofs.Common.{◌≡◌, ℕ, Bool, List, [], ◌∷◌, Ok, Err, sym, ap, ◌∙◌}
use Rattle.capacity.specs.Faults as register
use Rattle.capacity.specs.Meaning.{Capacity}
use Rattle.capacity.specs.Tests.{answered, resulting}
use Rattle.capacity.proofs.Passes.{answered_passes, passes_resulting, refused_resulting}
use Rattle.session.specs.Faults.{registers}
use Rattle.session.specs.State.{State}
use Rattle.session.specs.Calls.{raised, pass_test, closed_test, in_batch, asking_tests, Asked}
use Rattle.session.proofs.Deciding.{passed_on, raised_refused, raised_passed}

module _ (s : State) (p c : ℕ) (ts : List (Bool × register.Refusal)) (m n : Capacity) (quiet : Ok tt ≡ answered (pass_test s p ∷ [])) (free : Ok tt ≡ answered (closed_test s c ∷ [])) where
  -- the session's two tests passed, and the register's decide
  registers_decide : answered (raised registers ts) ≡ answered (asking_tests s p c ts)
  registers_decide = passed_on (closed_test s c ∷ []) (raised registers ts) free ∙ passed_on (pass_test s p ∷ []) (closed_test s c ∷ raised registers ts) quiet

  pub asked_refused : (e : register.Refusal) → Err e ≡ answered ts → n ≡ resulting ts s.capacity m → Asked (Err (registers e)) (record { number = s.number; round = s.round; closed = s.closed; book = s.book; capacity = n }) s p c ts m
  asked_refused e h k =
      let us = asking_tests s p c ts in
      let refused = raised_refused registers ts e h ∙ registers_decide in
      let over : Capacity → State = λ x. record { number = s.number; round = s.round; closed = s.closed; book = s.book; capacity = x } in
      (refused, ap over (k ∙ sym (refused_resulting ts e s.capacity m h)) ∙ refused_resulting us _ s (in_batch s c m) refused)

  pub asked_granted : Ok tt ≡ answered ts → n ≡ resulting ts s.capacity m → Asked (Ok tt) (in_batch s c n) s p c ts m
  asked_granted h k =
      let us = asking_tests s p c ts in
      let granted = raised_passed registers ts h ∙ registers_decide in
      (granted, ap (in_batch s c) (k ∙ sym (passes_resulting ts s.capacity m (answered_passes ts h))) ∙ passes_resulting us s (in_batch s c m) (answered_passes us granted))
