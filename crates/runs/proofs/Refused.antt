-- A refused line of calls changes nothing.
use Rattle.std.proofs.Common.{◌≡◌, ℕ, Bool, false, List, OnErr, Ok, Err, Result, sym, refl, ◌∙◌, subst}
use Rattle.std.proofs.lemmas.Bool.{and_right}
use Rattle.session.specs.declared.faults.SessionFault.{SessionFault}
use Rattle.session.specs.Rounds.{Logged}
use Rattle.session.specs.State.{State}
use Rattle.events.proofs.Tests.{refused}
use Rattle.events.specs.declared.calls.Call.{Call}
use Rattle.events.specs.Events.{begins_round, round_follows}
use Rattle.events.specs.Turns.{Follows, Turned}
use Rattle.lines.specs.declared.faults.LineFault.{LineFault}
use Rattle.runs.specs.Lines.{Outcome, unread, turn, line_answer, LineComes}

none_follows : (b : Bool) (s t : State) (xs : List Logged) → b ≡ false → Follows b s xs t → t ≡ s
none_follows b s t xs e f = (subst (λ (c : Bool). Follows c s xs t) e f).1

turn_refused : (s t : State) (p : ℕ) (k : Call) (f : SessionFault) (xs : List Logged) → Turned s p k (Err f) xs t → t ≡ s
turn_refused s t p k f xs x = none_follows (round_follows k (Err f)) x.called t xs (and_right (begins_round k) false refl) x.followed ∙ refused s p k f x.called x.answered

outcome_refused : (p i : ℕ) (s t : State) (ws : List (List ℕ)) (o : Outcome) → LineComes p i s ws o t → OnErr (line_answer o) (t ≡ s)
outcome_refused p i s t ws (unread e) h = h.1
outcome_refused p i s t ws (turn k (Err f) xs r) h = turn_refused s t p k f xs h.1
outcome_refused p i s t ws (turn k (Ok n) xs r) h = tt

pub line_refused : (p i : ℕ) (s t : State) (ws : List (List ℕ)) (o : Outcome) (answer : Result (Unit {0}) LineFault) → answer ≡ line_answer o → LineComes p i s ws o t → OnErr answer (t ≡ s)
line_refused p i s t ws o answer e h = subst (λ (a : Result (Unit {0}) LineFault). OnErr a (t ≡ s)) (sym e) (outcome_refused p i s t ws o h)
