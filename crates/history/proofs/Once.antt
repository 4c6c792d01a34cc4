-- A call, and a step, has one answer and leaves one state.
use Rattle.std.proofs.Common.{◌≡◌, ℕ, Some, None, Ok, Err, Option, Result, sym, refl, ap, ◌∙◌, subst}
use Rattle.matching.specs.declared.round.Round.{Round}
use Rattle.trades.specs.Deals.{Deals}
use Rattle.trades.proofs.Once.{one_deal, deal_or_none}
use Rattle.session.specs.declared.faults.SessionFault.{SessionFault}
use Rattle.session.specs.Faults.{Refusal, told}
use Rattle.session.specs.Rounds.{Logged, Makes}
use Rattle.session.specs.State.{State}
use Rattle.session.specs.Steps.{after_trade, after_round, Ends}
use Rattle.events.specs.declared.calls.Call.TheVariants.{Enter, Change, Withdraw, Request, Notice, Close}
use Rattle.events.specs.declared.events.Traded.{Traded}
use Rattle.events.specs.Events.{Answer, Plainly, Counting, StepAnswered, logged}
use Rattle.history.specs.Laws.{OneForCall, OneForStep, OneAnswer}
use Rattle.history.proofs.Faults.{same_fault}

plainly_one : (r : Result (Unit {0}) Refusal) (a b : Answer) → Plainly r a → Plainly r b → a ≡ b
plainly_one r (Err f) (Err g) h k = ap Err (same_fault f g (cc))
plainly_one r (Err f) (Ok None) h k = cc
plainly_one r (Ok None) (Err g) h k = cc
plainly_one r (Ok None) (Ok None) h k = refl
plainly_one r (Err f) (Ok (Some n)) h k = absurd k
plainly_one r (Ok None) (Ok (Some n)) h k = absurd k
plainly_one r (Ok (Some n)) b h k = absurd h

counting_one : (r : Result ℕ Refusal) (a b : Answer) → Counting r a → Counting r b → a ≡ b
counting_one r (Err f) (Err g) h k = ap Err (same_fault f g (cc))
counting_one r (Err f) (Ok (Some n)) h k = cc
counting_one r (Ok (Some n)) (Err g) h k = cc
counting_one r (Ok (Some n)) (Ok (Some i)) h k = cc
counting_one r (Err f) (Ok None) h k = absurd k
counting_one r (Ok (Some n)) (Ok None) h k = absurd k
counting_one r (Ok None) b h k = absurd h

one_call : (s : State) (p : ℕ) → OneForCall s p
one_call s p (Enter e) a b t u h k = (plainly_one _ a b h.0 k.0, h.1 ∙ sym k.1)
one_call s p (Change c) a b t u h k = (plainly_one _ a b h.0 k.0, h.1 ∙ sym k.1)
one_call s p (Withdraw n i) a b t u h k = (plainly_one _ a b h.0 k.0, h.1 ∙ sym k.1)
one_call s p (Request d q) a b t u h k = (plainly_one _ a b h.0 k.0, h.1 ∙ sym k.1)
one_call s p (Notice d f) a b t u h k = (plainly_one _ a b h.0 k.0, h.1 ∙ sym k.1)
one_call s p (Close c) a b t u h k = (counting_one _ a b h.0 k.0, h.1 ∙ sym k.1)

-- ---- a step

one_round : (x : Option Round) (r q : Round) → x ≡ Some r → x ≡ Some q → r ≡ q
one_round x r q h k = cc

pub one_trade : (s : State) (x y : Logged) (t u : State) → Makes s x t → Makes s y u → (x ≡ y) × (t ≡ u)
one_trade s x y t u h k =
    let r = one_round s.round h.round k.round h.under_way k.under_way in
    let deal : Deals s.capacity s.book k.round x.trade x.route = subst (λ (q : Round). Deals s.capacity s.book q x.trade x.route) r h.deal in
    let same = one_deal s.capacity s.book k.round x.trade x.route y.trade y.route deal k.deal in
    let e : x ≡ y = λ i. record { trade = same.0 i; route = same.1 i } in
    (e, h.state ∙ ap (λ (z : Logged). after_trade s z.trade z.route) e ∙ sym k.state)

pub one_end : (s t u : State) → Ends s t → Ends s u → t ≡ u
one_end s t u h k = h.state ∙ ap (after_round s) (one_round s.round h.round k.round h.under_way k.under_way) ∙ sym k.state

-- a round that trades does not end
pub trade_or_end : (s : State) (x : Logged) (t u : State) → Makes s x t → Ends s u → ⊥
trade_or_end s x t u h k =
    let r = one_round s.round h.round k.round h.under_way k.under_way in
    deal_or_none s.capacity s.book k.round x.trade x.route (subst (λ (q : Round). Deals s.capacity s.book q x.trade x.route) r h.deal) k.none

refused_or_made : (s : State) (p z : ℕ) (f : SessionFault) (a : Option Traded) (t u : State) → StepAnswered s p z (Err f) t → StepAnswered s p z (Ok a) u → ⊥
refused_or_made s p z f (Some x) t u h k = cc
refused_or_made s p z f None t u h k = cc

one_step : (s : State) (p : ℕ) → OneForStep s p
one_step s p z (Err f) (Err g) t u h k = let e : told f ≡ told g = cc in (ap Err (same_fault f g e), h.1 ∙ sym k.1)
one_step s p z (Err f) (Ok b) t u h k = absurd (refused_or_made s p z f b t u h k)
one_step s p z (Ok a) (Err g) t u h k = absurd (refused_or_made s p z g a u t k h)
one_step s p z (Ok (Some x)) (Ok (Some y)) t u h k =
    let same = one_trade s (logged x.trade x.route) (logged y.trade y.route) t u h.1 k.1 in
    (ap (λ (l : Logged). Ok (Some l)) same.0, same.1)
one_step s p z (Ok (Some x)) (Ok None) t u h k = absurd (trade_or_end s (logged x.trade x.route) t u h.1 k.1)
one_step s p z (Ok None) (Ok (Some y)) t u h k = absurd (trade_or_end s (logged y.trade y.route) u t k.1 h.1)
one_step s p z (Ok None) (Ok None) t u h k = (refl, one_end s t u h.1 k.1)

pub one_answer : OneAnswer
one_answer s p = (one_call s p, one_step s p)
