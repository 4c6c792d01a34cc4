-- Every call keeps what holds.
use Rattle.std.proofs.Common.{◌≡◌, ℕ, false, List, ◌∷◌, Some, None, Ok, Err, filter, sym, refl, subst, Option}
use Rattle.matching.specs.declared.round.Round.{Round}
use Rattle.std.proofs.lemmas.Bool.{and_right}
use Rattle.book.proofs.Orderliness.{orderly_without, orderly_kept}
use Rattle.book.specs.Places.{without, not_of_contract}
use Rattle.capacity.specs.declared.direction.Direction.{Direction}
use Rattle.capacity.specs.declared.figures.Figures.{Figures}
use Rattle.capacity.specs.Meaning.{Capacity, taken, noticed}
use Rattle.flows.proofs.Backward.{take_elsewhere}
use Rattle.flows.proofs.Balance.{take_moves}
use Rattle.flows.proofs.Taken.{take_covered}
use Rattle.flows.specs.Balance.{only_at}
use Rattle.session.specs.declared.faults.SessionFault.{SessionFault}
use Rattle.session.specs.State.{State}
use Rattle.events.specs.declared.calls.Call.{Call}
use Rattle.events.specs.declared.calls.Call.TheVariants.{Enter, Change, Withdraw, Request, Notice, Close}
use Rattle.events.specs.declared.events.Event.{Event}
use Rattle.events.specs.declared.events.Event.TheVariants.{Called}
use Rattle.events.specs.Events.{Answer, Answered, begins_round, round_follows}
use Rattle.events.proofs.Tests.{refused}
use Rattle.history.specs.Standing.{standing, smaller}
use Rattle.history.proofs.Accepted.{Withdraws, Requests, Notifies, Closes}
use Rattle.history.proofs.Means.{enters, changes, withdraws, requests, notifies, closes}
use Rattle.history.proofs.AfterEntry.{others_left, after_entry, after_change}
use Rattle.history.proofs.Agreeing.{agree_withdraw, agree_close}
use Rattle.history.proofs.Clear.{Clear, Part, clear_part, clear_batch, notice_elsewhere}
use Rattle.history.proofs.Invariant.{Inv, Within, clear_quiet, none_ioc, within_quiet, same_few}
use Rattle.history.proofs.Members.{in_kept}
use Rattle.history.proofs.Moves.{more_granted, none_granted}

module _ (m : Capacity) (h : List Event) (s : State) (inv : Inv m h s) where
  after_refusal : (p : ℕ) (k : Call) (f : SessionFault) → Inv m (Called p k (Err f) ∷ h) s
  after_refusal p k f = record {
    net = inv.net;
    orderly = inv.orderly;
    clear = inv.clear;
    agree = inv.agree;
    lone = inv.lone;
    balanced = none_granted m h s inv.balanced;
    covered = tt;
    within = still s.round inv.within;
  }
    where
      none : round_follows k (Err f) ≡ false
      none = and_right (begins_round k) false refl

      still : (ph : Option Round) → Within h ph → Within (Called p k (Err f) ∷ h) ph
      still None w = rw none w
      still (Some r) w = rw none w

  after_withdrawal : (p n i : ℕ) (t : State) → Withdraws s n i t → Inv m (Called p (Withdraw n i) (Ok None) ∷ h) t
  after_withdrawal p n i t x =
      let left = without s.book x.k in
      let part : Part left s.book = λ y g. (others_left n i s.book x.k inv.orderly.distinct x.there y g).0 in
      subst (Inv m (Called p (Withdraw n i) (Ok None) ∷ h)) (sym x.after) (record {
        net = inv.net;
        orderly = orderly_without s.book x.k inv.orderly;
        clear = subst (Clear s.capacity left) (sym x.quiet) (clear_part s.capacity s.book left (clear_quiet m h s inv x.quiet) part);
        agree = agree_withdraw n i s.book x.k (standing h) inv.agree inv.orderly x.there;
        lone = λ y j k. inv.lone y (part y j) k;
        balanced = none_granted m h s inv.balanced;
        covered = tt;
        within = subst (Within (Called p (Withdraw n i) (Ok None) ∷ h)) (sym x.quiet) (within_quiet m h s inv x.quiet);
      })

  after_closing : (p c g : ℕ) (t : State) → Closes s c t → Inv m (Called p (Close c) (Ok (Some g)) ∷ h) t
  after_closing p c g t x =
      let left = filter (not_of_contract c) s.book in
      let part : Part left s.book = λ y i. (in_kept (not_of_contract c) y s.book i).0 in
      subst (Inv m (Called p (Close c) (Ok (Some g)) ∷ h)) (sym x.after) (record {
        net = inv.net;
        orderly = orderly_kept (not_of_contract c) s.book inv.orderly;
        clear = subst (Clear s.capacity left) (sym x.quiet) (clear_part s.capacity s.book left (clear_quiet m h s inv x.quiet) part);
        agree = agree_close c s.book (standing h) inv.agree;
        lone = λ y j k. inv.lone y (part y j) k;
        balanced = none_granted m h s inv.balanced;
        covered = tt;
        within = subst (Within (Called p (Close c) (Ok (Some g)) ∷ h)) (sym x.quiet) (within_quiet m h s inv x.quiet);
      })

  after_request : (p : ℕ) (d : Direction) (q : ℕ) (t : State) → Requests s d q t → Inv m (Called p (Request d q) (Ok None) ∷ h) t
  after_request p d q t x =
      let c = d.contract in
      let a = d.from in
      let b = d.to in
      subst (Inv m (Called p (Request d q) (Ok None) ∷ h)) (sym x.after) (record {
        net = inv.net;
        orderly = inv.orderly;
        clear = clear_batch s.capacity (taken s.capacity c a b q) s.book c (clear_quiet m h s inv x.quiet) (take_elsewhere s.capacity c a b q);
        agree = inv.agree;
        lone = none_ioc m h s inv x.quiet;
        balanced = more_granted m h s inv.balanced (taken s.capacity c a b q) (only_at c a q) (only_at c b q) (take_moves s.capacity c a b q inv.net x.granted.joined);
        covered = take_covered s.capacity c a b q x.granted.flows;
        within = same_few (smaller c (standing h));
      })

  after_notice : (p : ℕ) (d : Direction) (f : Figures) (t : State) → Notifies s d f t → Inv m (Called p (Notice d f) (Ok None) ∷ h) t
  after_notice p d f t x =
      let c = d.contract in
      subst (Inv m (Called p (Notice d f) (Ok None) ∷ h)) (sym x.after) (record {
        net = inv.net;
        orderly = inv.orderly;
        clear = clear_batch s.capacity (noticed s.capacity c d.from d.to f) s.book c (clear_quiet m h s inv x.quiet) (notice_elsewhere s.capacity c d.from d.to f);
        agree = inv.agree;
        lone = none_ioc m h s inv x.quiet;
        balanced = none_granted m h s inv.balanced;
        covered = tt;
        within = same_few (smaller c (standing h));
      })

  pub after_call : (p : ℕ) (k : Call) (a : Answer) (t : State) → Answered s p k a t → Inv m (Called p k a ∷ h) t
  after_call p k (Err f) t x = subst (Inv m (Called p k (Err f) ∷ h)) (sym (refused s p k f t x)) (after_refusal p k f)
  after_call p (Enter e) (Ok None) t x = after_entry m h s inv p e t (enters s p e t x)
  after_call p (Change c) (Ok None) t x = after_change m h s inv p c t (changes s p c t x)
  after_call p (Withdraw n i) (Ok None) t x = after_withdrawal p n i t (withdraws s p n i t x)
  after_call p (Request d q) (Ok None) t x = after_request p d q t (requests s p d q t x)
  after_call p (Notice d f) (Ok None) t x = after_notice p d f t (notifies s p d f t x)
  after_call p (Close c) (Ok (Some g)) t x = after_closing p c g t (closes s p c g t x)
  after_call p (Enter e) (Ok (Some g)) t x = absurd x.0
  after_call p (Change c) (Ok (Some g)) t x = absurd x.0
  after_call p (Withdraw n i) (Ok (Some g)) t x = absurd x.0
  after_call p (Request d q) (Ok (Some g)) t x = absurd x.0
  after_call p (Notice d f) (Ok (Some g)) t x = absurd x.0
  after_call p (Close c) (Ok None) t x = absurd x.0
