-- The laws, from what holds after every list of events.
use Rattle.std.proofs.Common.{◌≡◌, ℕ, ◌+◌, ◌≤◌, List, [], ◌∷◌, ◌≤ℤ◌, sym, refl, ◌∙◌, subst, arith, Some, None, Option}
use Rattle.matching.specs.declared.round.Round.{Round}
use Rattle.capacity.specs.Meaning.{Capacity, Sound}
use Rattle.flows.specs.Flows.{OpenIn}
use Rattle.routes.specs.Laws.{Reach}
use Rattle.trades.specs.Deals.{traded_contract}
use Rattle.session.specs.State.{State}
use Rattle.events.specs.declared.events.Event.{Event}
use Rattle.events.specs.declared.events.Event.TheVariants.{Called, Stepped}
use Rattle.events.specs.Events.{Happens}
use Rattle.history.specs.History.{Reached}
use Rattle.history.specs.Laws.{NoneLeft, Bounded, LawsHold, Lawfully}
use Rattle.history.specs.Standing.{limit_now, standing, steps, bound, smaller}
use Rattle.history.proofs.AfterCalls.{after_call}
use Rattle.history.proofs.AfterSteps.{after_step}
use Rattle.history.proofs.Invariant.{Inv, Within, at_first, clear_quiet}
use Rattle.history.proofs.Listing.{stands_in}

after_event : (m : Capacity) (h : List Event) (s : State) → Inv m h s → (e : Event) (t : State) → Happens s e t → Inv m (e ∷ h) t
after_event m h s inv (Called p k a) t x = after_call m h s inv p k a t x
after_event m h s inv (Stepped p z a) t x = after_step m h s inv p z a t x

pub holds : (m : Capacity) (n : ℕ) → Sound m → (h : List Event) (s : State) → Reached m n h s → Inv m h s
holds m n sound [] s r = subst (Inv m []) (sym r) (at_first m n sound)
holds m n sound (e ∷ h) t r = after_event m h r.0 (holds m n sound h r.0 r.1) e t r.2

-- a pair of standing orders that meets is one of the book
none_left : (m : Capacity) (h : List Event) (s : State) → Inv m h s → NoneLeft h s
none_left m h s inv quiet b o x =
    let p = inv.agree.stand b (stands_in h b x.buy_stands) in
    let q = inv.agree.stand o (stands_in h o x.sell_stands) in
    let c = s.capacity in
    let to : Reach (OpenIn c b.given.contract) o.given.area p.0.area = subst (λ a. Reach (OpenIn c b.given.contract) o.given.area a) (sym p.2.area) (x.leads.0, x.leads.1.0) in
    let from : Reach (OpenIn c b.given.contract) q.0.area p.0.area = subst (λ a. Reach (OpenIn c b.given.contract) a p.0.area) (sym q.2.area) to in
    clear_quiet m h s inv quiet p.0 q.0 (record {
      buy_in = p.1;
      sell_in = q.1;
      meets = record {
        buys = p.2.side ∙ x.buys;
        sells = q.2.side ∙ x.sells;
        one_contract = p.2.contract ∙ x.one_contract ∙ sym q.2.contract;
        meet = subst (λ z. q.0.limit ≤ℤ z) (sym p.2.limit) (subst (λ z. z ≤ℤ limit_now b) (sym q.2.limit) x.meet);
      };
      leads = subst (λ k. Reach (OpenIn c k) q.0.area p.0.area) (sym p.2.contract) from;
    })

bounded : (h : List Event) (s : State) (ph : Option Round) → s.round ≡ ph → Within h ph → Bounded h s
bounded h s None e w = (w, λ k. e)
bounded h s (Some r) e w = few (smaller (traded_contract r) (standing h)) w
  where
    few : (z : ℕ) → steps h + z ≤ bound h → Bounded h s
    few z g = (omega arith, λ k. absurd (omega arith))

pub laws_hold : LawsHold
laws_hold m n h s sound r =
    let inv = holds m n sound h s r in
    record { none_left = none_left m h s inv; balanced = inv.balanced; covered = inv.covered; bounded = bounded h s s.round refl inv.within }

pub lawfully : (m : Capacity) (n : ℕ) (h : List Event) (s : State) → Sound m → Reached m n h s → Lawfully m n h s
lawfully m n [] s sound r = (r, laws_hold m n [] s sound r)
lawfully m n (e ∷ h) t sound r = ((r.0, lawfully m n h r.0 sound r.1, r.2), laws_hold m n (e ∷ h) t sound r)
