-- An entry and a change keep what holds: each begins a regular round.
use Rattle.std.proofs.Common.{◌≡◌, ℕ, ◌+◌, ◌≤◌, List, [], ◌∷◌, ◌++◌, map, ℤ, Some, None, Ok, sym, ap, ◌∙◌, subst, inl, inr}
use Rattle.book.proofs.Accepting.{accepted}
use Rattle.book.proofs.Numbers.{lacks}
use Rattle.book.proofs.Orderliness.{orderly_without}
use Rattle.book.specs.declared.rows.Order.{Order}
use Rattle.book.specs.Orderly.{Distinct, Orderly}
use Rattle.book.specs.Orders.{entered}
use Rattle.book.specs.Places.{place, without, numbered_of}
use Rattle.book.specs.Ranks.{order_at}
use Rattle.capacity.specs.Meaning.{Capacity}
use Rattle.session.specs.declared.entries.Change.{Change as AChange}
use Rattle.session.specs.declared.entries.Entry.{Entry}
use Rattle.session.specs.Calls.{terms_with}
use Rattle.session.specs.State.{State}
use Rattle.events.specs.declared.calls.Call.TheVariants.{Enter, Change}
use Rattle.events.specs.declared.events.Event.{Event}
use Rattle.events.specs.declared.events.Event.TheVariants.{Called}
use Rattle.history.specs.Standing.{◌∈◌, Standing, standing, smaller, contract_of, anew}
use Rattle.history.proofs.Accepted.{Enters, Changes}
use Rattle.history.proofs.Agreeing.{Agree, agree_enter, agree_change}
use Rattle.history.proofs.Bound.{contract_row}
use Rattle.history.proofs.Clear.{clear_push}
use Rattle.history.proofs.Invariant.{Inv, clear_quiet, none_ioc, orderly_push, same_few}
use Rattle.history.proofs.Members.{in_push, push_in, in_kept}
use Rattle.history.proofs.Moves.{none_granted}
use Rattle.history.proofs.Numbered.{found, in_all, other, other_not, without_is}

-- what is left without the order n has other numbers
pub others_left : (n i : ℕ) (os : List Order) (k : ℕ) → Distinct os → place (numbered_of n i) os ≡ Some k → (y : Order) → y ∈ without os k → (y ∈ os) × (y.number ≡ n → ⊥)
others_left n i os k d e y g =
    let h = in_kept (other n) y os (subst (λ (xs : List Order). y ∈ xs) (without_is n i os k d e) g) in
    (h.0, other_not n y h.1)

module _ (m : Capacity) (h : List Event) (s : State) (inv : Inv m h s) where
  pub after_entry : (p : ℕ) (e : Entry) (t : State) → Enters s e t → Inv m (Called p (Enter e) (Ok None) ∷ h) t
  after_entry p e t x =
      let o = entered e.number e.member e.contract e.area e.terms in
      subst (Inv m (Called p (Enter e) (Ok None) ∷ h)) (sym x.after) (record {
        net = inv.net;
        orderly = orderly_push s.book o inv.orderly (accepted e.number e.member e.contract e.area e.terms x.terms) (lacks e.number s.book x.new);
        clear = clear_push s.capacity s.book s.book o (clear_quiet m h s inv x.quiet) (λ y i. i);
        agree = agree_enter s.book (standing h) e inv.agree x.terms;
        lone = λ y i k. elim (in_push y o s.book i) [ inl j ↦ absurd (none_ioc m h s inv x.quiet y j k) | inr j ↦ ap (λ (z : Order). z.number) (sym j) ];
        balanced = none_granted m h s inv.balanced;
        covered = tt;
        within = same_few (smaller e.contract (standing (Called p (Enter e) (Ok None) ∷ h)));
      })

  module _ (p : ℕ) (c : AChange) (t : State) (x : Changes s c t) where
    abbrev n : ℕ
    n = c.number

    abbrev l : ℤ
    l = c.limit

    abbrev q : ℕ
    q = c.quantity

    abbrev o : Order
    o = order_at s.book x.k

    abbrev o₂ : Order
    o₂ = entered o.number o.member o.contract o.area (terms_with o l q)

    abbrev left : List Order
    left = without s.book x.k

    abbrev l₂ : List Standing
    l₂ = map (anew n l q) (standing h)

    other_left : (y : Order) → y ∈ left → (y ∈ s.book) × (y.number ≡ n → ⊥)
    other_left = others_left n c.member s.book x.k inv.orderly.distinct x.there

    its : o.number ≡ n
    its = (found n c.member s.book x.k x.there).1

    orderly₂ : Orderly (left ++ o₂ ∷ [])
    orderly₂ = orderly_push left o₂ (orderly_without s.book x.k inv.orderly) (accepted o.number o.member o.contract o.area (terms_with o l q) x.terms)
        (in_all (λ (y : Order). y.number ≡ o.number → ⊥) left (λ y g e. (other_left y g).1 (e ∙ its)))

    agree₂ : Agree (left ++ o₂ ∷ []) l₂
    agree₂ = agree_change n c.member l q s.book x.k (standing h) inv.agree inv.orderly x.there x.terms

    begins : 0 + smaller o.contract l₂ ≤ smaller (contract_of n l₂) l₂
    begins =
        let e : contract_of n l₂ ≡ o.contract = ap (λ z. contract_of z l₂) (sym its) ∙ contract_row (left ++ o₂ ∷ []) l₂ agree₂ orderly₂ o₂ (push_in o₂ left) in
        subst (λ z. 0 + smaller o.contract l₂ ≤ smaller z l₂) (sym e) (same_few (smaller o.contract l₂))

    pub after_change : Inv m (Called p (Change c) (Ok None) ∷ h) t
    after_change = subst (Inv m (Called p (Change c) (Ok None) ∷ h)) (sym x.after) (record {
      net = inv.net;
      orderly = orderly₂;
      clear = clear_push s.capacity s.book left o₂ (clear_quiet m h s inv x.quiet) (λ y g. (other_left y g).0);
      agree = agree₂;
      lone = λ y j k. elim (in_push y o₂ left j) [ inl g ↦ absurd (none_ioc m h s inv x.quiet y (other_left y g).0 k) | inr g ↦ ap (λ (z : Order). z.number) (sym g) ];
      balanced = none_granted m h s inv.balanced;
      covered = tt;
      within = begins;
    })
