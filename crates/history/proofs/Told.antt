-- The list has nothing but what stands by the relation, and no number twice.
use Rattle.std.proofs.Common.{◌≡◌, ℕ, ◌+◌, ◌<◌, Bool, true, false, cond, not, eqb, ltb, List, [], ◌∷◌, map, Some, None, Ok, Err, sym, refl, ap, ◌∙◌, subst, inl, inr, arith}
use Rattle.std.proofs.lemmas.Bool.{cases_eq, cond-true, eq-eqb, eqb-false, not-true, both_ways}
use Rattle.book.proofs.Numbers.{lacks}
use Rattle.book.specs.declared.rows.Kind.{Kind}
use Rattle.book.specs.declared.rows.Kind.TheVariants.{Ioc}
use Rattle.book.specs.declared.rows.Order.{Order}
use Rattle.book.specs.Orders.{is_ioc}
use Rattle.capacity.specs.Meaning.{Capacity, Sound}
use Rattle.routes.specs.Paths.{NoRepeat}
use Rattle.session.specs.declared.entries.Entry.{Entry}
use Rattle.session.specs.State.{State}
use Rattle.events.specs.declared.calls.Call.TheVariants.{Enter, Change, Withdraw, Request, Notice, Close}
use Rattle.events.specs.declared.events.Event.{Event}
use Rattle.events.specs.declared.events.Event.TheVariants.{Called, Stepped}
use Rattle.events.specs.Events.{Happens}
use Rattle.history.specs.History.{Reached}
use Rattle.history.specs.Standing.{◌∈◌, Standing, still_open, newly, regiven, has_number, anew, with_trade, standing}
use Rattle.history.specs.Stands.{traded_of, TakesOut, Remains, Gives, Stands, by_entry, by_change, stands, Lists, StandingTold}
use Rattle.history.proofs.Agreeing.{Agree, anew_other}
use Rattle.history.proofs.Invariant.{Inv}
use Rattle.history.proofs.Listing.{with_traded, traded_more, stands_in}
use Rattle.history.proofs.Means.{enters}
use Rattle.history.proofs.Members.{in_push, in_kept, in_map}
use Rattle.history.proofs.Numbered.{all_in}
use Rattle.history.proofs.Rows.{traded_in}
use Rattle.history.proofs.Same.{same_open, more}
use Rattle.history.proofs.OnceEach.{numbers, once_kept, once_same, once_push, one_sum}
use Rattle.history.proofs.Together.{holds}

-- ---- one event more

traded_cons : (n : ℕ) (e : Event) (since : List Event) → traded_of n (e ∷ since) ≡ traded_of n (e ∷ []) + traded_of n since
traded_cons n (Called p k a) since = omega arith
traded_cons n (Stepped p z a) since = omega arith

module _ (e : Event) (n : ℕ) where
  remains_on : (x : Standing) (since : List Event) → Remains x since → (TakesOut e x.given → ⊥) → n ≡ traded_of x.given.number (e ∷ []) + x.traded → 0 < still_open (with_traded x n)
      → Remains (with_traded x n) (e ∷ since)
  remains_on x since s none more some = record {
    stays = λ f i. elim i [ inl g ↦ subst (λ (z : Event). TakesOut z x.given → ⊥) g none | inr j ↦ s.stays f j ];
    traded = omega (arith, more, s.traded, traded_cons x.given.number e since);
    some_open = some;
  }

  -- what is not taken out stands on
  stands_on : (h : List Event) (x : Standing) → Stands h x → (TakesOut e x.given → ⊥) → n ≡ traded_of x.given.number (e ∷ []) + x.traded → 0 < still_open (with_traded x n) → Stands (e ∷ h) (with_traded x n)
  stands_on _ _ (stands since g x d r) none more some = stands (e ∷ since) g (with_traded x n) d (remains_on x since r none more some)

ioc_is : (k : Kind) → is_ioc k ≡ false → k ≡ Ioc → ⊥
ioc_is k h e = both_ways (is_ioc k) h (ap is_ioc e)

module _ (h : List Event) (all : (y : Standing) → y ∈ standing h → Stands h y) (x : Standing) (some : 0 < still_open x) where
  -- an event that trades nothing
  on : (e : Event) → x ∈ standing h → (TakesOut e x.given → ⊥) → x.traded ≡ traded_of x.given.number (e ∷ []) + x.traded → Stands (e ∷ h) x
  on e i none more = stands_on e x.traded h x (all x i) none more some

  -- the newest event gave it
  given_so : (g : List Event) (e : Entry) → newly e ≡ x → Gives g (newly e) → Stands g x
  given_so g e same d =
      let open_so : 0 < still_open (newly e) = subst (λ (w : Standing). 0 < still_open w) (sym same) some in
      subst (Stands g) same (stands [] g (newly e) d (record { stays = λ f z o. absurd z; traded = refl; some_open = open_so }))

  told_step : (e : Event) → x ∈ standing (e ∷ h) → Stands (e ∷ h) x
  told_step (Called p k (Err f)) i = on _ i (λ z. z) (omega arith)
  told_step (Called p (Enter e) (Ok a)) i =
      elim (in_push x (newly e) (standing h) i) [
        | inl j ↦ on _ j (λ z. z) (omega arith)
        | inr g ↦ given_so _ e g (by_entry p e a h)
      ]
  told_step (Called p (Change c) (Ok a)) i =
      let again = anew c.number c.limit c.quantity in
      let v = in_map again x (standing h) i in
      let y = v.0 in
      elim (cases_eq y.given.number c.number) [
        | inl g ↦
            let given : newly (regiven y.given c.limit c.quantity) ≡ x = sym (cond-true (has_number c.number y) (newly (regiven y.given c.limit c.quantity)) y (eq-eqb y.given.number c.number g)) ∙ v.2 in
            given_so _ _ given (by_change p c a h y (all y v.1) g)
        | inr g ↦
            let same : y ≡ x = sym (anew_other c.number c.limit c.quantity y g) ∙ v.2 in
            on _ (subst (λ (w : Standing). w ∈ standing h) same v.1) (subst (λ (w : Standing). w.given.number ≡ c.number → ⊥) same g) (omega arith)
      ]
  told_step (Called p (Withdraw n m) (Ok a)) i =
      let k = in_kept (λ w. not (has_number n w)) x (standing h) i in
      on _ k.0 (eqb-false x.given.number n (not-true (has_number n x) k.1)) (omega arith)
  told_step (Called p (Request d q) (Ok a)) i = on _ i (λ z. z) (omega arith)
  told_step (Called p (Notice d f) (Ok a)) i = on _ i (λ z. z) (omega arith)
  told_step (Called p (Close c) (Ok a)) i =
      let k = in_kept (λ w. not (eqb w.given.contract c)) x (standing h) i in
      on _ k.0 (eqb-false x.given.contract c (not-true (eqb x.given.contract c) k.1)) (omega arith)
  told_step (Stepped p z (Err f)) i = on _ i (λ z. z) (omega arith)
  told_step (Stepped p z (Ok (Some t))) i =
      let u = t.trade in
      let k = in_kept (λ w. ltb 0 (still_open w)) x (map (with_trade u) (standing h)) i in
      let v = in_map (with_trade u) x (standing h) k.0 in
      let y = v.0 in
      let b = traded_in u.buy u.sell y.given.number in
      let n = cond b u.quantity 0 + y.traded in
      let same : with_traded y n ≡ x = sym (traded_more b u.quantity y.traded (with_traded y n) refl) ∙ v.2 in
      subst (Stands (Stepped p z (Ok (Some t)) ∷ h)) same
      (stands_on _ n h y (all y v.1) (λ z. z) (omega arith) (subst (λ (w : Standing). 0 < still_open w) (sym same) some))
  told_step (Stepped p z (Ok None)) i =
      let k = in_kept (λ w. not (is_ioc w.given.terms.kind)) x (standing h) i in
      on _ k.0 (ioc_is x.given.terms.kind (not-true (is_ioc x.given.terms.kind) k.1)) (omega arith)

-- what is in the list has some open, as its row has
open_in : (book : List Order) (l : List Standing) → Agree book l → (w : Standing) → w ∈ l → 0 < still_open w
open_in book l a w i = let x = a.stand w i in omega (arith, same_open x.0 w x.2, x.2.alive)

-- ---- no number twice

anew_number : (b : Bool) (x y : Standing) → y.given.number ≡ x.given.number → (cond b y x).given.number ≡ x.given.number
anew_number true x y e = e
anew_number false x y e = refl

module _ (m : Capacity) (h : List Event) (s : State) (inv : Inv m h s) (d : NoRepeat (numbers (standing h))) where
  once_step : (e : Event) (t : State) → Happens s e t → NoRepeat (numbers (standing (e ∷ h)))
  once_step (Called p k (Err f)) t x = d
  once_step (Called p (Enter e) (Ok None)) t x =
      once_push (standing h) (newly e) d
      (λ w i same. let o = inv.agree.stand w i in all_in _ s.book (lacks e.number s.book (enters s p e t x).new) o.0 o.1 (o.2.number ∙ same))
  once_step (Called p (Enter e) (Ok (Some n))) t x = absurd x.0
  once_step (Called p (Change c) (Ok a)) t x = once_same (anew c.number c.limit c.quantity) (λ w. anew_number (has_number c.number w) w (newly (regiven w.given c.limit c.quantity)) refl) (standing h) d
  once_step (Called p (Withdraw n i) (Ok a)) t x = once_kept _ (standing h) d
  once_step (Called p (Request r q) (Ok a)) t x = d
  once_step (Called p (Notice r f) (Ok a)) t x = d
  once_step (Called p (Close c) (Ok a)) t x = once_kept _ (standing h) d
  once_step (Stepped p z (Err f)) t x = d
  once_step (Stepped p z (Ok (Some u))) t x =
      once_kept _ (map (with_trade u.trade) (standing h))
      (once_same (with_trade u.trade) (λ w. anew_number (traded_in u.trade.buy u.trade.sell w.given.number) w (more u.trade.quantity w) refl) (standing h) d)
  once_step (Stepped p z (Ok None)) t x = once_kept _ (standing h) d

-- ---- the list is what stands

module _ (m : Capacity) (n : ℕ) (sound : Sound m) where
  told_only : (h : List Event) (s : State) → Reached m n h s → (x : Standing) → x ∈ standing h → Stands h x
  told_only [] s r x i = absurd i
  told_only (e ∷ h) t r x i = told_step h (told_only h r.0 r.1) x (open_in t.book (standing (e ∷ h)) (holds m n sound (e ∷ h) t r).agree x i) e i

  told_once : (h : List Event) (s : State) → Reached m n h s → NoRepeat (numbers (standing h))
  told_once [] s r = tt
  told_once (e ∷ h) t r = once_step m h r.0 (holds m n sound h r.0 r.1) (told_once h r.0 r.1) e t r.2

pub standing_told : StandingTold
standing_told m n h s sound r =
    let told : Lists h (standing h) = record { each = stands_in h; only = told_only m n sound h s r; once = told_once m n sound h s r } in
    (told, λ k l c d. one_sum c d k (standing h) l.once told.once (λ x i. told.each x (l.only x i)) (λ x i. l.each x (told.only x i)))
