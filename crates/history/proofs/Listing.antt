-- What stands by the relation is in the list, and one event more leaves it standing.
use Rattle.std.proofs.Common.{◌≡◌, ℕ, ◌+◌, ◌≤◌, Bool, true, false, cond, not, eqb, ltb, List, [], ◌∷◌, ◌++◌, map, Some, None, Ok, Err, sym, refl, ap, ◌∙◌, subst, inl, inr, arith}
use Rattle.std.proofs.lemmas.Bool.{cond-true, lt-ltb, ne_eqb, eq-eqb, not_from_false}
use Rattle.book.specs.declared.rows.Kind.{Kind}
use Rattle.book.specs.declared.rows.Kind.TheVariants.{Non, Ioc, Ice}
use Rattle.book.specs.Orders.{is_ioc}
use Rattle.events.specs.declared.calls.Call.TheVariants.{Enter, Change, Withdraw, Request, Notice, Close}
use Rattle.events.specs.declared.events.Event.{Event}
use Rattle.events.specs.declared.events.Event.TheVariants.{Called, Stepped}
use Rattle.history.specs.Standing.{◌∈◌, Standing, still_open, newly, regiven, has_number, anew, with_trade, standing}
use Rattle.history.specs.Stands.{traded_of, Remains, as_given, Gives, Stands, by_entry, by_change, stands}
use Rattle.history.proofs.Agreeing.{anew_other}
use Rattle.history.proofs.Members.{in_left, push_in, kept_in, map_in}
use Rattle.history.proofs.Rows.{traded_in}
use Rattle.history.proofs.Same.{more}

-- an order given as x was, with n traded since
abbrev pub with_traded : Standing → ℕ → Standing
with_traded x n = record { given = x.given; traded = n }

pub not_ioc : (k : Kind) → (k ≡ Ioc → ⊥) → is_ioc k ≡ false
not_ioc Non h = refl
not_ioc Ioc h = absurd (h refl)
not_ioc Ice h = refl

-- what one trade adds to an order
pub traded_more : (t : Bool) (q n : ℕ) (x : Standing) → x.traded ≡ cond t q 0 + n → cond t (more q (with_traded x n)) (with_traded x n) ≡ x
traded_more true q n x e = let f : n + q ≡ x.traded = omega (arith, e) in ap (with_traded x) f
traded_more false q n x e = let f : n ≡ x.traded = omega (arith, e) in ap (with_traded x) f

-- the list keeps an order that nothing takes out
module _ (h since : List Event) (x : Standing) where
  abbrev before : Standing
  before = with_traded x (traded_of x.given.number since)

  same_before : x.traded ≡ traded_of x.given.number since → before ∈ standing h → x ∈ standing h
  same_before e i = subst (λ n. with_traded x n ∈ standing h) (sym e) i

  list_keeps : (e : Event) → Remains x (e ∷ since) → before ∈ standing h → x ∈ standing (e ∷ h)
  list_keeps (Called p k (Err f)) s i = same_before s.traded i
  list_keeps (Called p (Enter e) (Ok a)) s i = in_left x (standing h) (newly e ∷ []) (same_before s.traded i)
  list_keeps (Called p (Change c) (Ok a)) s i =
      subst (λ (w : Standing). w ∈ map (anew c.number c.limit c.quantity) (standing h)) (anew_other c.number c.limit c.quantity x (s.stays _ (inl refl)))
      (map_in (anew c.number c.limit c.quantity) x (standing h) (same_before s.traded i))
  list_keeps (Called p (Withdraw n m) (Ok a)) s i =
      kept_in (λ w. not (has_number n w)) x (standing h) (same_before s.traded i) (not_from_false _ (ne_eqb x.given.number n (s.stays _ (inl refl))))
  list_keeps (Called p (Request d q) (Ok a)) s i = same_before s.traded i
  list_keeps (Called p (Notice d f) (Ok a)) s i = same_before s.traded i
  list_keeps (Called p (Close c) (Ok a)) s i =
      kept_in (λ w. not (eqb w.given.contract c)) x (standing h) (same_before s.traded i) (not_from_false _ (ne_eqb x.given.contract c (s.stays _ (inl refl))))
  list_keeps (Stepped p z (Err f)) s i = same_before (s.traded ∙ (omega arith)) i
  list_keeps (Stepped p z (Ok (Some t))) s i =
      let y = t.trade in
      let moved : with_trade y before ≡ x = traded_more (traded_in y.buy y.sell x.given.number) y.quantity (traded_of x.given.number since) x s.traded in
      kept_in (λ w. ltb 0 (still_open w)) x (map (with_trade y) (standing h))
      (subst (λ (w : Standing). w ∈ map (with_trade y) (standing h)) moved (map_in (with_trade y) before (standing h) i))
      (lt-ltb 0 (still_open x) s.some_open)
  list_keeps (Stepped p z (Ok None)) s i =
      kept_in (λ w. not (is_ioc w.given.terms.kind)) x (standing h) (same_before (s.traded ∙ (omega arith)) i)
      (not_from_false _ (not_ioc x.given.terms.kind (s.stays _ (inl refl))))

-- what was traded before the newest event
traded_less : (n : ℕ) (e : Event) (since : List Event) → traded_of n since ≤ traded_of n (e ∷ since)
traded_less n (Called p k a) since = omega arith
traded_less n (Stepped p z (Err f)) since = omega arith
traded_less n (Stepped p z (Ok (Some t))) since = omega arith
traded_less n (Stepped p z (Ok None)) since = omega arith

remained : (e : Event) (since : List Event) (x : Standing) → Remains x (e ∷ since) → Remains (with_traded x (traded_of x.given.number since)) since
remained e since x s = record {
  stays = λ f i. s.stays f (inr i);
  traded = refl;
  some_open = omega (arith, s.some_open, s.traded, traded_less x.given.number e since);
}

-- what was given is in the list as long as it stands
list_holds : (g : List Event) (since : List Event) (x : Standing) → as_given x ∈ standing g → Remains x since → x ∈ standing (since ++ g)
list_holds g [] x i s = subst (λ n. with_traded x n ∈ standing g) (sym s.traded) i
list_holds g (e ∷ since) x i s = list_keeps (since ++ g) since x e s (list_holds g since (with_traded x (traded_of x.given.number since)) i (remained e since x s))

mutual
  gives_in : (g : List Event) (w : Standing) → Gives g w → w ∈ standing g
  gives_in _ _ (by_entry p e a before) = push_in (newly e) (standing before)
  gives_in _ _ (by_change p c a before y d n) =
      let given = newly (regiven y.given c.limit c.quantity) in
      let again = anew c.number c.limit c.quantity in
      subst (λ (w : Standing). w ∈ map again (standing before)) (cond-true (has_number c.number y) given y (eq-eqb y.given.number c.number n))
      (map_in again y (standing before) (stands_in before y d))

  pub stands_in : (h : List Event) (x : Standing) → Stands h x → x ∈ standing h
  stands_in _ _ (stands since g x d r) = list_holds g since x (gives_in g (as_given x) d) r
