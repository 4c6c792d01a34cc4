-- The book and what stands by the events agree: each row is a standing order and each standing order a row, and every call and step keeps it so.
use Rattle.std.proofs.Common.{◌≡◌, ℕ, ◌<◌, ◌≤◌, Bool, true, false, not, ◌&&◌, eqb, ltb, List, [], ◌∷◌, ◌++◌, map, ℤ, Some, None, filter, sym, refl, ap, ◌∙◌, subst, inl, inr}
use Rattle.std.proofs.lemmas.Bool.{cases_eq, cases_Bool, cond-false, ltb-true, lt-ltb, eq-eqb, ne_eqb, not_from_false}
use Rattle.book.specs.declared.rows.Order.{Order}
use Rattle.book.specs.Orders.{entered, is_ioc, rests}
use Rattle.book.specs.Orderly.{Orderly}
use Rattle.book.specs.Places.{place, without, numbered_of, not_of_contract}
use Rattle.book.specs.Ranks.{order_at}
use Rattle.book.specs.Terms.{refusal}
use Rattle.book.specs.Trades.{settled}
use Rattle.matching.specs.declared.round.Round.{Round}
use Rattle.matching.specs.declared.round.Round.TheVariants.{Regular, Batch}
use Rattle.session.specs.declared.entries.Entry.{Entry}
use Rattle.session.specs.Calls.{terms_with}
use Rattle.session.specs.Steps.{rested}
use Rattle.trades.specs.declared.trade.Trade.{Trade}
use Rattle.history.specs.Standing.{◌∈◌, Standing, still_open, newly, regiven, has_number, anew, with_trade}
use Rattle.history.proofs.Members.{in_left, in_push, push_in, in_kept, kept_in, in_map, map_in}
use Rattle.history.proofs.Numbered.{at_in, one_order, found, other, is_other, other_not, without_is}
use Rattle.history.proofs.Rows.{traded_in, settled_from, settled_to}
use Rattle.history.proofs.Same.{Same, same_open, order_of, same_entered, same_changed, same_traded, traded_row}

pub record Agree (book : List Order) (l : List Standing) : Type 0 where
  pub row : (x : Order) → x ∈ book → (w : Standing) × (w ∈ l) × Same x w
  pub stand : (w : Standing) → w ∈ l → (x : Order) × (x ∈ book) × Same x w

pub agree_none : Agree [] []
agree_none = record { row = λ x h. absurd h; stand = λ w h. absurd h }

-- filters that say the same of both
pub agree_kept : (book : List Order) (l : List Standing) (p : Order → Bool) (r : Standing → Bool) → Agree book l → ((x : Order) (w : Standing) → x ∈ book → Same x w → p x ≡ r w) → Agree (filter p book) (filter r l)
agree_kept book l p r a e = record {
  row = λ x h.
      let k = in_kept p x book h in
      let w = a.row x k.0 in
      (w.0, kept_in r w.0 l w.1 (sym (e x w.0 k.0 w.2) ∙ k.1), w.2);
  stand = λ w h.
      let k = in_kept r w l h in
      let x = a.stand w k.0 in
      (x.0, kept_in p x.0 book x.1 (e x.0 w x.1 x.2 ∙ k.1), x.2);
}

-- a filter that keeps all that stands
pub agree_all : (book : List Order) (l : List Standing) (r : Standing → Bool) → Agree book l → ((x : Order) (w : Standing) → x ∈ book → Same x w → r w ≡ true) → Agree book (filter r l)
agree_all book l r a e = record {
  row = λ x h. let w = a.row x h in (w.0, kept_in r w.0 l w.1 (e x w.0 h w.2), w.2);
  stand = λ w h. a.stand w (in_kept r w l h).0;
}

pub agree_enter : (book : List Order) (l : List Standing) (e : Entry) → Agree book l → refusal e.terms ≡ None
    → Agree (book ++ entered e.number e.member e.contract e.area e.terms ∷ []) (l ++ newly e ∷ [])
agree_enter book l e a f = record {
  row = λ x h. elim (in_push x (order_of e) book h) [
    | inl i ↦ let w = a.row x i in (w.0, in_left w.0 l (newly e ∷ []) w.1, w.2)
    | inr i ↦ (newly e, push_in (newly e) l, subst (λ (z : Order). Same z (newly e)) i (same_entered e f))
  ];
  stand = λ w h. elim (in_push w (newly e) l h) [
    | inl i ↦ let x = a.stand w i in (x.0, in_left x.0 book (order_of e ∷ []) x.1, x.2)
    | inr i ↦ (order_of e, push_in (order_of e) book, subst (λ (z : Standing). Same (order_of e) z) i (same_entered e f))
  ];
}

pub anew_other : (n : ℕ) (l : ℤ) (q : ℕ) (w : Standing) → (w.given.number ≡ n → ⊥) → anew n l q w ≡ w
anew_other n l q w h = cond-false (has_number n w) (newly (regiven w.given l q)) w (ne_eqb w.given.number n h)

module _ (n m : ℕ) (lim : ℤ) (q : ℕ) (book : List Order) (k : ℕ) (l : List Standing) where
  -- the order that is changed, before and after
  abbrev o : Order
  o = order_at book k

  abbrev o₂ : Order
  o₂ = entered o.number o.member o.contract o.area (terms_with o lim q)

  module _ (a : Agree book l) (orderly : Orderly book) (at : place (numbered_of n m) book ≡ Some k) (f : refusal (terms_with (order_at book k) lim q) ≡ None) where
    there : o ∈ book
    there = at_in book k (found n m book k at).0

    its : o.number ≡ n
    its = (found n m book k at).1

    becomes : (w : Standing) → Same o w → Same o₂ (anew n lim q w)
    becomes w s = same_changed o w s lim q n (eq-eqb w.given.number n (sym s.number ∙ its)) f

    others : Agree (filter (other n) book ++ o₂ ∷ []) (map (anew n lim q) l)
    others = record {
      row = λ x h. elim (in_push x o₂ (filter (other n) book) h) [
        | inl i ↦
            let j = in_kept (other n) x book i in
            let w = a.row x j.0 in
            let same = anew_other n lim q w.0 (λ z. other_not n x j.1 (w.2.number ∙ z)) in
            (w.0, subst (λ (z : Standing). z ∈ map (anew n lim q) l) same (map_in (anew n lim q) w.0 l w.1), w.2)
        | inr i ↦
            let w = a.row o there in
            (anew n lim q w.0, map_in (anew n lim q) w.0 l w.1, subst (λ (z : Order). Same z (anew n lim q w.0)) i (becomes w.0 w.2))
      ];
      stand = λ w h.
          let v = in_map (anew n lim q) w l h in
          let x = a.stand v.0 v.1 in
          elim (cases_eq x.0.number n) [
            | inl z ↦
                let one : x.0 ≡ o = one_order book orderly.distinct x.0 o x.1 there (z ∙ sym its) in
                (o₂, push_in o₂ (filter (other n) book), subst (λ (u : Standing). Same o₂ u) v.2 (becomes v.0 (subst (λ (u : Order). Same u v.0) one x.2)))
            | inr z ↦
                let same = anew_other n lim q v.0 (λ u. z (x.2.number ∙ u)) in (
                  x.0,
                  in_left x.0 (filter (other n) book) (o₂ ∷ []) (kept_in (other n) x.0 book x.1 (is_other n x.0 z)),
                  subst (λ (u : Standing). Same x.0 u) (sym same ∙ v.2) x.2,
                )
          ];
    }

    pub agree_change : Agree (without book k ++ entered (order_at book k).number (order_at book k).member (order_at book k).contract (order_at book k).area (terms_with (order_at book k) lim q) ∷ []) (map (anew n lim q) l)
    agree_change = subst (λ (os : List Order). Agree (os ++ o₂ ∷ []) (map (anew n lim q) l)) (sym (without_is n m book k orderly.distinct at)) others

pub agree_withdraw : (n m : ℕ) (book : List Order) (k : ℕ) (l : List Standing) → Agree book l → Orderly book → place (numbered_of n m) book ≡ Some k → Agree (without book k) (filter (λ x. not (has_number n x)) l)
agree_withdraw n m book k l a orderly at =
    subst (λ (os : List Order). Agree os (filter (λ x. not (has_number n x)) l)) (sym (without_is n m book k orderly.distinct at))
    (agree_kept book l (other n) (λ x. not (has_number n x)) a (λ x w h s. ap (λ z. not (eqb z n)) s.number))

pub agree_close : (c : ℕ) (book : List Order) (l : List Standing) → Agree book l → Agree (filter (not_of_contract c) book) (filter (λ x. not (eqb x.given.contract c)) l)
agree_close c book l a = agree_kept book l (not_of_contract c) (λ x. not (eqb x.given.contract c)) a (λ x w h s. ap (λ z. not (eqb z c)) s.contract)

-- a trade of no more than each of its orders shows
pub agree_trade : (x : Trade) (book : List Order) (l : List Standing) → Agree book l → ((y : Order) → y ∈ book → traded_in x.buy x.sell y.number ≡ true → x.quantity ≤ y.shown)
    → Agree (settled x.buy x.sell x.quantity book) (filter (λ x. ltb 0 (still_open x)) (map (with_trade x) l))
agree_trade t book l a f = record {
  row = λ x h.
      let y = settled_from t.buy t.sell t.quantity x book h in
      let w = a.row y.0 y.1 in
      let v = with_trade t w.0 in
      let s = same_traded t x y.0 w.0 w.2 (f y.0 y.1) y.2 in
      let some : 0 < still_open v = subst (λ z. 0 < z) (sym (same_open x v s)) s.alive in
      (v, kept_in (λ x. ltb 0 (still_open x)) v (map (with_trade t) l) (map_in (with_trade t) w.0 l w.1) (lt-ltb 0 (still_open v) some), s);
  stand = λ w h.
      let k = in_kept (λ x. ltb 0 (still_open x)) w (map (with_trade t) l) h in
      let v = in_map (with_trade t) w l k.0 in
      let y = a.stand v.0 v.1 in
      let some : 0 < still_open (with_trade t v.0) = subst (λ (z : Standing). 0 < still_open z) (sym v.2) (ltb-true 0 (still_open w) k.1) in
      let x = traded_row t y.0 v.0 y.2 (f y.0 y.1) some in (
        x.0,
        settled_to t.buy t.sell t.quantity x.0 y.0 book y.1 x.1,
        subst (λ (z : Standing). Same x.0 z) v.2 (same_traded t x.0 y.0 v.0 y.2 (f y.0 y.1) x.1),
      );
}

-- the order that may be IOC in a round: its incoming one
abbrev pub Lone : Round → Order → Type 0
Lone (Regular c n) x = x.number ≡ n
Lone (Batch c) x = ⊥

-- of u, whether it is the incoming order, and t, whether it is IOC
ioc_rests : (t u : Bool) → (t ≡ true → u ≡ true) → not (u && t) ≡ not t
ioc_rests true u f = ap (λ z. not (z && true)) (f refl)
ioc_rests false true f = refl
ioc_rests false false f = refl

pub agree_done : (r : Round) (book : List Order) (l : List Standing) → Agree book l → ((x : Order) → x ∈ book → is_ioc x.kind ≡ true → Lone r x) → Agree (rested r book) (filter (λ x. not (is_ioc x.given.terms.kind)) l)
agree_done (Regular c n) book l a f =
    agree_kept book l (rests n) (λ x. not (is_ioc x.given.terms.kind)) a
    (λ x w h s. ioc_rests (is_ioc x.kind) (eqb x.number n) (λ e. eq-eqb x.number n (f x h e)) ∙ ap (λ z. not (is_ioc z)) s.kind)
agree_done (Batch c) book l a f =
    agree_all book l (λ x. not (is_ioc x.given.terms.kind)) a
    (λ x w h s. ap (λ z. not (is_ioc z)) (sym s.kind) ∙ not_from_false (is_ioc x.kind) (elim (cases_Bool (is_ioc x.kind)) [ inl e ↦ absurd (f x h e) | inr e ↦ e ]))
