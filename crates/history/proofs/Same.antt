-- A row of the book and a standing order that are one order, as it is entered, changed and traded.
use Rattle.std.proofs.Common.{◌≡◌, ℕ, ◌+◌, ◌-◌, ◌<◌, ◌≤◌, Bool, true, false, cond, not, ltb, ℤ, None, sym, refl, ap, ◌∙◌, subst, inl, inr, arith}
use Rattle.std.proofs.lemmas.Bool.{cond-true, ltb-true, lt-ltb, le-ltb, ltb-false, and_parts, and_from, cases_lt, not-true, not_from_false}
use Rattle.book.specs.declared.rows.Order.{Order}
use Rattle.book.specs.Orders.{first_slice, moved, entered, lessened, next_slice, shows}
use Rattle.book.specs.Terms.{refusal}
use Rattle.book.proofs.Accepting.{accepted}
use Rattle.session.specs.declared.entries.Entry.{Entry}
use Rattle.session.specs.Calls.{terms_with}
use Rattle.trades.specs.declared.trade.Trade.{Trade}
use Rattle.history.specs.Standing.{Standing, still_open, limit_now, newly, regiven, has_number, anew, with_trade}
use Rattle.history.proofs.Rows.{traded_in, Comes}
use Rattle.history.proofs.Slices.{Slice, slice_some, first_few, slice_first, limit_first, slice_kept, limit_kept, slice_next, limit_next}

pub record Same (x : Order) (w : Standing) : Type 0 where
  pub number : x.number ≡ w.given.number
  pub member : x.member ≡ w.given.member
  pub contract : x.contract ≡ w.given.contract
  pub side : x.side ≡ w.given.terms.side
  pub area : x.area ≡ w.given.area
  pub kind : x.kind ≡ w.given.terms.kind
  pub peak : x.peak ≡ w.given.terms.peak
  pub delta : x.delta ≡ w.given.terms.delta
  pub amount : x.«open» + w.traded ≡ w.given.terms.quantity
  pub alive : 1 ≤ x.«open»
  pub slice : Slice w.given.terms.kind w.given.terms.peak x.shown x.«open» w.traded
  pub limit : x.limit ≡ limit_now w

pub same_open : (x : Order) (w : Standing) → Same x w → still_open w ≡ x.«open»
same_open x w h = omega (arith, h.amount)

pub same_shown : (x : Order) (w : Standing) → Same x w → (1 ≤ x.shown) × (x.shown ≤ x.«open»)
same_shown x w h = slice_some w.given.terms.kind w.given.terms.peak x.shown x.«open» w.traded h.slice h.alive

-- as its entry makes it
abbrev pub order_of : Entry → Order
order_of e = entered e.number e.member e.contract e.area e.terms

pub same_entered : (e : Entry) → refusal e.terms ≡ None → Same (order_of e) (newly e)
same_entered e h =
    let t = e.terms in
    let v = first_slice t.kind t.peak t.quantity in
    let some : 0 < v = ltb-true 0 v (accepted e.number e.member e.contract e.area t h).0 in
    record {
      number = refl;
      member = refl;
      contract = refl;
      side = refl;
      area = refl;
      kind = refl;
      peak = refl;
      delta = refl;
      amount = omega arith;
      alive = omega (arith, first_few t.kind t.peak t.quantity);
      slice = slice_first t.kind t.peak t.quantity (omega arith);
      limit = limit_first t.kind t;
    }

-- given anew, it is the order of the entry with the new limit and quantity
module _ (x : Order) (w : Standing) (h : Same x w) (l : ℤ) (q : ℕ) where
  terms_same : terms_with x l q ≡ (regiven w.given l q).terms
  terms_same = λ i. record { kind = h.kind i; side = h.side i; limit = l; quantity = q; peak = h.peak i; delta = h.delta i }

  order_same : entered x.number x.member x.contract x.area (terms_with x l q) ≡ order_of (regiven w.given l q)
  order_same = λ i. entered (h.number i) (h.member i) (h.contract i) (h.area i) (terms_same i)

  pub same_changed : (n : ℕ) → has_number n w ≡ true → refusal (terms_with x l q) ≡ None → Same (entered x.number x.member x.contract x.area (terms_with x l q)) (anew n l q w)
  same_changed n e f =
      let given = regiven w.given l q in
      subst (λ (v : Standing). Same (entered x.number x.member x.contract x.area (terms_with x l q)) v) (sym (cond-true (has_number n w) (newly given) w e))
      (subst (λ (o : Order). Same o (newly given)) (sym order_same) (same_entered given (ap refusal (sym terms_same) ∙ f)))

-- q more traded
abbrev pub more : ℕ → Standing → Standing
more q w = record { given = w.given; traded = w.traded + q }

keeps : (y : Order) (w : Standing) (q : ℕ) → Same y w → q < y.shown → Same (lessened q y) (more q w)
keeps y w q h l =
    let t = w.given.terms in
    let a = (same_shown y w h).1 in
    record {
      number = h.number;
      member = h.member;
      contract = h.contract;
      side = h.side;
      area = h.area;
      kind = h.kind;
      peak = h.peak;
      delta = h.delta;
      amount = omega (arith, h.amount);
      alive = omega arith;
      slice = slice_kept t.kind t.peak y.shown y.«open» w.traded q h.slice l;
      limit = h.limit ∙ limit_kept t.kind t y.shown y.«open» w.traded q h.slice l;
    }

renews : (y : Order) (w : Standing) (q : ℕ) → Same y w → y.shown ≡ q → q < y.«open» → Same (next_slice (lessened q y)) (more q w)
renews y w q h e l =
    let t = w.given.terms in
    record {
      number = h.number;
      member = h.member;
      contract = h.contract;
      side = h.side;
      area = h.area;
      kind = h.kind;
      peak = h.peak;
      delta = h.delta;
      amount = omega (arith, h.amount);
      alive = omega arith;
      slice = rw h.peak (slice_next t.kind t.peak y.shown y.«open» w.traded q h.slice e l);
      limit = (λ i. moved (h.side i) (h.limit i) (h.delta i)) ∙ limit_next t.kind t y.shown y.«open» w.traded q h.slice e l;
    }

come_same : (t : Bool) (q : ℕ) (x y : Order) (w : Standing) → Same y w → (t ≡ true → q ≤ y.shown) → Comes t q x y → Same x (cond t (more q w) w)
come_same true q x y w h l c =
    elim c [
      | inl e ↦ subst (λ (z : Order). Same z (more q w)) e.0 (keeps y w q h (omega (arith, ltb-true 0 (y.shown - q) e.1)))
      | inr e ↦
          let p = and_parts (not (ltb 0 (y.shown - q))) (ltb 0 (y.«open» - q)) e.1 in
          let a = ltb-false 0 (y.shown - q) (not-true (ltb 0 (y.shown - q)) p.0) in
          let b = ltb-true 0 (y.«open» - q) p.1 in
          subst (λ (z : Order). Same z (more q w)) e.0 (renews y w q h (omega (arith, l refl, a)) (omega (arith, b)))
    ]
come_same false q x y w h l c =
    elim c [
      | inl e ↦ subst (λ (z : Order). Same z w) e.0 h
      | inr e ↦
          let p = and_parts (not (shows y)) (ltb 0 y.«open») e.1 in
          absurd (omega (arith, (same_shown y w h).0, ltb-false 0 y.shown (not-true (shows y) p.0)))
    ]

-- a row after a trade and its standing order after it are the same
pub same_traded : (t : Trade) (x y : Order) (w : Standing) → Same y w → (traded_in t.buy t.sell y.number ≡ true → t.quantity ≤ y.shown) → Comes (traded_in t.buy t.sell y.number) t.quantity x y → Same x (with_trade t w)
same_traded t x y w h l c =
    subst (λ (n : ℕ). Same x (cond (traded_in t.buy t.sell n) (more t.quantity w) w)) h.number (come_same (traded_in t.buy t.sell y.number) t.quantity x y w h l c)

come_some : (t : Bool) (q : ℕ) (y : Order) (w : Standing) → Same y w → (t ≡ true → q ≤ y.shown) → 0 < still_open (cond t (more q w) w) → (x : Order) × Comes t q x y
come_some true q y w h l o =
    elim (cases_lt 0 (y.shown - q)) [
      | inl g ↦ (lessened q y, inl (refl, lt-ltb 0 (y.shown - q) g))
      | inr g ↦ (
        next_slice (lessened q y),
        inr (refl, and_from _ _ (not_from_false _ (le-ltb 0 (y.shown - q) g)) (lt-ltb 0 (y.«open» - q) (omega (arith, h.amount)))),
      )
    ]
come_some false q y w h l o = (y, inl (refl, lt-ltb 0 y.shown (same_shown y w h).0))

-- an order still open after a trade has a row after it
pub traded_row : (t : Trade) (y : Order) (w : Standing) → Same y w → (traded_in t.buy t.sell y.number ≡ true → t.quantity ≤ y.shown) → 0 < still_open (with_trade t w) → (x : Order) × Comes (traded_in t.buy t.sell y.number) t.quantity x y
traded_row t y w h l o =
    come_some (traded_in t.buy t.sell y.number) t.quantity y w h l
    (subst (λ (n : ℕ). 0 < still_open (cond (traded_in t.buy t.sell n) (more t.quantity w) w)) (sym h.number) o)
