-- What every call and every trade of a script keeps: the orders in the book have numbers that were read, contracts and areas.
use Rattle.std.proofs.Common.{◌≡◌, ℕ, ◌+◌, ◌-◌, ◌<◌, ◌≤◌, Bool, true, false, not, cond, ltb, List, [], ◌∷◌, map, length, take, drop, Some, None, Ok, Err, filter, ◌≢◌, sym, refl, ap, ◌∙◌, subst, arith, length-append, length-drop, length-take}
use Rattle.std.specs.List.{AllByRecursion}
use Rattle.std.proofs.lemmas.Bool.{true≢false, and_left, not_from_true, not-false, ltb-true, ltb-false}
use Rattle.std.proofs.lemmas.List.{length-map}
use Rattle.std.proofs.ByRecursion.{All-push}
use Rattle.book.proofs.Accepting.{accepted}
use Rattle.book.proofs.Lasting.{all_without}
use Rattle.book.proofs.Numbers.{lacks}
use Rattle.book.proofs.Orderliness.{orderly_without, orderly_kept, orderly_settled}
use Rattle.book.specs.declared.rows.Order.{Order}
use Rattle.book.specs.Orderly.{Lacks, Orderly}
use Rattle.book.specs.Orders.{entered, next_slice, shows, run_out, rests}
use Rattle.book.specs.Places.{without, not_of_contract}
use Rattle.book.specs.Ranks.{order_at}
use Rattle.book.specs.Trades.{struck, settled}
use Rattle.capacity.specs.Meaning.{Capacity}
use Rattle.history.proofs.Members.{in_kept}
use Rattle.history.proofs.AfterEntry.{others_left}
use Rattle.history.proofs.Invariant.{orderly_push}
use Rattle.history.proofs.Means.{enters, changes, withdraws, requests, notifies, closes}
use Rattle.history.proofs.Numbered.{all_in, in_all, at_in, found}
use Rattle.history.proofs.Rows.{Later, settled_later}
use Rattle.events.specs.declared.calls.Call.{Call}
use Rattle.events.specs.declared.calls.Call.TheVariants.{Enter, Change, Withdraw, Request, Notice, Close}
use Rattle.events.specs.Events.{Answer, Answered, round_follows}
use Rattle.events.specs.Turns.{Follows, Turned}
use Rattle.events.proofs.Tests.{passes, refused}
use Rattle.session.specs.declared.entries.Change.{Change as AChange}
use Rattle.session.specs.declared.entries.Entry.{Entry}
use Rattle.session.specs.Calls.{terms_with}
use Rattle.session.specs.Rounds.{Logged, Makes, Ran}
use Rattle.session.specs.State.{State, fresh}
use Rattle.session.specs.Steps.{rested, Ends}
use Rattle.matching.specs.declared.round.Round.{Round}
use Rattle.matching.specs.declared.round.Round.TheVariants.{Regular, Batch}
use Rattle.runs.proofs.Words.{most, Named}

-- an order's number, contract and area are in range
pub record Placed (o : Order) : Type 0 where
  pub number : o.number ≤ most
  pub contract : o.contract ≤ 23
  pub area : o.area ≤ 15

pub record Kept (s : State) : Type 0 where
  pub rows : AllByRecursion Placed s.book
  pub few : length s.book ≤ 128
  pub orderly : Orderly s.book

pub kept_fresh : (n : ℕ) (m : Capacity) → Kept (fresh n m)
kept_fresh n m = record { rows = tt; few = omega arith; orderly = record { fit = tt; distinct = tt } }

-- ---- how long a book may be

one_more : {X : Type 0} (a b : Bool) (x : X) (ps qs xs : List X) → (a ≡ true → b ≡ false) → length ps + length qs ≤ length xs → length (cond a (x ∷ ps) ps) + length (cond b (x ∷ qs) qs) ≤ length (x ∷ xs)
one_more true true x ps qs xs apart l = absurd (true≢false (apart refl))
one_more true false x ps qs xs apart l = omega arith
one_more false true x ps qs xs apart l = omega arith
one_more false false x ps qs xs apart l = omega arith

-- of two tests that nothing passes both of, what passes the one and what passes the other
parts_few : {X : Type 0} (p q : X → Bool) → ((x : X) → p x ≡ true → q x ≡ false) → (xs : List X) → length (filter p xs) + length (filter q xs) ≤ length xs
parts_few p q apart [] = omega arith
parts_few p q apart (x ∷ xs) = one_more (p x) (q x) x (filter p xs) (filter q xs) xs (apart x) (parts_few p q apart xs)

kept_few : {X : Type 0} (p : X → Bool) (xs : List X) → length (filter p xs) ≤ length xs
kept_few p xs = let l = parts_few p (λ x. false) (λ x e. refl) xs in omega arith

settled_few : (b s q : ℕ) (os : List Order) → length (settled b s q os) ≤ length os
settled_few b s q os =
    let rows = map (struck b s q) os in
    let l = parts_few shows run_out (λ o e. and_left (not (shows o)) _ (not_from_true (shows o) e)) rows in
    let m : length rows ≡ length os = length-map os (struck b s q) in
    let n : length (map next_slice (filter run_out rows)) ≡ length (filter run_out rows) = length-map (filter run_out rows) next_slice in
    let t : length (settled b s q os) ≡ length (filter shows rows) + length (map next_slice (filter run_out rows)) = length-append (filter shows rows) (map next_slice (filter run_out rows)) in
    omega arith

without_few : {X : Type 0} (xs : List X) (k : ℕ) → k < length xs → length (without xs k) + 1 ≤ length xs
without_few xs k l =
    let t : length (without xs k) ≡ length (take k xs) + length (drop (k + 1) xs) = length-append (take k xs) (drop (k + 1) xs) in
    let d : length (drop (k + 1) xs) ≡ length xs - (k + 1) = length-drop (k + 1) xs in
    omega (arith, length-take k xs)

-- ---- trades, and the ends of rounds

later_placed : (x y : Order) → Later x y → Placed y → Placed x
later_placed x y l p = record { number = omega (arith, l.number, p.number); contract = omega (arith, l.contract, p.contract); area = omega (arith, l.area, p.area) }

settled_placed : (b s q : ℕ) (os : List Order) → AllByRecursion Placed os → AllByRecursion Placed (settled b s q os)
settled_placed b s q os h =
    in_all Placed (settled b s q os) (λ x i.
    let y = settled_later b s q x os i in
    later_placed x y.0 y.2 (all_in Placed os h y.0 y.1))

pub kept_makes : (s u : State) (x : Logged) → Makes s x u → Kept s → Kept u
kept_makes s u x m k =
    subst Kept (sym m.state) (record {
      rows = settled_placed x.trade.buy x.trade.sell x.trade.quantity s.book k.rows;
      few = let l = settled_few x.trade.buy x.trade.sell x.trade.quantity s.book in omega (arith, k.few);
      orderly = orderly_settled x.trade.buy x.trade.sell x.trade.quantity s.book k.orderly;
    })

part_placed : (p : Order → Bool) (os : List Order) → AllByRecursion Placed os → AllByRecursion Placed (filter p os)
part_placed p os h = in_all Placed (filter p os) (λ x i. all_in Placed os h x (in_kept p x os i).0)

rested_placed : (r : Round) (os : List Order) → AllByRecursion Placed os → AllByRecursion Placed (rested r os)
rested_placed (Regular c n) os h = part_placed (rests n) os h
rested_placed (Batch c) os h = h

rested_orderly : (r : Round) (os : List Order) → Orderly os → Orderly (rested r os)
rested_orderly (Regular c n) os h = orderly_kept (rests n) os h
rested_orderly (Batch c) os h = h

rested_few : (r : Round) (os : List Order) → length (rested r os) ≤ length os
rested_few (Regular c n) os = kept_few (rests n) os
rested_few (Batch c) os = omega arith

pub kept_ends : (s t : State) → Ends s t → Kept s → Kept t
kept_ends s t e k =
    subst Kept (sym e.state) (record {
      rows = rested_placed e.round s.book k.rows;
      few = let l = rested_few e.round s.book in omega (arith, k.few);
      orderly = rested_orderly e.round s.book k.orderly;
    })

-- ---- calls

module _ (s : State) (k : Kept s) where
  -- the book is the same
  same_kept : (t : State) → t.book ≡ s.book → Kept t
  same_kept t e = record {
    rows = subst (AllByRecursion Placed) (sym e) k.rows;
    few = subst (λ (os : List Order). length os ≤ 128) (sym e) k.few;
    orderly = subst Orderly (sym e) k.orderly;
  }

  module _ (p : ℕ) where
    entry_kept : (e : Entry) (t : State) → e.number ≤ most → Answered s p (Enter e) (Ok None) t → Kept t
    entry_kept e t named h =
        let x = enters s p e t h in
        let ps = passes s p (Enter e) None t h in
        let o = entered e.number e.member e.contract e.area e.terms in
        let room = ltb-true (length s.book) 128 (not-false (ltb (length s.book) 128) ps.1.1.1.1.1.1.1.1.0) in
        subst Kept (sym x.after) (record {
          rows = All-push Placed s.book o k.rows (record { number = named; contract = ltb-false 23 e.contract ps.1.0; area = ltb-false 15 e.area ps.1.1.1.0 });
          few = omega (arith, length-append s.book (o ∷ []), room);
          orderly = orderly_push s.book o k.orderly (accepted e.number e.member e.contract e.area e.terms x.terms) (lacks e.number s.book x.new);
        })

    change_kept : (c : AChange) (t : State) → Answered s p (Change c) (Ok None) t → Kept t
    change_kept c t h =
        let x = changes s p c t h in
        let f = found c.number c.member s.book x.k x.there in
        let o = order_at s.book x.k in
        let was : Placed o = all_in Placed s.book k.rows o (at_in s.book x.k f.0) in
        let left = without s.book x.k in
        let o₂ = entered o.number o.member o.contract o.area (terms_with o c.limit c.quantity) in
        let others : Lacks o.number left = in_all (λ (y : Order). y.number ≢ o.number) left (λ y i e. (others_left c.number c.member s.book x.k k.orderly.distinct x.there y i).1 (e ∙ f.1)) in
        let fewer = without_few s.book x.k f.0 in
        subst Kept (sym x.after) (record {
          rows = All-push Placed left o₂ (all_without Placed s.book x.k k.rows) (record { number = was.number; contract = was.contract; area = was.area });
          few = omega (arith, length-append left (o₂ ∷ []), fewer, k.few);
          orderly = orderly_push left o₂ (orderly_without s.book x.k k.orderly) (accepted o.number o.member o.contract o.area (terms_with o c.limit c.quantity) x.terms) others;
        })

    withdrawal_kept : (n m : ℕ) (t : State) → Answered s p (Withdraw n m) (Ok None) t → Kept t
    withdrawal_kept n m t h =
        let x = withdraws s p n m t h in
        let fewer = without_few s.book x.k (found n m s.book x.k x.there).0 in
        subst Kept (sym x.after) (record { rows = all_without Placed s.book x.k k.rows; few = omega (arith, fewer, k.few); orderly = orderly_without s.book x.k k.orderly })

    closing_kept : (c n : ℕ) (t : State) → Answered s p (Close c) (Ok (Some n)) t → Kept t
    closing_kept c n t h =
        let fewer = kept_few (not_of_contract c) s.book in
        subst Kept (sym (closes s p c n t h).after) (record {
          rows = part_placed (not_of_contract c) s.book k.rows;
          few = omega (arith, fewer, k.few);
          orderly = orderly_kept (not_of_contract c) s.book k.orderly;
        })

    pub kept_called : (c : Call) (a : Answer) (t : State) → Named c → Answered s p c a t → Kept t
    kept_called c (Err f) t named h = subst Kept (sym (refused s p c f t h)) k
    kept_called (Enter e) (Ok None) t named h = entry_kept e t named h
    kept_called (Change c) (Ok None) t named h = change_kept c t h
    kept_called (Withdraw n m) (Ok None) t named h = withdrawal_kept n m t h
    kept_called (Request d q) (Ok None) t named h = same_kept t (ap (λ (u : State). u.book) (requests s p d q t h).after)
    kept_called (Notice d f) (Ok None) t named h = same_kept t (ap (λ (u : State). u.book) (notifies s p d f t h).after)
    kept_called (Close c) (Ok (Some n)) t named h = closing_kept c n t h
    kept_called (Enter e) (Ok (Some g)) t named h = absurd h.0
    kept_called (Change c) (Ok (Some g)) t named h = absurd h.0
    kept_called (Withdraw n m) (Ok (Some g)) t named h = absurd h.0
    kept_called (Request d q) (Ok (Some g)) t named h = absurd h.0
    kept_called (Notice d f) (Ok (Some g)) t named h = absurd h.0
    kept_called (Close c) (Ok None) t named h = absurd h.0

-- ---- turns

kept_ran : (xs : List Logged) (s t : State) → Ran s xs t → Kept s → Kept t
kept_ran [] s t r k = kept_ends s t r k
kept_ran (x ∷ xs) s t (u, makes, rest) k = kept_ran xs u t rest (kept_makes s u x makes k)

kept_followed : (b : Bool) (xs : List Logged) (s t : State) → Follows b s xs t → Kept s → Kept t
kept_followed true xs s t f k = kept_ran xs s t f k
kept_followed false xs s t f k = subst Kept (sym f.1) k

pub kept_turned : (s t : State) (p : ℕ) (c : Call) (a : Answer) (xs : List Logged) → Named c → Turned s p c a xs t → Kept s → Kept t
kept_turned s t p c a xs named turn k = kept_followed (round_follows c a) xs turn.called t turn.followed (kept_called s k p c a turn.called named turn.answered)
