-- Every trade lowers what is open in the book, so a round ends.
use Rattle.std.proofs.Common.{◌≡◌, ℕ, zero, suc, ◌+◌, ◌<◌, ◌≤◌, Bool, true, false, cond, ◌||◌, eqb, ltb, List, [], ◌∷◌, ◌++◌, map, length, filter, sym, refl, ap, inl, inr, arith, eq-eqb}
use mathlib.Core.Logic.{∥∥₁_elim}
use base.Stored.{Coded-set, coded_bool}
use Rattle.std.proofs.lemmas.Bool.{ltb-true, lt-ltb, cases_Bool, and_left, not_from_true}
use Rattle.book.specs.declared.rows.Order.{Order}
use Rattle.book.specs.Orderly.{Orderly}
use Rattle.book.specs.Orders.{lessened, next_slice, shows, run_out}
use Rattle.book.specs.Ranks.{order_at}
use Rattle.book.specs.Trades.{struck, settled}
use Rattle.capacity.specs.Meaning.{Capacity}
use Rattle.flows.specs.Flows.{OpenIn}
use Rattle.matching.specs.declared.round.Round.{Round}
use Rattle.trades.specs.declared.trade.Trade.{Trade}
use Rattle.trades.specs.Deals.{traded_contract, Deals}
use Rattle.trades.proofs.Dealing.{executable}
use Rattle.session.proofs.Carrying.{shown_range, deal_carries}

-- what is open in all
abbrev pub total_open : List Order → ℕ
total_open [] = 0
total_open (o ∷ os) = o.«open» + total_open os

total_append : (xs ys : List Order) → total_open (xs ++ ys) ≡ total_open xs + total_open ys
total_append [] ys = omega arith
total_append (o ∷ xs) ys = omega (arith, total_append xs ys)

total_next : (xs : List Order) → total_open (map next_slice xs) ≡ total_open xs
total_next [] = refl
total_next (o ∷ xs) = ap (λ n. o.«open» + n) (total_next xs)

total_parts : (p q : Order → Bool) → ((o : Order) → p o ≡ true → q o ≡ false) → (xs : List Order) → total_open (filter p xs) + total_open (filter q xs) ≤ total_open xs
total_parts p q apart [] = omega arith
total_parts p q apart (o ∷ xs) =
    let h = total_parts p q apart xs in
    elim (cases_Bool (p o)) [
      | inl y ↦ simp (y, apart o y) (omega arith)
      | inr n ↦ elim (cases_Bool (q o)) [ inl z ↦ simp (n, z) (omega arith) | inr z ↦ simp (n, z) (omega arith) ]
    ]

apart : (o : Order) → shows o ≡ true → run_out o ≡ false
apart o y = and_left _ _ (not_from_true _ y)

total_renewed : (ys : List Order) → total_open (filter shows ys ++ map next_slice (filter run_out ys)) ≤ total_open ys
total_renewed ys = omega (arith, total_append (filter shows ys) (map next_slice (filter run_out ys)), total_next (filter run_out ys), total_parts shows run_out apart ys)

lowered : (t : Bool) (q : ℕ) (o : Order) → (cond t (lessened q o) o).«open» ≤ o.«open»
lowered true q o = omega arith
lowered false q o = omega arith

total_struck : (b s q : ℕ) (os : List Order) → total_open (map (struck b s q) os) ≤ total_open os
total_struck b s q [] = omega arith
total_struck b s q (o ∷ os) = let h = total_struck b s q os in let l = lowered (eqb o.number b || eqb o.number s) q o in omega arith

lowered_some : (u v : Bool) (q : ℕ) (o : Order) → u ≡ true → 1 ≤ q → 1 ≤ o.«open» → (cond (u || v) (lessened q o) o).«open» < o.«open»
lowered_some true v q o e h k = omega arith
lowered_some false v q o e h k = absurd (let z : ◌≡◌ {A = ℕ} 0 1 = cc in omega arith)

struck_falls : (b s q i : ℕ) (os : List Order) → i < length os → b ≡ (order_at os i).number → 1 ≤ q → 1 ≤ (order_at os i).«open» → total_open (map (struck b s q) os) < total_open os
struck_falls b s q i [] l e h k = absurd (omega arith)
struck_falls b s q zero (o ∷ os) l e h k =
    let a = total_struck b s q os in
    let f = lowered_some (eqb o.number b) (eqb o.number s) q o (eq-eqb o.number b (sym e)) h k in
    omega arith
struck_falls b s q (suc i) (o ∷ os) l e h k =
    let a = struck_falls b s q i os (omega arith) e h k in
    let f = lowered (eqb o.number b || eqb o.number s) q o in
    omega arith

-- a deal lowers what is open in all
pub deal_falls : (m : Capacity) (os : List Order) (r : Round) (x : Trade) (xs : List ℕ) → ∥ Orderly os ∥₁ → Deals m os r x xs → total_open (settled x.buy x.sell x.quantity os) < total_open os
deal_falls m os r x xs t d =
    let e = executable (OpenIn m (traded_contract r)) r os d.i d.j d.chosen.pair in
    let some = (deal_carries m os r x xs t d).some in
    let here : ltb 0 (order_at os d.i).«open» ≡ true = ∥∥₁_elim t (Coded-set coded_bool _ _) (λ h. lt-ltb 0 _ (let shown = shown_range os d.i h.fit e.buy_in in omega arith)) in
    let k = ltb-true 0 (order_at os d.i).«open» here in
    let falls = struck_falls x.buy x.sell x.quantity d.i os e.buy_in d.buy some (omega (arith, k)) in
    omega (arith, falls, total_renewed (map (struck x.buy x.sell x.quantity) os))
