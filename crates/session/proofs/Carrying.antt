-- What a deal takes of the register can be taken, since the orders of a book show some and not too much.
use Rattle.std.proofs.Common.{◌≡◌, ℕ, ◌<◌, ◌≤◌, min, Bool, true, ◌&&◌, ltb, leb, List, length, sym, ◌∙◌, arith}
use mathlib.Core.Logic.{∥∥₁_elim}
use base.Stored.{Coded-set, coded_bool, coded_list}
use Rattle.std.specs.List.{AllByRecursion}
use Rattle.std.proofs.ByRecursion.{All-get_or}
use Rattle.std.proofs.lemmas.Bool.{ltb-true, leb-true, lt-ltb, le-leb, and_from, and_parts}
use Rattle.book.specs.contracts.rows.Order.{the_row as order_row}
use Rattle.book.specs.declared.rows.Order.{Order}
use Rattle.book.specs.declared.rows.Kind.{Kind}
use Rattle.book.specs.declared.rows.Kind.TheVariants.{Non, Ioc, Ice}
use Rattle.book.specs.Orderly.{Parted, Fit, Orderly}
use Rattle.book.specs.Ranks.{blank, order_at}
use Rattle.capacity.specs.Meaning.{Capacity}
use Rattle.flows.specs.Flows.{OpenIn, least_flow, Carries}
use Rattle.flows.proofs.Least.{least_is, least_carries}
use Rattle.matching.specs.declared.round.Round.{Round}
use Rattle.routes.specs.Paths.{Path}
use Rattle.trades.specs.declared.trade.Trade.{Trade}
use Rattle.trades.specs.Deals.{traded_contract, Deals}
use Rattle.trades.proofs.Dealing.{executable}

-- what an order of a book shows is open, and is some and not too much
shown_few : (k : Kind) (o : Order) → Parted k o → o.shown ≤ o.«open»
shown_few Non o h = omega (arith, h)
shown_few Ioc o h = omega (arith, h)
shown_few Ice o h = h.within

pub shown_range : (os : List Order) (i : ℕ) → AllByRecursion Fit os → i < length os → (1 ≤ (order_at os i).shown) × ((order_at os i).shown ≤ 9999) × ((order_at os i).shown ≤ (order_at os i).«open»)
shown_range os i h l =
    let o = order_at os i in
    let fit : Fit o = All-get_or Fit os i blank l h in
    let some = ltb-true 0 o.shown fit.0 in
    let few = shown_few o.kind o fit.1.1 in
    (omega arith, omega (arith, fit.1.2), few)

-- a number from 1 to 99,999, as a test
abbrev in_range : ℕ → Bool
in_range n = ltb 0 n && leb n 99999

most_range : (os : List Order) (i j : ℕ) → Orderly os → i < length os → j < length os → in_range (min (order_at os i).shown (order_at os j).shown) ≡ true
most_range os i j h li lj =
    let a = shown_range os i h.fit li in
    let b = shown_range os j h.fit lj in
    let n = min (order_at os i).shown (order_at os j).shown in
    and_from (ltb 0 n) (leb n 99999) (lt-ltb 0 n (omega (arith, a.0, b.0))) (le-leb n 99999 (omega (arith, a.1, b.1)))

-- the quantity of a deal can be carried along its route
pub deal_carries : (m : Capacity) (os : List Order) (r : Round) (x : Trade) (xs : List ℕ) → ∥ Orderly os ∥₁ → (d : Deals m os r x xs) → Carries m x.contract (order_at os d.j).area (order_at os d.i).area (min (order_at os d.i).shown (order_at os d.j).shown) x.quantity xs
deal_carries m os r x xs t d =
    let c = traded_contract r in
    let n = min (order_at os d.i).shown (order_at os d.j).shown in
    let p : Path (OpenIn m c) (order_at os d.j).area (order_at os d.i).area xs = d.route.0 in
    let e = executable (OpenIn m c) r os d.i d.j d.chosen.pair in
    let ok : in_range n ≡ true = ∥∥₁_elim t (Coded-set coded_bool _ _) (λ h. most_range os d.i d.j h e.buy_in e.sell_in) in
    let both = and_parts (ltb 0 n) (leb n 99999) ok in
    let q : x.quantity ≡ least_flow m c n xs = cc (d.quantity ∙ sym (least_is m c n _ _ xs p)) in
    rw d.contract (least_carries m c n x.quantity _ _ xs q p (ltb-true 0 n both.0) (leb-true n 99999 both.1))

-- an equation of books, from what is known of an orderly one
pub by_order : {os xs ys : List Order} → ∥ Orderly os ∥₁ → (Orderly os → xs ≡ ys) → xs ≡ ys
by_order t f = ∥∥₁_elim t (Coded-set (coded_list order_row.coded) _ _) f
