-- A trade lowers what is open on each side of its contract, and the contract of a number is that of its order.
use Rattle.std.proofs.Common.{◌≡◌, ℕ, ◌+◌, ◌≤◌, Bool, true, false, cond, ◌&&◌, eqb, List, [], ◌∷◌, map, filter, sym, refl, ap, ◌∙◌, subst, inl, inr, arith}
use Rattle.std.proofs.lemmas.Bool.{cases_eq, true≢false, cond-true, cond-false, eq-eqb, ne_eqb, and_from, or_left, or_right}
use Rattle.book.specs.declared.rows.Side.{Side}
use Rattle.book.specs.declared.rows.Side.TheVariants.{Buy, Sell}
use Rattle.book.specs.declared.rows.Order.{Order}
use Rattle.book.specs.Orderly.{Orderly}
use Rattle.trades.specs.declared.trade.Trade.{Trade}
use Rattle.history.specs.Standing.{◌∈◌, Standing, still_open, has_number, with_trade, same_side, open_on, smaller, contract_of}
use Rattle.history.proofs.Agreeing.{Agree}
use Rattle.history.proofs.Numbered.{one_order}
use Rattle.history.proofs.Rows.{traded_in}
use Rattle.history.proofs.Same.{more}

-- whether x is of a side of a contract, and what it adds to it
abbrev counts : ℕ → Side → Standing → Bool
counts c d x = eqb x.given.contract c && same_side x.given.terms.side d

abbrev pub share : ℕ → Side → Standing → ℕ
share c d x = cond (counts c d x) (still_open x) 0

-- fewer stand
kept_cons : (c : ℕ) (d : Side) (p : Standing → Bool) (x : Standing) (l : List Standing) (t : Bool) → open_on c d (filter p l) ≤ open_on c d l → open_on c d (cond t (x ∷ filter p l) (filter p l)) ≤ share c d x + open_on c d l
kept_cons c d p x l true h = omega arith
kept_cons c d p x l false h = omega arith

pub open_kept : (c : ℕ) (d : Side) (p : Standing → Bool) (l : List Standing) → open_on c d (filter p l) ≤ open_on c d l
open_kept c d p [] = omega arith
open_kept c d p (x ∷ l) = kept_cons c d p x l (p x) (open_kept c d p l)

-- an order of which more is traded
cond_less : (t : Bool) (a b : ℕ) → a ≤ b → cond t a 0 ≤ cond t b 0
cond_less true a b h = h
cond_less false a b h = omega arith

share_less : (c : ℕ) (d : Side) (q : ℕ) (x : Standing) (t : Bool) → share c d (cond t (more q x) x) ≤ share c d x
share_less c d q x true = cond_less (counts c d x) (still_open (more q x)) (still_open x) (omega arith)
share_less c d q x false = cond_less (counts c d x) (still_open x) (still_open x) (omega arith)

open_map : (c : ℕ) (d : Side) (t : Trade) (l : List Standing) → open_on c d (map (with_trade t) l) ≤ open_on c d l
open_map c d t [] = omega arith
open_map c d t (x ∷ l) = omega (arith, share_less c d t.quantity x (traded_in t.buy t.sell x.given.number), open_map c d t l)

same_side_self : (d : Side) → same_side d d ≡ true
same_side_self Buy = refl
same_side_self Sell = refl

-- an order of the trade
share_hit : (c : ℕ) (d : Side) (q : ℕ) (x : Standing) (t : Bool) → t ≡ true → x.given.contract ≡ c → x.given.terms.side ≡ d → q ≤ still_open x → share c d (cond t (more q x) x) + q ≤ share c d x
share_hit c d q x true h e f l =
    let side = x.given.terms.side in
    let g : counts c d x ≡ true = and_from _ _ (eq-eqb x.given.contract c e) (subst (λ (z : Side). same_side side z ≡ true) f (same_side_self side)) in
    rw g (omega arith)
share_hit c d q x false h e f l = absurd (true≢false (sym h))

open_hit : (c : ℕ) (d : Side) (t : Trade) (w : Standing) (l : List Standing) → w ∈ l → traded_in t.buy t.sell w.given.number ≡ true → w.given.contract ≡ c → w.given.terms.side ≡ d → t.quantity ≤ still_open w → open_on c d (map (with_trade t) l) + t.quantity ≤ open_on c d l
open_hit c d t w [] i h e f k = absurd i
open_hit c d t w (x ∷ l) i h e f k =
    elim i [
      | inl g ↦
          let hit : share c d (with_trade t x) + t.quantity ≤ share c d x = subst (λ (z : Standing). share c d (with_trade t z) + t.quantity ≤ share c d z) (sym g) (share_hit c d t.quantity w (traded_in t.buy t.sell w.given.number) h e f k) in
          omega (arith, hit, open_map c d t l)
      | inr g ↦ omega (arith, share_less c d t.quantity x (traded_in t.buy t.sell x.given.number), open_hit c d t w l g h e f k)
    ]

-- a trade of at least 1 between the buy b and the sell s of the contract c lowers the smaller side, whatever leaves then
pub smaller_after : (c : ℕ) (x : Trade) (b s : Standing) (p : Standing → Bool) (l : List Standing) → b ∈ l → s ∈ l → b.given.number ≡ x.buy → s.given.number ≡ x.sell
    → b.given.contract ≡ c → s.given.contract ≡ c → b.given.terms.side ≡ Buy → s.given.terms.side ≡ Sell → 1 ≤ x.quantity → x.quantity ≤ still_open b → x.quantity ≤ still_open s
    → smaller c (filter p (map (with_trade x) l)) + 1 ≤ smaller c l
smaller_after c x b s p l i j nb ns cb cs buys sells some lb ls =
    let hb = or_left (has_number x.buy b) (has_number x.sell b) (eq-eqb b.given.number x.buy nb) in
    let hs = or_right (has_number x.buy s) (has_number x.sell s) (eq-eqb s.given.number x.sell ns) in
    let buys_kept = open_kept c Buy p (map (with_trade x) l) in
    let sells_kept = open_kept c Sell p (map (with_trade x) l) in
    let buy = open_hit c Buy x b l i hb cb buys lb in
    let sell = open_hit c Sell x s l j hs cs sells ls in
    omega (arith, buys_kept, sells_kept, buy, sell)

-- some order has the number n, and each that has it is of the contract c
pub contract_is : (n c : ℕ) (l : List Standing) → ((w : Standing) → w ∈ l → w.given.number ≡ n → w.given.contract ≡ c) → (w : Standing) → w ∈ l → w.given.number ≡ n → contract_of n l ≡ c
contract_is n c [] h w i e = absurd i
contract_is n c (x ∷ l) h w i e =
    elim (cases_eq x.given.number n) [
      | inl g ↦ cond-true (has_number n x) x.given.contract (contract_of n l) (eq-eqb x.given.number n g) ∙ h x (inl refl) g
      | inr g ↦
          cond-false (has_number n x) x.given.contract (contract_of n l) (ne_eqb x.given.number n g)
          ∙ elim i [
            | inl k ↦ absurd (g (ap (λ (z : Standing). z.given.number) k ∙ e))
            | inr k ↦ contract_is n c l (λ v j. h v (inr j)) w k e
          ]
    ]

pub contract_row : (book : List Order) (l : List Standing) → Agree book l → Orderly book → (o : Order) → o ∈ book → contract_of o.number l ≡ o.contract
contract_row book l a orderly o h =
    let w = a.row o h in
    contract_is o.number o.contract l
    (λ v i e. let x = a.stand v i in sym x.2.contract ∙ ap (λ (z : Order). z.contract) (one_order book orderly.distinct x.0 o x.1 h (x.2.number ∙ e)))
    w.0 w.1 (sym w.2.number)
