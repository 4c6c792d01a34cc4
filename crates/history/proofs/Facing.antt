-- Executable pairs by the orders themselves, wherever they stand in the book.
use Rattle.std.proofs.Common.{◌≡◌, ℕ, suc, ◌<◌, List, [], ◌∷◌, length, ℤ, ◌≤ℤ◌, sym, subst, inl, inr, arith}
use Rattle.std.proofs.lemmas.Int.{ints}
use Rattle.book.specs.declared.rows.Order.{Order}
use Rattle.book.specs.declared.rows.Side.{Side}
use Rattle.book.specs.declared.rows.Side.TheVariants.{Buy, Sell}
use Rattle.book.specs.Ranks.{Ahead, order_at}
use Rattle.capacity.specs.Meaning.{Capacity}
use Rattle.flows.specs.Flows.{OpenIn}
use Rattle.matching.proofs.Members.{executable, concerns, in_round}
use Rattle.matching.specs.declared.round.Round.{Round}
use Rattle.matching.specs.declared.round.Round.TheVariants.{Regular, Batch}
use Rattle.matching.specs.Orders.{Meeting, Concerns}
use Rattle.matching.specs.Pairs.{InRound, Chosen}
use Rattle.routes.proofs.Reached.{reaching}
use Rattle.routes.specs.Laws.{Reach}
use Rattle.trades.specs.Deals.{traded_contract}
use Rattle.history.specs.Standing.{◌∈◌}
use Rattle.history.proofs.Numbered.{at_in}

-- a member of the book stands at some place
in_at : (os : List Order) (x : Order) → x ∈ os → (i : ℕ) × (i < length os) × (order_at os i ≡ x)
in_at [] x h = absurd h
in_at (o ∷ os) x h = elim h [
  | inl e ↦ (0, omega arith, e)
  | inr g ↦ let r = in_at os x g in (suc r.0, omega (arith, r.1), r.2)
]

-- a buy and a sell of the book whose limits meet, with a way from the sell's area to the buy's
pub record Facing (m : Capacity) (os : List Order) (b o : Order) : Type 0 where
  pub buy_in : b ∈ os
  pub sell_in : o ∈ os
  pub meets : Meeting b o
  pub leads : Reach (OpenIn m b.contract) o.area b.area

-- the pair that a round trades: no buy of a pair of the round has a higher limit, and no sell of one with that buy a lower one
pub record Best (m : Capacity) (os : List Order) (r : Round) (B O : Order) : Type 0 where
  pub pair : Facing m os B O
  pub concerned : Concerns r B O
  pub best_buy : (b o : Order) → Facing m os b o → Concerns r b o → b.limit ≤ℤ B.limit
  pub best_sell : (o : Order) → Facing m os B o → Concerns r B o → O.limit ≤ℤ o.limit

pub of_contract : (r : Round) (b o : Order) → Concerns r b o → b.contract ≡ traded_contract r
of_contract (Regular c n) b o h = h.0
of_contract (Batch c) b o h = h

pub not_both_sides : (d : Side) → d ≡ Buy → d ≡ Sell → ⊥
not_both_sides d e f = cc

-- a higher rank has no worse limit
buy_ahead : (d e : Side) (l k : ℤ) (i j : ℕ) → d ≡ Buy → Ahead d e l k i j → k ≤ℤ l
buy_ahead Buy Buy l k i j b h = elim h [ inl a ↦ omega (arith, ints) | inr a ↦ let s = a.0 in omega (arith, ints) ]
buy_ahead Buy Sell l k i j b h = absurd h
buy_ahead Sell e l k i j b h = cc

sell_ahead : (d e : Side) (l k : ℤ) (i j : ℕ) → d ≡ Sell → Ahead d e l k i j → l ≤ℤ k
sell_ahead Sell Sell l k i j b h = elim h [ inl a ↦ omega (arith, ints) | inr a ↦ let s = a.0 in omega (arith, ints) ]
sell_ahead Sell Buy l k i j b h = absurd h
sell_ahead Buy e l k i j b h = cc

same_limit : (z : ℤ) → z ≤ℤ z
same_limit z = omega (arith, ints)

module _ (m : Capacity) (os : List Order) (r : Round) where
  abbrev Opens : ℕ → ℕ → Type 0
  Opens = OpenIn m (traded_contract r)

  -- from places to the orders there
  facing_at : (i j : ℕ) → InRound Opens r os i j → Facing m os (order_at os i) (order_at os j)
  facing_at i j h =
      let e = executable Opens r os i j h in
      let c : traded_contract r ≡ (order_at os i).contract = sym (of_contract r (order_at os i) (order_at os j) (concerns Opens r os i j h)) in
      record {
        buy_in = at_in os i e.buy_in;
        sell_in = at_in os j e.sell_in;
        meets = record { buys = e.buys; sells = e.sells; one_contract = e.one_contract; meet = e.meet };
        leads = subst (λ k. Reach (OpenIn m k) (order_at os j).area (order_at os i).area) c (e.leads.0, e.leads.1.0);
      }

  -- and back
  round_at : (i j : ℕ) → i < length os → j < length os → Facing m os (order_at os i) (order_at os j) → Concerns r (order_at os i) (order_at os j) → InRound Opens r os i j
  round_at i j li lj f c = in_round Opens r os i j (record {
    buy_in = li;
    sell_in = lj;
    buys = f.meets.buys;
    sells = f.meets.sells;
    one_contract = f.meets.one_contract;
    meet = f.meets.meet;
    leads = (reaching Opens).path (order_at os j).area (order_at os i).area (subst (λ k. Reach (OpenIn m k) (order_at os j).area (order_at os i).area) (of_contract r (order_at os i) (order_at os j) c) f.leads);
  }) c

  -- a pair of the round stands at two places
  pair_at : (b o : Order) → Facing m os b o → Concerns r b o → (i j : ℕ) × (order_at os i ≡ b) × InRound Opens r os i j
  pair_at b o f c =
      let p = in_at os b f.buy_in in
      let q = in_at os o f.sell_in in
      let T : Order → Order → Type 0 = λ x y. Facing m os x y × Concerns r x y in
      let t : T (order_at os p.0) (order_at os q.0) = subst (λ x. T x (order_at os q.0)) (sym p.2) (subst (T b) (sym q.2) (f, c)) in
      (p.0, q.0, p.2, round_at p.0 q.0 p.1 q.1 t.0 t.1)

  pub none_facing : ((i j : ℕ) → InRound Opens r os i j → ⊥) → (b o : Order) → Facing m os b o → Concerns r b o → ⊥
  none_facing none b o f c = let p = pair_at b o f c in none p.0 p.1 p.3

  module _ (i j : ℕ) (h : Chosen Opens r os i j) where
    buy_first : (b o : Order) → Facing m os b o → Concerns r b o → b.limit ≤ℤ (order_at os i).limit
    buy_first b o f c =
        let p = pair_at b o f c in
        let e = executable Opens r os i j h.pair in
        subst (λ (x : Order). x.limit ≤ℤ (order_at os i).limit) p.2
        (elim (h.best_buy p.0 p.1 p.3) [
          | inl s ↦ subst (λ z. (order_at os z).limit ≤ℤ (order_at os i).limit) (sym s) (same_limit (order_at os i).limit)
          | inr a ↦ buy_ahead (order_at os i).side (order_at os p.0).side (order_at os i).limit (order_at os p.0).limit i p.0 e.buys a.2
        ])

    sell_first : (o : Order) → Facing m os (order_at os i) o → Concerns r (order_at os i) o → (order_at os j).limit ≤ℤ o.limit
    sell_first o f c =
        let q = in_at os o f.sell_in in
        let T : Order → Type 0 = λ y. Facing m os (order_at os i) y × Concerns r (order_at os i) y in
        let t : T (order_at os q.0) = subst T (sym q.2) (f, c) in
        let e = executable Opens r os i j h.pair in
        subst (λ x. (order_at os j).limit ≤ℤ x.limit) q.2
        (elim (h.best_sell q.0 (round_at i q.0 e.buy_in q.1 t.0 t.1)) [
          | inl s ↦ subst (λ z. (order_at os j).limit ≤ℤ (order_at os z).limit) (sym s) (same_limit (order_at os j).limit)
          | inr a ↦ sell_ahead (order_at os j).side (order_at os q.0).side (order_at os j).limit (order_at os q.0).limit j q.0 e.sells a.2
        ])

    pub chosen_best : Best m os r (order_at os i) (order_at os j)
    chosen_best = record { pair = facing_at i j h.pair; concerned = concerns Opens r os i j h.pair; best_buy = buy_first; best_sell = sell_first }
