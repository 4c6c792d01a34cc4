-- A trade of the best pair of a round leaves every executable pair one of the round: the ways that it opens lead no other pair together.
use Rattle.std.proofs.Common.{◌≡◌, ℕ, List, ℤ, ◌≤ℤ◌, sym, ap, ◌∙◌, subst, inl, inr, arith, Some}
use Rattle.std.proofs.lemmas.Int.{ints, by_lt_z}
use Rattle.std.proofs.lemmas.Bool.{cases_eq}
use Rattle.book.specs.declared.rows.Order.{Order}
use Rattle.book.specs.declared.rows.Side.{Side}
use Rattle.book.specs.declared.rows.Side.TheVariants.{Buy, Sell}
use Rattle.book.specs.Orderly.{Distinct}
use Rattle.book.specs.Trades.{settled}
use Rattle.capacity.specs.Meaning.{Capacity}
use Rattle.flows.proofs.Backward.{carried_only_back, carried_elsewhere}
use Rattle.flows.specs.Flows.{OpenIn, carried}
use Rattle.matching.specs.declared.round.Round.{Round}
use Rattle.matching.specs.declared.round.Round.TheVariants.{Regular, Batch}
use Rattle.matching.specs.Orders.{Meeting, Concerns}
use Rattle.routes.specs.Laws.{Reach}
use Rattle.routes.specs.Paths.{Path}
use Rattle.history.specs.Standing.{◌∈◌}
use Rattle.history.proofs.Clear.{Clear, open_less}
use Rattle.history.proofs.Facing.{Facing, Best, not_both_sides}
use Rattle.history.proofs.Numbered.{one_order}
use Rattle.history.proofs.Rows.{NoBetter, Later, settled_later}

limits_met : (b₂ b o₂ o : ℤ) (d e : Side) → d ≡ Buy → e ≡ Sell → NoBetter d b₂ b → NoBetter e o₂ o → o₂ ≤ℤ b₂ → o ≤ℤ b
limits_met b₂ b o₂ o Buy Buy h k p q m = cc
limits_met b₂ b o₂ o Buy Sell h k p q m = omega (arith, ints)
limits_met b₂ b o₂ o Sell d h k p q m = cc

-- a pair that meets later met before
meeting_before : (b₂ o₂ b o : Order) → Meeting b₂ o₂ → Later b₂ b → Later o₂ o → Meeting b o
meeting_before b₂ o₂ b o x p q =
    let buys : b.side ≡ Buy = sym p.side ∙ x.buys in
    let sells : o.side ≡ Sell = sym q.side ∙ x.sells in
    record {
      buys = buys;
      sells = sells;
      one_contract = sym p.contract ∙ x.one_contract ∙ q.contract;
      meet = limits_met b₂.limit b.limit o₂.limit o.limit b.side o.side buys sells p.limit q.limit x.meet;
    }

concerns_later : (r : Round) (b₂ o₂ b o : Order) → Later b₂ b → Later o₂ o → Concerns r b o → Concerns r b₂ o₂
concerns_later (Regular c n) b₂ o₂ b o p q h = (p.contract ∙ h.0, elim h.1 [ inl e ↦ inl (p.number ∙ e) | inr e ↦ inr (q.number ∙ e) ])
concerns_later (Batch c) b₂ o₂ b o p q h = p.contract ∙ h

-- where (B, O) is the best pair of a regular round with the incoming order n, no other pair is led together by it
module _ (m : Capacity) (os : List Order) (distinct : Distinct os) (c n : ℕ) (B O : Order) (clear : Clear m os (Some (Regular c n))) (best : Best m os (Regular c n) B O)
    (b o : Order) (i : b ∈ os) (j : o ∈ os) (f : Meeting b o) (e : b.contract ≡ B.contract)
    (to : Reach (OpenIn m B.contract) o.area B.area) (from : Reach (OpenIn m B.contract) O.area b.area) where
  -- B and O are not of one number
  apart : B.number ≡ O.number → ⊥
  apart h =
      let p = best.pair in
      not_both_sides B.side p.meets.buys (ap (λ (z : Order). z.side) (one_order os distinct B O p.buy_in p.sell_in h) ∙ p.meets.sells)

  with_B : o.limit ≤ℤ B.limit → Facing m os B o
  with_B l = record {
    buy_in = best.pair.buy_in;
    sell_in = j;
    meets = record { buys = best.pair.meets.buys; sells = f.sells; one_contract = sym e ∙ f.one_contract; meet = l };
    leads = to;
  }

  with_O : O.limit ≤ℤ b.limit → Facing m os b O
  with_O l = record {
    buy_in = i;
    sell_in = best.pair.sell_in;
    meets = record { buys = f.buys; sells = best.pair.meets.sells; one_contract = e ∙ best.pair.meets.one_contract; meet = l };
    leads = subst (λ k. Reach (OpenIn m k) O.area b.area) (sym e) from;
  }

  -- one of B and O is incoming; the other would have traded better, or with the incoming one a pair would be left out
  no_way : (b.number ≡ n → ⊥) → (o.number ≡ n → ⊥) → ⊥
  no_way nb ns =
      let meet = f.meet in
      let met = best.pair.meets.meet in
      let in_c = best.concerned.0 in
      elim best.concerned.1 [
        | inl h ↦ by_lt_z b.limit O.limit
            (λ l. let low = best.best_sell o (with_B (omega (arith, ints))) (in_c, inl h) in omega (arith, ints))
            (λ l. elim (clear b O (with_O l)).1 [ inl g ↦ nb g | inr g ↦ apart (h ∙ sym g) ])
        | inr h ↦ by_lt_z B.limit o.limit
            (λ l. let high = best.best_buy b O (with_O (omega (arith, ints))) (e ∙ in_c, inr h) in omega (arith, ints))
            (λ l. elim (clear B o (with_B l)).1 [ inl g ↦ apart (g ∙ sym h) | inr g ↦ ns g ])
      ]

-- so a pair that it does lead together is one of the round
opened : (m : Capacity) (os : List Order) → Distinct os → (r : Round) (B O : Order) → Clear m os (Some r) → Best m os r B O → (b o : Order) → b ∈ os → o ∈ os → Meeting b o → b.contract ≡ B.contract
    → Reach (OpenIn m B.contract) o.area B.area → Reach (OpenIn m B.contract) O.area b.area → Concerns r b o
opened m os d (Batch c) B O clear best b o i j f e to from = e ∙ best.concerned
opened m os d (Regular c n) B O clear best b o i j f e to from = (
  e ∙ best.concerned.0,
  elim (cases_eq b.number n) [
    | inl h ↦ inl h
    | inr h ↦ elim (cases_eq o.number n) [
      | inl g ↦ inr g
      | inr g ↦ absurd (no_way m os d c n B O clear best b o i j f e to from h g)
    ]
  ],
)

-- a trade of the best pair, along a path from its sell to its buy
module _ (m : Capacity) (os : List Order) (distinct : Distinct os) (r : Round) (B O : Order) (clear : Clear m os (Some r)) (best : Best m os r B O)
    (q : ℕ) (route : List ℕ) (path : Path (OpenIn m B.contract) O.area B.area route) where
  -- of a pair that meets, and that a way leads together after the trade
  pair_before : (b o : Order) → b ∈ os → o ∈ os → Meeting b o → Reach (OpenIn (carried m B.contract q route) b.contract) o.area b.area → Concerns r b o
  pair_before b o i j f l =
      let old : Reach (OpenIn m b.contract) o.area b.area → Concerns r b o = λ w. clear b o (record { buy_in = i; sell_in = j; meets = f; leads = w }) in
      elim (cases_eq b.contract B.contract) [
        | inr n ↦ old (open_less m (carried m B.contract q route) b.contract o.area b.area (carried_elsewhere m B.contract q route b.contract n) l)
        | inl e ↦ elim (carried_only_back m B.contract q O.area B.area route path o.area b.area (subst (λ k. Reach (OpenIn (carried m B.contract q route) k) o.area b.area) e l)) [
          | inl w ↦ old (subst (λ k. Reach (OpenIn m k) o.area b.area) (sym e) w)
          | inr w ↦ opened m os distinct r B O clear best b o i j f e w.0 w.1
        ]
      ]

  pub clear_trade : (bn sn : ℕ) → Clear (carried m B.contract q route) (settled bn sn q os) (Some r)
  clear_trade bn sn b₂ o₂ f =
      let p = settled_later bn sn q b₂ os f.buy_in in
      let s = settled_later bn sn q o₂ os f.sell_in in
      let b = p.0 in
      let o = s.0 in
      let n = carried m B.contract q route in
      let at_b : Reach (OpenIn n b₂.contract) o₂.area b.area = subst (λ z. Reach (OpenIn n b₂.contract) o₂.area z) p.2.area f.leads in
      let at-o : Reach (OpenIn n b₂.contract) o.area b.area = subst (λ z. Reach (OpenIn n b₂.contract) z b.area) s.2.area at_b in
      let l : Reach (OpenIn n b.contract) o.area b.area = subst (λ k. Reach (OpenIn n k) o.area b.area) p.2.contract at-o in
      concerns_later r b₂ o₂ b o p.2 s.2 (pair_before b o p.1 s.1 (meeting_before b₂ o₂ b o f.meets p.2 s.2) l)
