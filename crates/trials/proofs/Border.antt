-- The better price across the border, turn by turn.
use Rattle.std.proofs.Common.{◌≡◌, ℕ, zero, suc, ◌-◌, Bool, true, false, cond, not, ◌&&◌, ◌⊎◌, eqb, List, [], ◌∷◌, pos, refl, inl, inr, arith, sym, subst}
use Rattle.std.proofs.lemmas.Bool.Decides.{nat_tests}
use Rattle.std.proofs.lemmas.Bool.{false≢true}
use Rattle.std.proofs.lemmas.Int.{ints}
use Rattle.capacity.specs.Meaning.{Capacity, noticed}
use Rattle.book.specs.declared.rows.Order.{Order}
use Rattle.book.specs.declared.rows.Side.TheVariants.{Buy, Sell}
use Rattle.book.specs.Ranks.{RanksAbove}
use Rattle.flows.specs.Flows.{OpenIn, carried}
use Rattle.flows.proofs.Opened.{open_parts}
use Rattle.matching.specs.declared.round.Round.TheVariants.{Regular, Batch}
use Rattle.matching.specs.Pairs.{InRound, Chosen}
use Rattle.routes.specs.Paths.{Relation}
use Rattle.trades.specs.Deals.{Deals}
use Rattle.session.specs.State.{fresh}
use Rattle.events.specs.declared.calls.Call.TheVariants.{Enter, Notice}
use Rattle.events.specs.Turns.{Turned}
use Rattle.trials.specs.Registers.{two_connectors, Unused}
use Rattle.trials.specs.Rows.{Comes}
use Rattle.trials.specs.Rounds.{way, hundred, entry, accepted, traded_across, border}
use Rattle.trials.proofs.Dealt.{dealt}
use Rattle.trials.proofs.Paths.{no_path, direct}
use Rattle.trials.proofs.Playing.{comes}
use Rattle.trials.proofs.Quiet.{quiet, busy, here, order_of, NonePairs, done, one_sided}
use Rattle.trials.proofs.Unused.{plain, with_two}

abbrev near : Order
near = order_of (entry 1 1 Buy (pos 5000))

abbrev far : Order
far = order_of (entry 2 2 Buy (pos 6000))

abbrev dear : Order
dear = order_of (entry 3 1 Sell (pos 5500))

abbrev last : Order
last = order_of (entry 4 0 Sell (pos 4500))

abbrev three : List Order
three = near ∷ far ∷ dear ∷ []

abbrev four : List Order
four = near ∷ far ∷ dear ∷ last ∷ []

abbrev two : List Order
two = near ∷ dear ∷ []

-- the last sell stands in each pair of its round, with one of the buys
pairs : (O : Relation) (i j : ℕ) → InRound O (Regular 3 4) four i j → ((i ≡ 0) ⊎ (i ≡ 1)) × (j ≡ 3)
pairs O (suc (suc zero)) j h = let x = h.0.buys in cc
pairs O (suc (suc (suc zero))) j h = let x = h.0.buys in cc
pairs O (suc (suc (suc (suc i)))) j h = let x = h.0.buy_in in absurd (omega arith)
pairs O i zero h = let x = h.0.sells in cc
pairs O i (suc zero) h = let x = h.0.sells in cc
pairs O zero (suc (suc zero)) h = elim h.2 [ inl e ↦ absurd (omega arith) | inr e ↦ absurd (omega arith) ]
pairs O (suc zero) (suc (suc zero)) h = elim h.2 [ inl e ↦ absurd (omega arith) | inr e ↦ absurd (omega arith) ]
pairs O zero (suc (suc (suc zero))) h = (inl refl, refl)
pairs O (suc zero) (suc (suc (suc zero))) h = (inr refl, refl)
pairs O i (suc (suc (suc (suc j)))) h = let x = h.0.sell_in in absurd (omega arith)

-- once it is gone none is left
none_after : (O : Relation) (i j : ℕ) → InRound O (Regular 3 4) two i j → ⊥
none_after O i zero h = let x = h.0.sells in cc
none_after O zero (suc zero) h = elim h.2 [ inl e ↦ absurd (omega arith) | inr e ↦ absurd (omega arith) ]
none_after O (suc zero) j h = let x = h.0.buys in cc
none_after O (suc (suc i)) j h = let x = h.0.buy_in in absurd (omega arith)
none_after O i (suc (suc j)) h = let x = h.0.sell_in in absurd (omega arith)

-- the buy at 6,000 ranks above the other
above : RanksAbove four 1 0
above = (omega arith, omega arith, inl (omega (arith, ints)))

module _ (f g : ℕ → ℕ → ℕ → ℕ) (d : ℕ → ℕ → ℕ → Bool) (r : ℕ) (room : (not (d 3 0 1) && eqb r 0) ≡ false) (room_after : (not (d 3 0 2) && eqb (cond (d 3 0 1) r (r - 1)) 0) ≡ false) where
  abbrev start : Capacity
  start = plain two_connectors f g d r

  abbrev halfway : Capacity
  halfway = noticed start 3 0 1 hundred

  abbrev told : Capacity
  told = noticed halfway 3 0 2 hundred

  abbrev after : Capacity
  after = carried told 3 50 (0 ∷ 2 ∷ [])

  -- nothing is open from 1
  shut : (b : ℕ) → OpenIn told 3 1 b → ⊥
  shut zero h = false≢true h
  shut (suc b) h = let j : two_connectors.joins 1 (suc b) ≡ true = (open_parts told 3 1 (suc b) h).1 in grind (arith, nat_tests)

  -- the limits of one pair meet, and there is no way from the sell to the buy
  no_way : NonePairs told (Regular 3 3) three
  no_way i zero h = let x = h.0.sells in cc
  no_way i (suc zero) h = let x = h.0.sells in cc
  no_way zero (suc (suc zero)) h = let x = h.0.meet in absurd (omega (arith, ints))
  no_way (suc zero) (suc (suc zero)) h = no_path (OpenIn told 3) 1 2 h.0.leads.0 shut (λ z. omega arith) h.0.leads.1
  no_way (suc (suc zero)) j h = let x = h.0.buys in cc
  no_way (suc (suc (suc i))) j h = let x = h.0.buy_in in absurd (omega arith)
  no_way i (suc (suc (suc j))) h = let x = h.0.sell_in in absurd (omega arith)

  deal : Deals told four (Regular 3 4) traded_across.trade traded_across.route
  deal =
      let O = OpenIn told 3 in
      let route = direct O 0 2 (omega arith) (omega arith) (λ z. omega arith) refl in
      let chosen : Chosen O (Regular 3 4) four 1 3 = record {
        pair = (record { buy_in = omega arith; sell_in = omega arith; buys = refl; sells = refl; one_contract = refl; meet = omega (arith, ints); leads = (0 ∷ 2 ∷ [], route.0) }, refl, inr refl);
        best_buy = λ i j h. elim ((pairs O i j h).0) [ inl e ↦ inr (subst (λ (k : ℕ). RanksAbove four 1 k) (sym e) above) | inr e ↦ inl e ];
        best_sell = λ j h. inl (pairs O 1 j h).1;
      } in
      dealt told four (Regular 3 4) 1 3 (0 ∷ 2 ∷ []) 50 chosen route refl

  module _ (n : ℕ) where
    first_turn : Turned (fresh n start) n (Notice (way 1) hundred) accepted [] (quiet n [] halfway)
    first_turn = record { called = busy n (Batch 3) [] halfway; answered = (rw (here n, room) refl, rw (here n, room) refl); followed = one_sided Buy n (Batch 3) [] halfway tt }

    second_turn : Turned (quiet n [] halfway) n (Notice (way 2) hundred) accepted [] (quiet n [] told)
    second_turn = record { called = busy n (Batch 3) [] told; answered = (rw (here n, room_after) refl, rw (here n, room_after) refl); followed = one_sided Buy n (Batch 3) [] told tt }

    near_turn : Turned (quiet n [] told) n (Enter (entry 1 1 Buy (pos 5000))) accepted [] (quiet n (near ∷ []) told)
    near_turn = record { called = busy n (Regular 3 1) (near ∷ []) told; answered = (rw (here n) refl, rw (here n) refl); followed = one_sided Buy n (Regular 3 1) (near ∷ []) told (refl, tt) }

    far_turn : Turned (quiet n (near ∷ []) told) n (Enter (entry 2 2 Buy (pos 6000))) accepted [] (quiet n (near ∷ far ∷ []) told)
    far_turn = record { called = busy n (Regular 3 2) (near ∷ far ∷ []) told; answered = (rw (here n) refl, rw (here n) refl); followed = one_sided Buy n (Regular 3 2) (near ∷ far ∷ []) told (refl, (refl, tt)) }

    dear_turn : Turned (quiet n (near ∷ far ∷ []) told) n (Enter (entry 3 1 Sell (pos 5500))) accepted [] (quiet n three told)
    dear_turn = record { called = busy n (Regular 3 3) three told; answered = (rw (here n) refl, rw (here n) refl); followed = done n (Regular 3 3) three told no_way }

    last_turn : Turned (quiet n three told) n (Enter (entry 4 0 Sell (pos 4500))) accepted (traded_across ∷ []) (quiet n two after)
    last_turn = record {
      called = busy n (Regular 3 4) four told;
      answered = (rw (here n) refl, rw (here n) refl);
      followed = (
        busy n (Regular 3 4) two after,
        record { round = Regular 3 4; under_way = refl; deal = deal; state = refl },
        done n (Regular 3 4) two after (none_after (OpenIn after 3)),
      );
    }

  plain_better_price : Comes start border
  plain_better_price = comes start border (λ n. (_, first_turn n, (_, second_turn n, (_, near_turn n, (_, far_turn n, (_, dear_turn n, (_, last_turn n, tt)))))))

pub better_price : (m : Capacity) → Unused two_connectors 2 m → Comes m border
better_price = with_two (λ m. Comes m border) plain_better_price
