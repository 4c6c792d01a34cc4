-- A grant opens the way back, turn by turn.
use Rattle.std.proofs.Common.{◌≡◌, ℕ, zero, suc, Bool, true, false, not, ◌&&◌, eqb, List, [], ◌∷◌, pos, Err, refl, inl, arith}
use Rattle.std.proofs.lemmas.Bool.Decides.{nat_tests}
use Rattle.std.proofs.lemmas.Bool.{false≢true}
use Rattle.std.proofs.lemmas.Int.{ints}
use Rattle.capacity.specs.declared.faults.RegisterFault.TheVariants.{Short}
use Rattle.capacity.specs.Meaning.{Capacity, taken, noticed}
use Rattle.book.specs.declared.rows.Order.{Order}
use Rattle.book.specs.declared.rows.Side.TheVariants.{Buy, Sell}
use Rattle.flows.specs.Flows.{OpenIn, carried}
use Rattle.flows.proofs.Opened.{open_parts}
use Rattle.matching.specs.declared.round.Round.TheVariants.{Regular, Batch}
use Rattle.matching.specs.Pairs.{Executable, Chosen}
use Rattle.routes.specs.Paths.{Relation}
use Rattle.trades.specs.Deals.{Deals}
use Rattle.session.specs.declared.faults.SessionFault.TheVariants.{Register}
use Rattle.session.specs.State.{fresh}
use Rattle.events.specs.declared.calls.Call.TheVariants.{Enter, Request, Notice}
use Rattle.events.specs.Turns.{Turned}
use Rattle.trials.specs.Registers.{one_connector, Unused}
use Rattle.trials.specs.Rows.{Comes}
use Rattle.trials.specs.Rounds.{way, hundred, entry, accepted, traded_back, grant}
use Rattle.trials.proofs.Dealt.{dealt}
use Rattle.trials.proofs.Paths.{no_path, direct}
use Rattle.trials.proofs.Playing.{comes}
use Rattle.trials.proofs.Quiet.{quiet, busy, here, order_of, NonePairs, done, one_sided}
use Rattle.trials.proofs.Unused.{plain, with_one}

abbrev sell : Order
sell = order_of (entry 1 1 Sell (pos 4000))

abbrev buy : Order
buy = order_of (entry 2 0 Buy (pos 5000))

abbrev both : List Order
both = sell ∷ buy ∷ []

-- what holds of these two holds of each pair
one_pair : (O : Relation) (P : ℕ → ℕ → Type 0) → (Executable O both 1 0 → P 1 0) → (i j : ℕ) → Executable O both i j → P i j
one_pair O P h zero j e = let x = e.buys in cc
one_pair O P h (suc zero) zero e = h e
one_pair O P h (suc zero) (suc zero) e = let x = e.sells in cc
one_pair O P h (suc zero) (suc (suc j)) e = let x = e.sell_in in absurd (omega arith)
one_pair O P h (suc (suc i)) j e = let x = e.buy_in in absurd (omega arith)

module _ (f g : ℕ → ℕ → ℕ → ℕ) (d : ℕ → ℕ → ℕ → Bool) (r : ℕ) (room : (not (d 3 0 1) && eqb r 0) ≡ false) where
  abbrev start : Capacity
  start = plain one_connector f g d r

  abbrev told : Capacity
  told = noticed start 3 0 1 hundred

  abbrev granted : Capacity
  granted = taken told 3 0 1 100

  abbrev after : Capacity
  after = carried granted 3 50 (1 ∷ 0 ∷ [])

  -- before the grant nothing is open from 1
  shut : (b : ℕ) → OpenIn told 3 1 b → ⊥
  shut zero h = false≢true h
  shut (suc b) h = let j : one_connector.joins 1 (suc b) ≡ true = (open_parts told 3 1 (suc b) h).1 in grind (arith, nat_tests)

  no_way : NonePairs told (Regular 3 2) both
  no_way i j h = one_pair (OpenIn told 3) (λ i j. ⊥) (λ e. no_path (OpenIn told 3) 1 0 e.leads.0 shut (λ z. omega arith) e.leads.1) i j h.0

  deal : Deals granted both (Batch 3) traded_back.trade traded_back.route
  deal =
      let O = OpenIn granted 3 in
      let route = direct O 1 0 (omega arith) (omega arith) (λ z. omega arith) refl in
      let chosen : Chosen O (Batch 3) both 1 0 = record {
        pair = (record { buy_in = omega arith; sell_in = omega arith; buys = refl; sells = refl; one_contract = refl; meet = omega (arith, ints); leads = (1 ∷ 0 ∷ [], route.0) }, refl);
        best_buy = λ i j h. inl (one_pair O (λ i j. i ≡ 1) (λ e. refl) i j h.0);
        best_sell = λ j h. inl (one_pair O (λ i j. j ≡ 0) (λ e. refl) 1 j h.0);
      } in
      dealt granted both (Batch 3) 1 0 (1 ∷ 0 ∷ []) 50 chosen route refl

  module _ (n : ℕ) where
    notice_turn : Turned (fresh n start) n (Notice (way 1) hundred) accepted [] (quiet n [] told)
    notice_turn = record { called = busy n (Batch 3) [] told; answered = (rw (here n, room) refl, rw (here n, room) refl); followed = one_sided Buy n (Batch 3) [] told tt }

    sell_turn : Turned (quiet n [] told) n (Enter (entry 1 1 Sell (pos 4000))) accepted [] (quiet n (sell ∷ []) told)
    sell_turn = record { called = busy n (Regular 3 1) (sell ∷ []) told; answered = (rw (here n) refl, rw (here n) refl); followed = one_sided Sell n (Regular 3 1) (sell ∷ []) told (refl, tt) }

    buy_turn : Turned (quiet n (sell ∷ []) told) n (Enter (entry 2 0 Buy (pos 5000))) accepted [] (quiet n both told)
    buy_turn = record { called = busy n (Regular 3 2) both told; answered = (rw (here n) refl, rw (here n) refl); followed = done n (Regular 3 2) both told no_way }

    refused_turn : Turned (quiet n both told) n (Request (way 1) 101) (Err (Register (Short (way 1) (pos 100)))) [] (quiet n both told)
    refused_turn = record { called = quiet n both told; answered = (rw (here n) refl, rw (here n) refl); followed = (refl, refl) }

    granted_turn : Turned (quiet n both told) n (Request (way 1) 100) accepted (traded_back ∷ []) (quiet n [] after)
    granted_turn = record {
      called = busy n (Batch 3) both granted;
      answered = (rw (here n) refl, rw (here n) refl);
      followed = (
        busy n (Batch 3) [] after,
        record { round = Batch 3; under_way = refl; deal = deal; state = refl },
        one_sided Buy n (Batch 3) [] after tt,
      );
    }

  plain_way_back : Comes start grant
  plain_way_back = comes start grant (λ n. (_, notice_turn n, (_, sell_turn n, (_, buy_turn n, (_, refused_turn n, (_, granted_turn n, tt))))))

pub way_back : (m : Capacity) → Unused one_connector 1 m → Comes m grant
way_back = with_one (λ m. Comes m grant) plain_way_back
