-- A take moves its quantity from the sum of one area to that of another, and along a route all but the ends cancel.
use Rattle.std.proofs.Common.{◌≡◌, ℕ, zero, suc, ◌<◌, ◌≤◌, Bool, true, cond, eqb, List, [], ◌∷◌, ℤ, pos, ◌+ℤ◌, ◌-ℤ◌, sym, refl, ◌∙◌, subst, inl, inr, arith}
use Rattle.std.proofs.lemmas.Int.{ints}
use Rattle.std.proofs.lemmas.Bool.{cases_eq, cond-true, cond-false, eq-eqb, ne_eqb, and_left, and_right, and_from}
use Rattle.capacity.proofs.Puts.{other_way, put_there, put_back}
use Rattle.capacity.specs.Meaning.{Capacity, Sound, taken}
use Rattle.routes.specs.Paths.{Onward, Path}
use Rattle.flows.specs.Balance.{sum_to, net_out, only_at, Moved}
use Rattle.flows.specs.Flows.{OpenIn, carried}
use Rattle.flows.proofs.Granted.{carried_on}
use Rattle.flows.proofs.Opened.{open_parts}
use Rattle.flows.proofs.Taken.{net_else}

-- what holds of the connectors of a register
pub record Net (j : ℕ → ℕ → Bool) : Type 0 where
  pub both_join : (a b : ℕ) → j b a ≡ j a b
  pub areas : (a b : ℕ) → j a b ≡ true → (a ≤ 15) × (b ≤ 15)
  pub apart : (a b : ℕ) → j a b ≡ true → a ≡ b → ⊥

pub sound_net : (m : Capacity) → Sound m → Net m.joins
sound_net m s = record { both_join = s.both_join; areas = s.areas; apart = s.apart }

-- ---- sums

sum_same : (n : ℕ) (f g : ℕ → ℤ) → ((b : ℕ) → b < n → g b ≡ f b) → sum_to n g ≡ sum_to n f
sum_same zero f g h = refl
sum_same (suc n) f g h = λ i. sum_same n f g (λ b l. h b (omega arith)) i +ℤ h n (omega arith) i

sum_one : (n : ℕ) (f g : ℕ → ℤ) (y : ℕ) (d : ℤ) → y < n → g y ≡ f y +ℤ d → ((b : ℕ) → (b ≡ y → ⊥) → g b ≡ f b) → sum_to n g ≡ sum_to n f +ℤ d
sum_one zero f g y d l e h = absurd (omega arith)
sum_one (suc n) f g y d l e h =
    elim (cases_eq y n) [
      | inl r ↦
          let p : sum_to n g ≡ sum_to n f = sum_same n f g (λ b k. h b (λ z. omega arith)) in
          let k : g n ≡ f n +ℤ d = subst (λ z. g z ≡ f z +ℤ d) r e in
          omega (arith, ints)
      | inr r ↦
          let p : sum_to n g ≡ sum_to n f +ℤ d = sum_one n f g y d (omega arith) e h in
          let k : g n ≡ f n = h n (λ z. r (sym z)) in
          omega (arith, ints)
    ]

-- ---- one quantity at one area

at_yes : (k x q : ℕ) → only_at k x q k x ≡ q
at_yes k x q = cond-true _ q 0 (and_from (eqb k k) (eqb x x) (eq-eqb k k refl) (eq-eqb x x refl))

at_contract : (k x q c a : ℕ) → (c ≡ k → ⊥) → only_at k x q c a ≡ 0
at_contract k x q c a n = cond-false _ q 0 (and_left (eqb k c) (eqb x a) (ne_eqb k c (λ e. n (sym e))))

at_area : (k x q c a : ℕ) → (a ≡ x → ⊥) → only_at k x q c a ≡ 0
at_area k x q c a n = cond-false _ q 0 (and_right (eqb k c) (eqb x a) (ne_eqb x a (λ e. n (sym e))))

-- ---- one take

-- the summand of net_out
abbrev part : Capacity → ℕ → ℕ → ℕ → ℤ
part m c a b = cond (m.joins a b) (m.net c a b) (pos 0)

module _ (m : Capacity) (k x y q : ℕ) where
  abbrev after : Capacity
  after = taken m k x y q

  part_same : (c a b : ℕ) → after.net c a b ≡ m.net c a b → part after c a b ≡ part m c a b
  part_same c a b e = λ i. cond (m.joins a b) (e i) (pos 0)

  out_same : (c a : ℕ) → ((b : ℕ) → after.net c a b ≡ m.net c a b) → net_out after c a ≡ net_out m c a
  out_same c a h = sum_same 16 (part m c a) (part after c a) (λ b _. part_same c a b (h b))

  stands : (c a b : ℕ) → (c ≡ k → a ≡ x → b ≡ y → ⊥) → (c ≡ k → a ≡ y → b ≡ x → ⊥) → after.net c a b ≡ m.net c a b
  stands c a b n o = net_else m k x y q c a b (other_way k x y c a b n) (other_way k y x c a b o)

  module _ (net : Net m.joins) (j : m.joins x y ≡ true) where
    out_from : net_out after k x ≡ net_out m k x +ℤ pos q
    out_from =
        sum_one 16 (part m k x) (part after k x) y (pos q) (omega (arith, (net.areas x y j).1))
        (rw j (put_there m.net k x y (m.net k x y +ℤ pos q) (m.net k y x -ℤ pos q)))
        (λ b n. part_same k x b (stands k x b (λ _ _ e. n e) (λ _ e _. net.apart x y j e)))

    out_to : net_out after k y ≡ net_out m k y -ℤ pos q
    out_to =
        sum_one 16 (part m k y) (part after k y) x (pos 0 -ℤ pos q) (omega (arith, (net.areas x y j).0)) back
        (λ b n. part_same k y b (stands k y b (λ _ e _. net.apart x y j (sym e)) (λ _ _ e. n e)))
        ∙ minus (net_out m k y) (pos q)
      where
        minus : (z w : ℤ) → z +ℤ (pos 0 -ℤ w) ≡ z -ℤ w
        minus z w = omega (arith, ints)

        back : part after k y x ≡ part m k y x +ℤ (pos 0 -ℤ pos q)
        back = rw (net.both_join x y, j) (put_back m.net k x y (m.net k x y +ℤ pos q) (m.net k y x -ℤ pos q) (net.apart x y j) ∙ sym (minus (m.net k y x) (pos q)))

    pub take_moves : Moved m after k x y q
    take_moves c a =
        elim (cases_eq c k) [
          | inr n ↦ sums _ _ _ _ (at_contract k x q c a n) (at_contract k y q c a n) (out_same c a (λ b. stands c a b (λ e _ _. n e) (λ e _ _. n e)))
          | inl e ↦ subst Here (sym e) (elim (cases_eq a x) [
            | inl f ↦ subst (λ z. net_out after k z +ℤ pos (only_at k y q k z) ≡ net_out m k z +ℤ pos (only_at k x q k z)) (sym f)
                (from-sum _ _ _ _ q (at_yes k x q) (at_area k y q k x (net.apart x y j)) out_from)
            | inr f ↦ elim (cases_eq a y) [
              | inl h ↦ subst (λ z. net_out after k z +ℤ pos (only_at k y q k z) ≡ net_out m k z +ℤ pos (only_at k x q k z)) (sym h)
                  (to-sum _ _ _ _ q (at_yes k y q) (at_area k x q k y (λ z. net.apart x y j (sym z))) out_to)
              | inr h ↦ sums _ _ _ _ (at_area k x q k a f) (at_area k y q k a h) (out_same k a (λ b. stands k a b (λ _ z _. f z) (λ _ z _. h z)))
            ]
          ])
        ]
      where
        Here : ℕ → Type 0
        Here z = net_out after z a +ℤ pos (only_at k y q z a) ≡ net_out m z a +ℤ pos (only_at k x q z a)

        sums : (u v : ℤ) (p r : ℕ) → p ≡ 0 → r ≡ 0 → u ≡ v → u +ℤ pos r ≡ v +ℤ pos p
        sums u v p r e f g = omega (arith, ints)

        from-sum : (u v : ℤ) (p r n : ℕ) → p ≡ n → r ≡ 0 → u ≡ v +ℤ pos n → u +ℤ pos r ≡ v +ℤ pos p
        from-sum u v p r n e f g = omega (arith, ints)

        to-sum : (u v : ℤ) (p r n : ℕ) → r ≡ n → p ≡ 0 → u ≡ v -ℤ pos n → u +ℤ pos r ≡ v +ℤ pos p
        to-sum u v p r n e f g = omega (arith, ints)

-- ---- a trade

module _ (k q : ℕ) where
  -- the takes leave the connectors as they are, so that those of n serve for each
  moves_on : (n : Capacity) → Net n.joins → (m : Capacity) → m.joins ≡ n.joins → (d x y : ℕ) (xs : List ℕ) → Onward (OpenIn n d) x y xs → Moved m (carried_on k q m x xs) k x y q
  moves_on n net m e d x y [] o c a = subst (λ z. net_out m c a +ℤ pos (only_at k z q c a) ≡ net_out m c a +ℤ pos (only_at k x q c a)) o refl
  moves_on n net m e d x y (b ∷ xs) o c a =
      moves_on n net (taken m k x b q) e d b y xs o.1 c a
      ∙ take_moves m k x b q (subst Net (sym e) net) (subst (λ z. z x b ≡ true) (sym e) (open_parts n d x b o.0.2).1) c a

-- a trade from x to y moves its quantity from the one to the other, and nothing between
pub carried_moves : (m : Capacity) → Net m.joins → (k q x y : ℕ) (xs : List ℕ) → Path (OpenIn m k) x y xs → Moved m (carried m k q xs) k x y q
carried_moves m net k q x y [] p = absurd p.0
carried_moves m net k q x y (a ∷ xs) p =
    subst (λ i. Moved m (carried m k q (a ∷ xs)) k i y q) p.0.1 (moves_on k q m net m refl k a y xs p.0.2)
