-- Lists gathered over the numbers below one.
use Rattle.std.proofs.Common.{◌≡◌, ℕ, zero, suc, ◌+◌, ◌*◌, ◌/◌, ◌%◌, ◌<◌, ◌≤◌, List, ◌++◌, sym, refl, ap, ◌∙◌, subst, inl, inr, arith}
use Rattle.std.specs.List.{ContainsAt as Has}
use Rattle.std.proofs.ByRecursion.{has_append_left, has_append_right}
use Rattle.std.proofs.lemmas.Bool.{cases_lt}
use Rattle.std.proofs.lemmas.List.{append_assoc}
use Rattle.views.specs.Gathered.{line_if, each_below, Gathered}

module _ {A : Type 0} (f : ℕ → List A) where
  one_below : (k : ℕ) → each_below (suc k) f ≡ f k ++ each_below k f
  unfolding each_below
  one_below k = refl

  pub below_has : (k n : ℕ) (x : A) → k < n → Has (f k) x → Has (each_below n f) x
  below_has k zero x l h = absurd (omega arith)
  below_has k (suc n) x l h =
      subst (λ (ys : List A). Has ys x) (sym (one_below n)) (elim (cases_lt k n) [
        | inl b ↦ has_append_right (f n) (each_below n f) x (below_has k n x b h)
        | inr b ↦ let e : k ≡ n = omega arith in has_append_left (f n) (each_below n f) x (subst (λ (i : ℕ). Has (f i) x) e h)
      ])

  -- where what is shown at a place is what f gives there
  pub gathered_below : (n : ℕ) (xs : List A) → Gathered (λ i o. line_if o ≡ f i) n xs → xs ≡ each_below n f
  unfolding each_below Gathered
  gathered_below zero xs g = g
  gathered_below (suc n) xs g = g.4 ∙ ap (λ ys. ys ++ g.1) g.2 ∙ ap (λ ys. f n ++ ys) (gathered_below n g.1 g.3)

-- sixteen places for each number, gathered as rows of sixteen
module _ {A : Type 0} (g : ℕ → ℕ → List A) where
  abbrev at : ℕ → List A
  at i = g (i / 16) (i % 16)

  row : (a b : ℕ) → b ≤ 16 → each_below (16 * a + b) at ≡ each_below b (g a) ++ each_below (16 * a) at
  unfolding each_below
  row a zero l = let none : 16 * a + 0 ≡ 16 * a = omega arith in ap (λ n. each_below n at) none
  row a (suc b) l =
      let first : (16 * a + b) / 16 ≡ a = omega arith in
      let second : (16 * a + b) % 16 ≡ b = omega arith in
      let here : at (16 * a + b) ≡ g a b = ap (λ k. g k ((16 * a + b) % 16)) first ∙ ap (g a) second in
      let next : 16 * a + suc b ≡ suc (16 * a + b) = omega arith in
      ap (λ n. each_below n at) next ∙ one_below at (16 * a + b) ∙ ap (λ ys. ys ++ each_below (16 * a + b) at) here ∙ ap (λ ys. g a b ++ ys) (row a b (omega arith)) ∙ sym (append_assoc (g a b) _ _)

  pub rows : (a : ℕ) → each_below (16 * a) at ≡ each_below a (λ k. each_below 16 (g k))
  unfolding each_below
  rows zero = refl
  rows (suc a) =
      let more : 16 * suc a ≡ 16 * a + 16 = omega arith in
      ap (λ n. each_below n at) more ∙ row a 16 (omega arith) ∙ ap (λ ys. each_below 16 (g a) ++ ys) (rows a)
