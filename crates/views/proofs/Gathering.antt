-- Lines gathered place after place: with one place more, that there is one list only, and that it grows.
use Rattle.std.proofs.Common.{◌≡◌, ℕ, zero, suc, ◌+◌, ◌≤◌, List, [], ◌++◌, length, Option, sym, refl, ap, ◌∙◌, subst, inl, inr, add-one, arith, length-append}
use Rattle.std.proofs.lemmas.Bool.{cases_lt}
use Rattle.views.specs.Gathered.{line_if, Gathered}

module _ {A : Type 0} (Shows : ℕ → Option A → Type 0) where
  pub gathered_none : Gathered Shows 0 []
  unfolding Gathered
  gathered_none = refl

  pub gathered_more : (k : ℕ) (o : Option A) (xs : List A) → Shows k o → Gathered Shows k xs → Gathered Shows (k + 1) (line_if o ++ xs)
  unfolding Gathered
  gathered_more k o xs h g = subst (λ (n : ℕ). Gathered Shows n (line_if o ++ xs)) (sym (add-one k)) (o, xs, h, g, refl)

  module _ (one : (k : ℕ) (u v : Option A) → Shows k u → Shows k v → u ≡ v) where
    pub one_list : (n : ℕ) (xs ys : List A) → Gathered Shows n xs → Gathered Shows n ys → xs ≡ ys
    unfolding Gathered
    one_list zero xs ys g h = g ∙ sym h
    one_list (suc n) xs ys g h =
        let same = one n g.0 h.0 g.2 h.2 in
        let rest : g.1 ≡ h.1 = one_list n g.1 h.1 g.3 h.3 in
        g.4 ∙ ap (λ (o : Option A). line_if o ++ g.1) same ∙ ap (λ (l : List A). line_if h.0 ++ l) rest ∙ sym h.4

    -- what is gathered at fewer places is no longer
    pub gathered_fits : (k n : ℕ) (xs ys : List A) → k ≤ n → Gathered Shows k xs → Gathered Shows n ys → length xs ≤ length ys
    unfolding Gathered
    gathered_fits k zero xs ys l g h = let e : k ≡ 0 = omega arith in omega (arith, ap length (one_list 0 xs ys (subst (λ (i : ℕ). Gathered Shows i xs) e g) h))
    gathered_fits k (suc n) xs ys l g h =
        elim (cases_lt k (suc n)) [
          | inl b ↦ omega (arith, gathered_fits k n xs h.1 (omega arith) g h.3, ap length h.4, length-append (line_if h.0) h.1)
          | inr b ↦ let e : k ≡ suc n = omega arith in omega (arith, ap length (one_list (suc n) xs ys (subst (λ (i : ℕ). Gathered Shows i xs) e g) h))
        ]
