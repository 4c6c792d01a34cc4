-- Lists of standing orders in which no number comes twice: what keeps them so, and that two of the same orders have the same open on each side.
use Rattle.std.proofs.Common.{◌≡◌, ℕ, ◌+◌, Bool, true, false, cond, not, List, [], ◌∷◌, ◌++◌, map, filter, sym, refl, ap, ◌∙◌, subst, inl, inr, arith}
use Rattle.std.specs.List.{AllByRecursion}
use Rattle.std.proofs.ByRecursion.{All-map, All-push}
use Rattle.std.proofs.lemmas.Bool.{cond-true, cond-false, eq-eqb, ne_eqb, not-true, not_from_true, not_from_false, eqb-false}
use Rattle.std.proofs.lemmas.List.{map-append}
use Rattle.book.specs.declared.rows.Side.{Side}
use Rattle.routes.specs.Paths.{NoRepeat}
use Rattle.history.specs.Standing.{◌∈◌, Standing, has_number, open_on}
use Rattle.history.proofs.Bound.{share}
use Rattle.history.proofs.Members.{in_kept, kept_in, map_in}
use Rattle.history.proofs.Numbered.{all_in, in_all, kept_all}

abbrev number : Standing → ℕ
number x = x.given.number

abbrev pub numbers : List Standing → List ℕ
numbers = map (λ x. x.given.number)

-- ---- what keeps them so

kept_few : (P : ℕ → Type 0) (p : Standing → Bool) (l : List Standing) → AllByRecursion P (numbers l) → AllByRecursion P (numbers (filter p l))
kept_few P p [] h = tt
kept_few P p (x ∷ l) h = by_case (p x) (kept_few P p l h.1)
  where
    by_case : (b : Bool) → AllByRecursion P (numbers (filter p l)) → AllByRecursion P (numbers (cond b (x ∷ filter p l) (filter p l)))
    by_case true g = (h.0, g)
    by_case false g = g

pub once_kept : (p : Standing → Bool) (l : List Standing) → NoRepeat (numbers l) → NoRepeat (numbers (filter p l))
once_kept p [] h = tt
once_kept p (x ∷ l) h = by_case (p x) (once_kept p l h.1)
  where
    by_case : (b : Bool) → NoRepeat (numbers (filter p l)) → NoRepeat (numbers (cond b (x ∷ filter p l) (filter p l)))
    by_case true g = (kept_few _ p l h.0, g)
    by_case false g = g

-- a change that leaves numbers
pub once_same : (f : Standing → Standing) → ((x : Standing) → number (f x) ≡ number x) → (l : List Standing) → NoRepeat (numbers l) → NoRepeat (numbers (map f l))
once_same f same l h = subst NoRepeat (sym (all_same l)) h
  where
    all_same : (l : List Standing) → numbers (map f l) ≡ numbers l
    all_same [] = refl
    all_same (x ∷ l) = λ i. same x i ∷ all_same l i

no_repeat_push : (xs : List ℕ) (n : ℕ) → NoRepeat xs → AllByRecursion (λ k. k ≡ n → ⊥) xs → NoRepeat (xs ++ n ∷ [])
no_repeat_push [] n d h = (tt, tt)
no_repeat_push (x ∷ xs) n d h = (All-push (λ k. k ≡ x → ⊥) xs n d.0 (λ e. h.0 (sym e)), no_repeat_push xs n d.1 h.1)

pub once_push : (l : List Standing) (x : Standing) → NoRepeat (numbers l) → ((w : Standing) → w ∈ l → number w ≡ number x → ⊥) → NoRepeat (numbers (l ++ x ∷ []))
once_push l x d f =
    subst NoRepeat (sym (map-append number l (x ∷ [])))
    (no_repeat_push (numbers l) (number x) d (All-map (λ k. k ≡ number x → ⊥) number l (in_all _ l f)))

-- ---- the same open

abbrev others : ℕ → List Standing → List Standing
others n = filter (λ w. not (has_number n w))

-- the first of a list has a number that no later one has
first_differs : (x y : Standing) (l : List Standing) → NoRepeat (numbers (y ∷ l)) → x ∈ l → number x ≡ number y → ⊥
first_differs x y l d i e = all_in _ (numbers l) d.0 (number x) (map_in number x l i) e

keeps_other : (n : ℕ) (x : Standing) → (number x ≡ n → ⊥) → not (has_number n x) ≡ true
keeps_other n x h = not_from_false (has_number n x) (ne_eqb (number x) n h)

module _ (c : ℕ) (d : Side) where
  -- one order apart
  apart : (x : Standing) (l : List Standing) → x ∈ l → NoRepeat (numbers l) → open_on c d l ≡ share c d x + open_on c d (others (number x) l)
  apart x [] i h = absurd i
  apart x (y ∷ l) i h =
      elim i [
        | inl e ↦
            let gone : others (number x) (y ∷ l) ≡ l =
            cond-false _ (y ∷ others (number x) l) (others (number x) l) (not_from_true _ (eq-eqb (number y) (number x) (ap number e)))
            ∙ kept_all _ l (in_all _ l (λ w j. keeps_other (number x) w (λ f. first_differs w y l h j (f ∙ ap number (sym e))))) in
            ap (λ w. share c d w + open_on c d l) e ∙ ap (λ r. share c d x + open_on c d r) (sym gone)
        | inr j ↦
            let kept : others (number x) (y ∷ l) ≡ y ∷ others (number x) l =
            cond-true _ (y ∷ others (number x) l) (others (number x) l) (keeps_other (number x) y (λ f. first_differs x y l h j (sym f))) in
            let rest = apart x l j h.1 in
            rw kept (omega (arith, rest))
      ]

  pub one_sum : (k l : List Standing) → NoRepeat (numbers k) → NoRepeat (numbers l) → ((x : Standing) → x ∈ k → x ∈ l) → ((x : Standing) → x ∈ l → x ∈ k) → open_on c d k ≡ open_on c d l
  one_sum [] [] h g to from = refl
  one_sum [] (y ∷ l) h g to from = absurd (from y (inl refl))
  one_sum (x ∷ k) l h g to from =
      let i = to x (inl refl) in
      ap (λ z. share c d x + z) (one_sum k (others (number x) l) h.1 (once_kept _ l g)
      (λ w j. kept_in _ w l (to w (inr j)) (keeps_other (number x) w (first_differs w x k h j)))
      (λ w j.
      let v = in_kept _ w l j in
      elim (from w v.0) [
        | inl e ↦ absurd (eqb-false (number w) (number x) (not-true _ v.1) (ap number (sym e)))
        | inr q ↦ q
      ]))
      ∙ sym (apart x l i g)
