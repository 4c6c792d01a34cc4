-- Laws of membership.
use Rattle.std.proofs.Common.{◌≡◌, Bool, true, false, cond, ◌⊎◌, List, [], ◌∷◌, ◌++◌, map, filter, sym, refl, ap, ◌∙◌, subst, inl, inr}
use Rattle.history.specs.Standing.{◌∈◌}

module _ {X : Type 0} where
  pub in_append : (x : X) (xs ys : List X) → x ∈ (xs ++ ys) → (x ∈ xs) ⊎ (x ∈ ys)
  in_append x [] ys h = inr h
  in_append x (y ∷ xs) ys h = elim h [ inl e ↦ inl (inl e) | inr g ↦ elim (in_append x xs ys g) [ inl k ↦ inl (inr k) | inr k ↦ inr k ] ]

  pub in_left : (x : X) (xs ys : List X) → x ∈ xs → x ∈ (xs ++ ys)
  in_left x [] ys h = absurd h
  in_left x (y ∷ xs) ys h = elim h [ inl e ↦ inl e | inr g ↦ inr (in_left x xs ys g) ]

  pub in_right : (x : X) (xs ys : List X) → x ∈ ys → x ∈ (xs ++ ys)
  in_right x [] ys h = h
  in_right x (y ∷ xs) ys h = inr (in_right x xs ys h)

  pub in_push : (x y : X) (xs : List X) → x ∈ (xs ++ y ∷ []) → (x ∈ xs) ⊎ (y ≡ x)
  in_push x y xs h = elim (in_append x xs (y ∷ []) h) [ inl g ↦ inl g | inr g ↦ elim g [ inl e ↦ inr e | inr z ↦ absurd z ] ]

  pub push_in : (y : X) (xs : List X) → y ∈ (xs ++ y ∷ [])
  push_in y xs = in_right y xs (y ∷ []) (inl refl)

  kept_in_cons : (p : X → Bool) (x y : X) (ys : List X) (t : Bool) → x ∈ cond t (y ∷ filter p ys) (filter p ys) → ((t ≡ true) × (y ≡ x)) ⊎ (x ∈ filter p ys)
  kept_in_cons p x y ys true h = elim h [ inl e ↦ inl (refl, e) | inr g ↦ inr g ]
  kept_in_cons p x y ys false h = inr h

  pub in_kept : (p : X → Bool) (x : X) (xs : List X) → x ∈ filter p xs → (x ∈ xs) × (p x ≡ true)
  in_kept p x [] h = absurd h
  in_kept p x (y ∷ ys) h =
      elim (kept_in_cons p x y ys (p y) h) [
        | inl e ↦ (inl e.1, ap p (sym e.1) ∙ e.0)
        | inr g ↦ (inr (in_kept p x ys g).0, (in_kept p x ys g).1)
      ]

  cons_kept : (p : X → Bool) (x y : X) (ys : List X) (t : Bool) → x ∈ filter p ys → x ∈ cond t (y ∷ filter p ys) (filter p ys)
  cons_kept p x y ys true h = inr h
  cons_kept p x y ys false h = h

  head_kept : (p : X → Bool) (x : X) (ys : List X) (t : Bool) → t ≡ true → x ∈ cond t (x ∷ filter p ys) (filter p ys)
  head_kept p x ys true e = inl refl
  head_kept p x ys false e = cc

  pub kept_in : (p : X → Bool) (x : X) (xs : List X) → x ∈ xs → p x ≡ true → x ∈ filter p xs
  kept_in p x [] h e = absurd h
  kept_in p x (y ∷ ys) h e =
      elim h [
        | inl g ↦ subst (λ z. z ∈ filter p (y ∷ ys)) g (head_kept p y ys (p y) (ap p g ∙ e))
        | inr g ↦ cons_kept p x y ys (p y) (kept_in p x ys g e)
      ]

module _ {X Y : Type 0} (f : X → Y) where
  pub in_map : (y : Y) (xs : List X) → y ∈ map f xs → (x : X) × (x ∈ xs) × (f x ≡ y)
  in_map y [] h = absurd h
  in_map y (x ∷ xs) h = elim h [ inl e ↦ (x, inl refl, e) | inr g ↦ let r = in_map y xs g in (r.0, inr r.1, r.2) ]

  pub map_in : (x : X) (xs : List X) → x ∈ xs → f x ∈ map f xs
  map_in x [] h = absurd h
  map_in x (y ∷ xs) h = elim h [ inl e ↦ inl (ap f e) | inr g ↦ inr (map_in x xs g) ]
