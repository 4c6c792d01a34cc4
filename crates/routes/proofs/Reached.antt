-- The laws of reaching: loops are cut out of a walk, and walks are joined.
use Rattle.std.proofs.Common.{◌≡◌, ℕ, ◌⊎◌, List, [], ◌∷◌, ◌++◌, sym, refl, ap, subst, inl, inr}
use Rattle.std.specs.List.{AllByRecursion}
use Rattle.std.proofs.lemmas.Bool.{cases_eq}
use Rattle.routes.specs.Paths.{Area, Relation, Hop, Onward, Walk, NoRepeat, Path}
use Rattle.routes.specs.Laws.{Reach, ReachLaws}

module _ (O : Relation) where
  -- a path that comes through a has a path from a in it
  cut : (a q x : ℕ) (xs : List ℕ) → Area a → Onward O x q xs → NoRepeat (x ∷ xs) → AllByRecursion (λ y. y ≡ a → ⊥) (x ∷ xs) ⊎ ((zs : List ℕ) × Path O a q zs)
  cut a q x [] l o u = elim (cases_eq x a) [
    | inl e ↦ inr (x ∷ [], ((subst Area (sym e) l, e, o), u))
    | inr n ↦ inl (n, tt)
  ]
  cut a q x (y ∷ ys) l o u = elim (cases_eq x a) [
    | inl e ↦ inr (x ∷ y ∷ ys, ((subst Area (sym e) l, e, o), u))
    | inr n ↦ elim (cut a q y ys l o.1 u.1) [ inl h ↦ inl (n, h) | inr r ↦ inr r ]
  ]

  -- a hop before a path
  before : (a b q : ℕ) (ys : List ℕ) → Hop O a b → Path O b q ys → (zs : List ℕ) × Path O a q zs
  before a b q [] o h = absurd h.0
  before a b q (y ∷ ys) o h =
      elim (cut a q y ys o.0 h.0.2 h.1) [
        | inl n ↦ (a ∷ y ∷ ys, ((o.0, refl, (subst (λ z. Hop O a z) (sym h.0.1) o, h.0.2)), (n, h.1)))
        | inr r ↦ r
      ]

  onward_path : (a q : ℕ) (xs : List ℕ) → Area a → Onward O a q xs → (zs : List ℕ) × Path O a q zs
  onward_path a q [] l o = (a ∷ [], ((l, refl, o), (tt, tt)))
  onward_path a q (b ∷ xs) l o =
      let r = onward_path b q xs o.0.1 o.1 in
      before a b q r.0 o.0 r.1

  walk_path : (a q : ℕ) (xs : List ℕ) → Walk O a q xs → (zs : List ℕ) × Path O a q zs
  walk_path a q [] w = absurd w
  walk_path a q (x ∷ xs) w = subst (λ z. (zs : List ℕ) × Path O z q zs) w.1 (onward_path x q xs w.0 w.2)

  onward_join : (a b c : ℕ) (xs ys : List ℕ) → Onward O a b xs → Onward O b c ys → Onward O a c (xs ++ ys)
  onward_join a b c [] ys h k = subst (λ z. Onward O z c ys) (sym h) k
  onward_join a b c (x ∷ xs) ys h k = (h.0, onward_join x b c xs ys h.1 k)

  walk_join : (a b c : ℕ) (xs ys : List ℕ) → Walk O a b xs → Walk O b c ys → Reach O a c
  walk_join a b c [] ys h k = absurd h
  walk_join a b c (x ∷ xs) [] h k = absurd k
  walk_join a b c (x ∷ xs) (y ∷ ys) h k =
      (x ∷ (xs ++ ys), (h.0, h.1, onward_join x b c xs ys h.2 (subst (λ z. Onward O z c ys) k.1 k.2)))

  -- an area that comes later is the one that the list ends with, or stands before it
  ends_in : (a q : ℕ) (xs : List ℕ) → Onward O a q xs → AllByRecursion (λ b. b ≡ q → ⊥) (a ∷ xs) → ⊥
  ends_in a q [] o n = n.0 o
  ends_in a q (b ∷ xs) o n = ends_in b q xs o.1 n.1

  alone : (a : ℕ) (xs : List ℕ) → Path O a a xs → xs ≡ a ∷ []
  alone a [] h = absurd h.0
  alone a (x ∷ []) h = ap (λ z. z ∷ []) h.0.1
  alone a (x ∷ b ∷ xs) h =
      absurd (ends_in b x xs (subst (λ z. Onward O b z xs) (sym h.0.1) h.0.2.1) h.1.0)

  pub reaching : ReachLaws O
  reaching = record {
    here = λ a l. (a ∷ [], (l, refl, refl));
    hop = λ a b h. (a ∷ b ∷ [], (h.0, refl, (h, refl)));
    join = λ a b c h k. walk_join a b c h.0 k.0 h.1 k.1;
    path = λ a b h. walk_path a b h.0 h.1;
    walk = λ a b xs h. (xs, h.0);
    alone = alone;
  }
