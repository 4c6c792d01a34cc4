-- A trade along a route opens nothing but ways back along it, and nothing in other contracts.
use Rattle.std.proofs.Common.{◌≡◌, ℕ, ◌&&◌, leb, ◌⊎◌, List, [], ◌∷◌, ℤ, pos, ◌+ℤ◌, ◌-ℤ◌, ◌≤ℤ◌, sym, refl, ap, ◌∙◌, subst, inl, inr, arith}
use lib.Signed.{le_z}
use mathlib.Core.Path.{fun_ext}
use Rattle.std.proofs.lemmas.Int.{ints}
use Rattle.std.proofs.lemmas.Bool.{cases_Bool}
use Rattle.capacity.proofs.Puts.{same_way, put_there}
use Rattle.capacity.specs.Directions.{is_way_in}
use Rattle.capacity.specs.Meaning.{Capacity, taken}
use Rattle.routes.proofs.Reached.{reaching}
use Rattle.routes.specs.Laws.{Reach}
use Rattle.routes.specs.Paths.{Area, Relation, Hop, Onward, Walk, Path}
use Rattle.flows.specs.Flows.{open_in, OpenIn, carried}
use Rattle.flows.specs.Traded.{OnlyBack}
use Rattle.flows.proofs.Granted.{carried_on}
use Rattle.flows.proofs.Opened.{open_parts, parts_open}
use Rattle.flows.proofs.Taken.{net_else, atc_contract}

-- each hop after was there before, or led back from an area that reaches q to one that p reaches
module _ (O P : Relation) (p q : ℕ) (new : (u v : ℕ) → Hop P u v → Hop O u v ⊎ (Reach O u q × Reach O p v)) where
  onward_either : (a b : ℕ) (xs : List ℕ) → Area a → Onward P a b xs → Reach O a b ⊎ (Reach O a q × Reach O p b)
  onward_either a b [] l h = inl (subst (λ z. Reach O a z) h ((reaching O).here a l))
  onward_either a b (x ∷ xs) l h =
      elim (new a x h.0) [
        | inl o ↦ elim (onward_either x b xs h.0.1 h.1) [
          | inl r ↦ inl ((reaching O).join a x b ((reaching O).hop a x o) r)
          | inr r ↦ inr ((reaching O).join a x q ((reaching O).hop a x o) r.0, r.1)
        ]
        | inr n ↦ elim (onward_either x b xs h.0.1 h.1) [
          | inl r ↦ inr (n.0, (reaching O).join p x b n.1 r)
          | inr r ↦ inr (n.0, r.1)
        ]
      ]

  walk_either : (a b : ℕ) (xs : List ℕ) → Walk P a b xs → Reach O a b ⊎ (Reach O a q × Reach O p b)
  walk_either a b [] w = absurd w
  walk_either a b (x ∷ xs) w = subst (λ z. Reach O z b ⊎ (Reach O z q × Reach O p b)) w.1 (onward_either x b xs w.0 w.2)

-- ---- one take

module _ (m : Capacity) (k x y q : ℕ) where
  abbrev after : Capacity
  after = taken m k x y q

  -- a take lowers no net use but the one back
  net_raised : (c a b : ℕ) → ((a ≡ y) × (b ≡ x)) ⊎ (m.net c a b ≤ℤ after.net c a b)
  net_raised c a b =
      elim (cases_Bool (is_way_in k y x c a b)) [
        | inl h ↦ let s = same_way k y x c a b h in inl (s.1, s.2)
        | inr h ↦ elim (cases_Bool (is_way_in k x y c a b)) [
          | inl g ↦ let s = same_way k x y c a b g in inr (rw (s.0, s.1, s.2) (up (m.net k x y) (after.net k x y) (put_there m.net k x y (m.net k x y +ℤ pos q) (m.net k y x -ℤ pos q))))
          | inr g ↦ inr (level (m.net c a b) (after.net c a b) (net_else m k x y q c a b g h))
        ]
      ]
    where
      up : (u w : ℤ) → w ≡ u +ℤ pos q → u ≤ℤ w
      up u w e = omega (arith, ints)

      level : (u w : ℤ) → w ≡ u → u ≤ℤ w
      level u w e = omega (arith, ints)

  pub take_opens : (c a b : ℕ) → OpenIn after c a b → OpenIn m c a b ⊎ ((a ≡ y) × (b ≡ x))
  take_opens c a b o =
      let r = open_parts after c a b o in
      elim (net_raised c a b) [
        | inl e ↦ inr e
        | inr l ↦ inl (parts_open m c a b r.0 r.1 (lower ((pos (m.ntc c a b) -ℤ pos (m.aac c a b)) +ℤ pos (m.aac c b a)) (pos (m.held c a b)) (m.net c a b) (after.net c a b) r.2 l))
      ]
    where
      lower : (n h u w : ℤ) → pos 1 ≤ℤ (n -ℤ (h +ℤ w)) → u ≤ℤ w → pos 1 ≤ℤ (n -ℤ (h +ℤ u))
      lower n h u w p r = omega (arith, ints)

  pub take_elsewhere : (c : ℕ) → (c ≡ k → ⊥) → open_in after c ≡ open_in m c
  take_elsewhere c n = fun_ext (λ a. fun_ext (λ b. ap (λ z. leb c 23 && (m.joins a b && le_z (pos 1) z)) (atc_contract m k x y q c a b n)))

-- ---- a trade

-- u to v is a hop of the list from a, the other way
abbrev Back : ℕ → List ℕ → ℕ → ℕ → Type 0
Back a [] u v = ⊥
Back a (b ∷ xs) u v = ((u ≡ b) × (v ≡ a)) ⊎ Back b xs u v

module _ (c q : ℕ) where
  carried_opens : (m : Capacity) (a : ℕ) (xs : List ℕ) (u v : ℕ) → OpenIn (carried_on c q m a xs) c u v → OpenIn m c u v ⊎ Back a xs u v
  carried_opens m a [] u v o = inl o
  carried_opens m a (b ∷ xs) u v o =
      elim (carried_opens (taken m c a b q) b xs u v o) [
        | inl h ↦ elim (take_opens m c a b q c u v h) [ inl g ↦ inl g | inr g ↦ inr (inl g) ]
        | inr h ↦ inr (inr h)
      ]

  elsewhere_on : (m : Capacity) (a : ℕ) (xs : List ℕ) (k : ℕ) → (k ≡ c → ⊥) → open_in (carried_on c q m a xs) k ≡ open_in m k
  elsewhere_on m a [] k n = refl
  elsewhere_on m a (b ∷ xs) k n = elsewhere_on (taken m c a b q) b xs k n ∙ take_elsewhere m c a b q k n

back_reach : (O : Relation) (p a y : ℕ) (xs : List ℕ) (u v : ℕ) → Area a → Reach O p a → Onward O a y xs → Back a xs u v → Reach O u y × Reach O p v
back_reach O p a y [] u v l r o h = absurd h
back_reach O p a y (b ∷ xs) u v l r o h =
    elim h [
      | inl e ↦ (subst (λ z. Reach O z y) (sym e.0) (b ∷ xs, (o.0.1, refl, o.1)), subst (λ z. Reach O p z) (sym e.1) r)
      | inr g ↦ back_reach O p b y xs u v o.0.1 ((reaching O).join p a b r ((reaching O).hop a b o.0)) o.1 g
    ]

pub carried_only_back : (m : Capacity) (c q x y : ℕ) (xs : List ℕ) → Path (OpenIn m c) x y xs → OnlyBack m (carried m c q xs) c x y
carried_only_back m c q x y [] p a b r = absurd p.0
carried_only_back m c q x y (z ∷ xs) p a b r =
    walk_either (OpenIn m c) (OpenIn (carried m c q (z ∷ xs)) c) x y
    (λ u v o. elim (carried_opens c q m z xs u v o.2) [
      | inl h ↦ inl (o.0, o.1, h)
      | inr h ↦ inr (back_reach (OpenIn m c) x z y xs u v p.0.0 (z ∷ [], (p.0.0, p.0.1, refl)) p.0.2 h)
    ])
    a b r.0 r.1

pub carried_elsewhere : (m : Capacity) (c q : ℕ) (xs : List ℕ) (k : ℕ) → (k ≡ c → ⊥) → open_in (carried m c q xs) k ≡ open_in m k
carried_elsewhere m c q [] k n = refl
carried_elsewhere m c q (a ∷ xs) k n = elsewhere_on c q m a xs k n
