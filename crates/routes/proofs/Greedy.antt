-- Going down the levels through the lowest area each time gives the route.
use Rattle.std.proofs.Common.{◌≡◌, ℕ, ◌+◌, ◌-◌, ◌<◌, ◌≢◌, List, [], ◌∷◌, ◌++◌, length, sym, refl, subst, inl, inr, append_assoc, append-nil, arith, length-append}
use Rattle.std.proofs.lemmas.Bool.{cases_eq, cases_order}
use Rattle.routes.specs.Levels.{lv, NoneOpen, LowestOpen, AllLevels}
use Rattle.routes.specs.Paths.{Area, Relation, Hop, Onward, Path, Lower, Before, IsRoute}
use Rattle.routes.proofs.Falls.{Falls, falls_path, falls_length, leads_back, onward_long}

-- no lower area than b that is open from a is a level lower
abbrev Lowest : Relation → List ℕ → ℕ → ℕ → Type 0
Lowest O d a b = (c : ℕ) → c < b → Hop O a c → lv d c + 1 ≡ lv d a → ⊥

abbrev pub Greedy : Relation → List ℕ → ℕ → ℕ → List ℕ → Type 0
Greedy O d q a [] = a ≡ q
Greedy O d q a (b ∷ rest) = Hop O a b × (lv d b + 1 ≡ lv d a) × Lowest O d a b × Greedy O d q b rest

module _ (O : Relation) (q : ℕ) (d : List ℕ) (f : AllLevels O q d) where
  greedy_falls : (a : ℕ) (xs : List ℕ) → Greedy O d q a xs → Falls O d q a xs
  greedy_falls a [] h = h
  greedy_falls a (b ∷ xs) h = (h.0, h.1, greedy_falls b xs h.3)

  greedy_length : (a : ℕ) (xs : List ℕ) → Greedy O d q a xs → length xs + 1 ≡ lv d a
  greedy_length a xs h = falls_length O q d f.first a xs (greedy_falls a xs h)

  greedy_lower : (a : ℕ) (xs ys : List ℕ) → Greedy O d q a xs → Onward O a q ys → length xs ≡ length ys → Lower xs ys
  greedy_lower a [] ys h w e = tt
  greedy_lower a (x ∷ xs) [] h w e = omega arith
  greedy_lower a (x ∷ xs) (y ∷ ys) h w e =
      let g : length xs + 1 ≡ lv d x = greedy_length x xs h.3 in
      let r = onward_long O q d f y ys w.1 in
      let s = leads_back O q d f a y w.0 r.0 in
      let k : lv d x + 1 ≡ lv d a = h.1 in
      let j : lv d y + 1 ≡ lv d a = omega (arith, r.1, s.1) in
      elim (cases_order x y) [
        | inl u ↦ inr (u, greedy_lower x xs ys h.3 (subst (λ z. Onward O z q ys) (sym u) w.1) (omega arith))
        | inr o ↦ elim o [
          | inl u ↦ inl u
          | inr u ↦ absurd (h.2 y u w.0 j)
        ]
      ]

  best : (p : ℕ) (xs ys : List ℕ) → Greedy O d q p xs → Path O p q ys → Before (p ∷ xs) ys
  best p xs [] h w = absurd w.0
  best p xs (y ∷ ys) h w =
      let g : length xs + 1 ≡ lv d p = greedy_length p xs h in
      let o : Onward O p q ys = subst (λ z. Onward O z q ys) w.0.1 w.0.2 in
      let r = onward_long O q d f p ys o in
      elim (cases_eq (length xs) (length ys)) [
        | inl e ↦ inr (omega arith, inr (sym w.0.1, greedy_lower p xs ys h o e))
        | inr n ↦ inl (omega (arith, r.1))
      ]

  greedy_route : (p : ℕ) (xs : List ℕ) → Area p → Greedy O d q p xs → IsRoute O p q (p ∷ xs)
  greedy_route p xs l h = (falls_path O q d p xs l (greedy_falls p xs h), λ ys w. best p xs ys h w)

-- the same, of the list with its first area
abbrev Starts : Relation → List ℕ → ℕ → ℕ → List ℕ → Type 0
Starts O d q p [] = ⊥
Starts O d q p (a ∷ rest) = Area a × (a ≡ p) × Greedy O d q a rest

-- what is written so far begins the route: whatever goes on from a goes on from it
pub record Begun (O : Relation) (d : List ℕ) (q p a : ℕ) (front : List ℕ) : Type 0 where
  pub levels : AllLevels O q d
  pub area : Area a
  pub some : 0 < lv d a
  pub long : length front + lv d a ≡ lv d p + 1
  pub grows : (rest : List ℕ) → Greedy O d q a rest → Starts O d q p (front ++ rest)

pub begun_first : (O : Relation) (d : List ℕ) (q p : ℕ) → AllLevels O q d → Area p → 0 < lv d p → Begun O d q p p (p ∷ [])
begun_first O d q p f l g = record { levels = f; area = l; some = g; long = omega arith; grows = λ rest h. (l, refl, h) }

module _ (O : Relation) (d : List ℕ) (q p a : ℕ) (front : List ℕ) (s : Begun O d q p a front) where
  above_one : a ≢ q → 1 < lv d a
  above_one n =
      let g : 0 < lv d a = s.some in
      let m : lv d a ≢ 1 = λ h. n (s.levels.only a s.area h) in
      omega arith

  -- short of q there is room for one more
  pub begun_room : a ≢ q → length front < 16
  begun_room n = omega (arith, above_one n, s.long, s.levels.most p)

  pub begun_on : a ≢ q → NoneOpen O d a (lv d a - 1) → ⊥
  begun_on n h =
      let g : 1 < lv d a = above_one n in
      let r = s.levels.onward a (lv d a - 2) s.area (omega arith) in
      h r.0 r.1 (omega (arith, r.2))

  pub begun_next : a ≢ q → (b : ℕ) → LowestOpen O d a (lv d a - 1) b → Begun O d q p b (front ++ b ∷ [])
  begun_next n b h =
      let g : 1 < lv d a = above_one n in
      let e : lv d b ≡ lv d a - 1 = h.level in
      record {
        levels = s.levels;
        area = h.opens.1;
        some = omega arith;
        long = simp length-append (omega (arith, s.long));
        grows = λ rest k. rw append_assoc (s.grows (b ∷ rest) (h.opens, omega arith, λ c l w j. h.lowest c l w (omega arith), k));
      }

  starts_route : (xs : List ℕ) → Starts O d q p xs → IsRoute O p q xs
  starts_route [] h = absurd h
  starts_route (x ∷ xs) h = subst (λ z. IsRoute O z q (x ∷ xs)) h.1 (greedy_route O q d s.levels x xs h.0 h.2)

  pub begun_all : a ≡ q → IsRoute O p q front
  begun_all e = starts_route front (rw append-nil at (s.grows [] e))
