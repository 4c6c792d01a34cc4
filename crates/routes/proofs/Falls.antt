-- Lists along which levels fall by one, and from them how long paths are.
use Rattle.std.proofs.Common.{◌≡◌, ℕ, zero, suc, ◌+◌, ◌<◌, ◌≤◌, List, [], ◌∷◌, length, refl, ap, inl, inr, arith}
use Rattle.std.specs.List.{AllByRecursion}
use Rattle.std.proofs.ByRecursion.{All-weaker}
use Rattle.std.proofs.lemmas.List.{get_or_past}
use Rattle.std.proofs.lemmas.Bool.{cases_lt}
use Rattle.routes.specs.Levels.{lv, Levels, AllLevels}
use Rattle.routes.specs.Paths.{Area, Relation, Hop, Onward, NoRepeat, Path, IsRoute, Size}
use Rattle.routes.proofs.Repeats.{few}

-- from a to q, each next area a level lower
abbrev pub Falls : Relation → List ℕ → ℕ → ℕ → List ℕ → Type 0
Falls O d q a [] = a ≡ q
Falls O d q a (b ∷ rest) = Hop O a b × (lv d b + 1 ≡ lv d a) × Falls O d q b rest

module _ (O : Relation) (q : ℕ) (d : List ℕ) where
  falls_onward : (a : ℕ) (xs : List ℕ) → Falls O d q a xs → Onward O a q xs
  falls_onward a [] h = h
  falls_onward a (b ∷ xs) h = (h.0, falls_onward b xs h.2)

  falls_less : (a n : ℕ) (xs : List ℕ) → lv d a ≤ n → Falls O d q a xs → AllByRecursion (λ b. lv d b < n) xs
  falls_less a n [] l h = tt
  falls_less a n (b ∷ xs) l h =
      let e : lv d b + 1 ≡ lv d a = h.1 in
      (omega arith, falls_less b n xs (omega arith) h.2)

  falls_apart : (a : ℕ) (xs : List ℕ) → Falls O d q a xs → NoRepeat (a ∷ xs)
  falls_apart a [] h = (tt, tt)
  falls_apart a (b ∷ xs) h = (
    All-weaker (λ c. lv d c < lv d a) (λ c. c ≡ a → ⊥) (λ c l e. let k : lv d c ≡ lv d a = ap (lv d) e in omega arith) (b ∷ xs) (falls_less a (lv d a) (b ∷ xs) (omega arith) h),
    falls_apart b xs h.2,
  )

  pub falls_path : (a : ℕ) (xs : List ℕ) → Area a → Falls O d q a xs → Path O a q (a ∷ xs)
  falls_path a xs l h = ((l, refl, falls_onward a xs h), falls_apart a xs h)

  falls_areas : (a : ℕ) (xs : List ℕ) → Falls O d q a xs → AllByRecursion Area xs
  falls_areas a [] h = tt
  falls_areas a (b ∷ xs) h = (h.0.1, falls_areas b xs h.2)

  module _ (first : lv d q ≡ 1) where
    pub falls_length : (a : ℕ) (xs : List ℕ) → Falls O d q a xs → length xs + 1 ≡ lv d a
    falls_length a [] h = let k : lv d a ≡ lv d q = ap (lv d) h in omega arith
    falls_length a (b ∷ xs) h =
        let r : length xs + 1 ≡ lv d b = falls_length b xs h.2 in
        let e : lv d b + 1 ≡ lv d a = h.1 in
        omega arith

    falls_some : (a : ℕ) (xs : List ℕ) → Falls O d q a xs → AllByRecursion (λ b. 0 < lv d b) (a ∷ xs)
    falls_some a [] h = (let k : lv d a ≡ lv d q = ap (lv d) h in omega arith, tt)
    falls_some a (b ∷ xs) h = (let e : lv d b + 1 ≡ lv d a = h.1 in omega arith, falls_some b xs h.2)

-- each area that has a level has such a list
module _ (O : Relation) (q : ℕ) (d : List ℕ) (top done : ℕ) (f : Levels O q d top done) where
  falls_from : (m a : ℕ) → Area a → lv d a ≡ suc m → (xs : List ℕ) × Falls O d q a xs
  falls_from zero a l e = ([], f.only a l e)
  falls_from (suc m) a l e =
      let r = f.onward a m l (omega arith) in
      let s = falls_from m r.0 r.1.1 (omega (arith, r.2)) in
      (r.0 ∷ s.0, (r.1, omega (arith, r.2), s.1))

-- sixteen levels are all: what leads to the sixteenth has a level, or seventeen areas would be different
module _ (O : Relation) (q : ℕ) (d : List ℕ) (f : Levels O q d 16 16) where
  last : (a b : ℕ) → Hop O a b → lv d b ≡ 16 → lv d a ≡ 0 → ⊥
  last a b o e z =
      let r = falls_from O q d 16 16 f 15 b o.1 e in
      let k : length r.0 + 1 ≡ lv d b = falls_length O q d f.first b r.0 r.1 in
      let v : AllByRecursion (λ c. c ≡ a → ⊥) (b ∷ r.0) = All-weaker (λ c. 0 < lv d c) (λ c. c ≡ a → ⊥) (λ c l g. let w : lv d c ≡ lv d a = ap (lv d) g in omega arith) (b ∷ r.0) (falls_some O q d f.first b r.0 r.1) in
      let w : length (a ∷ b ∷ r.0) ≤ 16 = few 16 (a ∷ b ∷ r.0) (v, falls_apart O q d b r.0 r.1) (o.0, (o.1, falls_areas O q d b r.0 r.1)) in
      omega arith

  back_all : (a b : ℕ) → Hop O a b → 0 < lv d b → lv d b < 17 → (0 < lv d a) × (lv d a ≤ lv d b + 1)
  back_all a b o l _ =
      elim (cases_lt (lv d b) 16) [
        | inl h ↦ f.back a b o l h
        | inr h ↦
            let e : lv d b ≡ 16 = omega (arith, f.most b) in
            let z : lv d a ≡ 0 → ⊥ = last a b o e in
            (omega arith, omega (arith, f.most a))
      ]

  pub all_found : AllLevels O q d
  all_found = record { size = f.size; goal = f.goal; first = f.first; only = f.only; most = f.most; onward = f.onward; back = back_all }

module _ (O : Relation) (q : ℕ) (d : List ℕ) (f : AllLevels O q d) where
  -- what leads to an area with a level has one, at most one higher
  pub leads_back : (a b : ℕ) → Hop O a b → 0 < lv d b → (0 < lv d a) × (lv d a ≤ lv d b + 1)
  leads_back a b o l = f.back a b o l (omega (arith, f.most b))

  -- no walk is shorter than its first area's level
  pub onward_long : (a : ℕ) (xs : List ℕ) → Onward O a q xs → (0 < lv d a) × (lv d a ≤ length xs + 1)
  onward_long a [] h = let k : lv d a ≡ lv d q = ap (lv d) h in let e : lv d q ≡ 1 = f.first in (omega arith, omega arith)
  onward_long a (b ∷ xs) h =
      let r = onward_long b xs h.1 in
      let s = leads_back a b h.0 r.0 in
      (s.0, omega (arith, s.1, r.1))

  path_long : (a : ℕ) (xs : List ℕ) → Path O a q xs → (0 < lv d a) × (lv d a ≤ length xs)
  path_long a [] h = absurd h.0
  path_long a (x ∷ xs) h =
      let k : lv d x ≡ lv d a = ap (lv d) h.0.1 in
      let r = onward_long x xs h.0.2 in
      (omega (arith, r.0), omega (arith, r.1))

  -- only areas have a level
  has_area : (a : ℕ) → 0 < lv d a → Area a
  has_area a g = elim (cases_lt a 16) [ inl l ↦ l | inr l ↦ absurd (omega (arith, get_or_past d a 0 (omega (arith, f.size)))) ]

  some_path : (a n : ℕ) → lv d a ≡ n → 0 < n → (xs : List ℕ) × Path O a q xs × (length xs ≡ lv d a)
  some_path a zero e g = absurd (omega arith)
  some_path a (suc m) e g =
      let l = has_area a (omega arith) in
      let r = falls_from O q d 16 17 f m a l e in
      let k : length r.0 + 1 ≡ lv d a = falls_length O q d f.first a r.0 r.1 in
      (a ∷ r.0, falls_path O q d a r.0 l r.1, omega arith)

  route_long : (a : ℕ) (xs : List ℕ) → IsRoute O a q xs → length xs ≡ lv d a
  route_long a xs h =
      let g = path_long a xs h.0 in
      let r = some_path a (lv d a) refl g.0 in
      let k : length r.0 ≡ lv d a = r.2 in
      elim (h.1 r.0 r.1) [
        | inl u ↦ absurd (omega (arith, g.1))
        | inr u ↦ omega (arith, u.0)
      ]

  pub size_found : (a : ℕ) → Size O a q (lv d a)
  size_found a = record {
    none = λ z xs h. let r = path_long a xs h in omega (arith, r.0);
    some = λ g. some_path a (lv d a) refl g;
    least = λ xs h. (path_long a xs h).1;
    route = λ xs h. route_long a xs h;
  }
