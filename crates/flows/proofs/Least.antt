-- What an open route can carry is the least of the quantity and the ATCs along it, and never nought.
use Rattle.std.proofs.Common.{◌≡◌, ℕ, ◌≤◌, min, List, [], ◌∷◌, ℤ, pos, ◌≤ℤ◌, sym, refl, ap, ◌∙◌, subst, arith}
use Rattle.std.proofs.lemmas.Int.{ints, clamps}
use Rattle.std.specs.Int.{int_min}
use Rattle.std.specs.Int.Signed.{≤ℤ_refl}
use Rattle.capacity.specs.Meaning.{Capacity, atc}
use Rattle.routes.specs.Paths.{Onward, Path}
use Rattle.flows.specs.Flows.{OpenIn, flow, min_flow, least_flow, least, Carries}
use Rattle.flows.specs.Hops.{onward, EachOnward}
use Rattle.flows.proofs.Opened.{open_parts, flow_open}

min_pos : (n k : ℕ) (z : ℤ) → pos k ≡ z → pos (min n k) ≡ int_min (pos n) z
min_pos n k z e = omega (arith, ints, clamps)

min_left : (z u w : ℤ) → z ≤ℤ int_min u w → z ≤ℤ u
min_left z u w h = omega (arith, ints, clamps)

min_right : (z u w : ℤ) → z ≤ℤ int_min u w → z ≤ℤ w
min_right z u w h = omega (arith, ints, clamps)

min_from : (z u w : ℤ) → z ≤ℤ u → z ≤ℤ w → z ≤ℤ int_min u w
min_from z u w h k = omega (arith, ints, clamps)

module _ (m : Capacity) (c : ℕ) where
  -- the least, from a through the areas of a list
  abbrev pub least_on : ℤ → ℕ → List ℕ → ℤ
  least_on = onward (λ y a b. int_min y (atc m c a b))

  abbrev pub flow_on : ℕ → ℕ → List ℕ → ℕ
  flow_on = onward (min_flow m c)

  -- each ATC from a through the list is at least q
  abbrev pub EnoughOn : ℕ → ℕ → List ℕ → Type 0
  EnoughOn q = EachOnward (λ a b. pos q ≤ℤ atc m c a b)

  flow_least : (n a q : ℕ) (xs : List ℕ) → Onward (OpenIn m c) a q xs → pos (flow_on n a xs) ≡ least_on (pos n) a xs
  flow_least n a q [] o = refl
  flow_least n a q (b ∷ xs) o =
      flow_least (min n (flow m c a b)) b q xs o.1 ∙ ap (λ z. least_on z b xs) (min_pos n (flow m c a b) (atc m c a b) (flow_open m c a b o.0.2))

  pub least_is : (n x y : ℕ) (xs : List ℕ) → Path (OpenIn m c) x y xs → pos (least_flow m c n xs) ≡ least m c (pos n) xs
  least_is n x y [] p = absurd p.0
  least_is n x y (a ∷ xs) p = flow_least n a y xs p.0.2

  pub least_low : (q : ℕ) (z : ℤ) (a : ℕ) (xs : List ℕ) → pos q ≤ℤ least_on z a xs → (pos q ≤ℤ z) × EnoughOn q a xs
  least_low q z a [] h = (h, tt)
  least_low q z a (b ∷ xs) h =
      let r = least_low q (int_min z (atc m c a b)) b xs h in
      (min_left (pos q) z (atc m c a b) r.0, (min_right (pos q) z (atc m c a b) r.0, r.1))

  some_on : (z : ℤ) (a q : ℕ) (xs : List ℕ) → pos 1 ≤ℤ z → Onward (OpenIn m c) a q xs → pos 1 ≤ℤ least_on z a xs
  some_on z a q [] h o = h
  some_on z a q (b ∷ xs) h o = some_on (int_min z (atc m c a b)) b q xs (min_from (pos 1) z (atc m c a b) h (open_parts m c a b o.0.2).2) o.1

  pub least_some : (n x y : ℕ) (xs : List ℕ) → Path (OpenIn m c) x y xs → 1 ≤ n → pos 1 ≤ℤ least m c (pos n) xs
  least_some n x y [] p l = absurd p.0
  least_some n x y (a ∷ xs) p l = some_on (pos n) a y xs (omega (arith, ints)) p.0.2

  pub least_most : (n q x y : ℕ) (xs : List ℕ) → Path (OpenIn m c) x y xs → pos q ≤ℤ least m c (pos n) xs → q ≤ n
  least_most n q x y [] p h = absurd p.0
  least_most n q x y (a ∷ xs) p h = let r = (least_low q (pos n) a xs h).0 in omega (arith, ints)

  -- the least of a quantity and the ATCs can be carried
  pub least_carries : (n q x y : ℕ) (xs : List ℕ) → q ≡ least_flow m c n xs → Path (OpenIn m c) x y xs → 1 ≤ n → n ≤ 99999 → Carries m c x y n q xs
  least_carries n q x y xs e p l k =
      let is : pos q ≡ least m c (pos n) xs = ap pos e ∙ least_is n x y xs p in
      let fits : pos q ≤ℤ least m c (pos n) xs = subst (λ z. pos q ≤ℤ z) is (≤ℤ_refl (pos q)) in
      let some : pos 1 ≤ℤ pos q = subst (λ z. pos 1 ≤ℤ z) (sym is) (least_some n x y xs p l) in
      let most : q ≤ n = least_most n q x y xs p fits in
      record { path = p; some = omega (arith, ints); few = omega arith; fits = fits }
