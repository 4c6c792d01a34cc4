-- A register of sides: pairs that exist, and a pair written.
use Rattle.std.proofs.Common.{◌≡◌, ℕ, ◌-◌, ◌≤◌, Bool, true, false, cond, ◌&&◌, leb, List, ℤ, pos, ◌-ℤ◌, sym, refl, ap, ◌∙◌}
use Rattle.std.proofs.lemmas.Bool.{and_parts, and_from, leb-true, le-leb}
use Rattle.capacity.specs.declared.side.Side.{Side}
use Rattle.capacity.specs.Directions.{is_way_in, put}
use Rattle.capacity.specs.Granted.{Served}
use Rattle.capacity.specs.Pairs.{Shows, paired}
use Rattle.capacity.specs.Sides.{no_side}
use Rattle.capacity.specs.Soundness.{linked_back, linked_areas, shown_on}
use Rattle.capacity.specs.Tables.{linked, on, shown, sided}
use Rattle.capacity.proofs.Pairs.{made_same}
use Rattle.capacity.proofs.Puts.{same_way, way_back, put_there, put_back, put_else, put_field, by_way, each}

-- ---- pairs that exist

pub on_known : (j : ℕ → ℕ → Bool) (c a b : ℕ) → c ≤ 23 → j a b ≡ true → on j c a b ≡ true
on_known j c a b h e = and_from (leb c 23) (j a b) (le-leb c 23 h) e

pub on_back : (js : List Bool) (c a b : ℕ) → on (linked js) c a b ≡ true → on (linked js) c b a ≡ true
on_back js c a b e = ap (λ t. leb c 23 && t) (linked_back js a b) ∙ e

pub on_served : (js : List Bool) (c a b : ℕ) → on (linked js) c a b ≡ true → Served (linked js) c a b
on_served js c a b e =
    let p = and_parts (leb c 23) (linked js a b) e in
    let q = linked_areas js a b p.1 in
    record { contract = leb-true c 23 p.0; from = q.0; to = q.1; apart = q.2; joined = p.1 }

-- a pair exists in each direction that is one of its two
pub on_way : (j : ℕ → ℕ → Bool) (k x y c a b : ℕ) → on j k x y ≡ true → is_way_in k x y c a b ≡ true → on j c a b ≡ true
on_way j k x y c a b h e = let s = same_way k x y c a b e in rw (s.0, s.1, s.2) h

-- ---- a pair read

pub sided_shows : (j : ℕ → ℕ → Bool) (s : ℕ → ℕ → ℕ → Side) (d : ℕ → ℕ → ℕ → Bool) (n c a b : ℕ) (u v : Side) → on j c a b ≡ true → on j c b a ≡ true → u ≡ s c a b → v ≡ s c b a → Shows (sided j s d n) c a b u v
sided_shows j s d n c a b u v o o' e f = rw (e ∙ sym (shown_on j s c a b o), f ∙ sym (shown_on j s c b a o')) record { ntc = refl; ntc_back = refl; aac = refl; aac_back = refl; net = refl; net_back = refl; free = refl }

-- ---- a pair written

-- a test that holds in both directions, outside or below
put_under : {X : Type 0} (o p q : Bool) (v w f z : X) → (p ≡ true → o ≡ true) → (q ≡ true → o ≡ true) → cond o (cond p v (cond q w f)) z ≡ cond p v (cond q w (cond o f z))
put_under o true q v w f z h k = rw (h refl) refl
put_under o false true v w f z h k = rw (k refl) refl
put_under o false false v w f z h k = refl

shown_put : (j : ℕ → ℕ → Bool) (s r : ℕ → ℕ → ℕ → Side) (k x y : ℕ) (v w : Side) → on j k x y ≡ true → on j k y x ≡ true → ((c a b : ℕ) → on j c a b ≡ true → r c a b ≡ put s k x y v w c a b) → (c a b : ℕ) → shown j r c a b ≡ put (shown j s) k x y v w c a b
shown_put j s r k x y v w o o' e c a b =
    under (on j c a b) (r c a b) (put s k x y v w c a b) (e c a b)
    ∙ put_under (on j c a b) (is_way_in k x y c a b) (is_way_in k y x c a b) v w (s c a b) no_side (on_way j k x y c a b o) (on_way j k y x c a b o')
  where
    under : (t : Bool) (p q : Side) → (t ≡ true → p ≡ q) → cond t p no_side ≡ cond t q no_side
    under true p q h = h refl
    under false p q h = refl

net_put : (f g : ℕ → ℕ → ℕ → Side) (k x y : ℕ) (v w : Side) → (x ≡ y → ⊥) → ((c a b : ℕ) → g c a b ≡ put f k x y v w c a b) → (c a b : ℕ) → pos (g c a b).used -ℤ pos (g c b a).used ≡ put (λ d p q. pos (f d p q).used -ℤ pos (f d q p).used) k x y (pos v.used -ℤ pos w.used) (pos w.used -ℤ pos v.used) c a b
net_put f g k x y v w ne e =
    by_way P k x y
    (at k x y v w there back ∙ sym (put_there net k x y _ _))
    (at k y x w v back there ∙ sym (put_back net k x y _ _ ne))
    (λ c a b p q.
    at c a b (f c a b) (f c b a) (e c a b ∙ put_else f k x y v w c a b p q) (e c b a ∙ put_else f k x y v w c b a (way_back k x y c a b ∙ q) (way_back k y x c a b ∙ p))
    ∙ sym (put_else net k x y _ _ c a b p q))
  where
    net : ℕ → ℕ → ℕ → ℤ
    net d p q = pos (f d p q).used -ℤ pos (f d q p).used

    P : ℕ → ℕ → ℕ → Type 0
    P c a b = pos (g c a b).used -ℤ pos (g c b a).used ≡ put net k x y (pos v.used -ℤ pos w.used) (pos w.used -ℤ pos v.used) c a b

    at : (c a b : ℕ) (s t : Side) → g c a b ≡ s → g c b a ≡ t → pos (g c a b).used -ℤ pos (g c b a).used ≡ pos s.used -ℤ pos t.used
    at c a b s t p q = rw (p, q) refl

    there : g k x y ≡ v
    there = e k x y ∙ put_there f k x y v w

    back : g k y x ≡ w
    back = e k y x ∙ put_back f k x y v w ne

pub sided_paired : (j : ℕ → ℕ → Bool) (s r : ℕ → ℕ → ℕ → Side) (d e : ℕ → ℕ → ℕ → Bool) (n i : ℕ) (k x y : ℕ) (v w : Side) → (x ≡ y → ⊥) → on j k x y ≡ true → on j k y x ≡ true → ((c a b : ℕ) → on j c a b ≡ true → r c a b ≡ put s k x y v w c a b) → ((c a b : ℕ) → e c a b ≡ put d k x y true true c a b) → i ≡ cond (d k x y) n (n - 1) → sided j r e i ≡ paired (sided j s d n) k x y v w
sided_paired j s r d e n i k x y v w ne o o' hr hd hi =
    made_same (sided j s d n) _ _ _ _ _ _ _ _ _ _
    (each _ _ (λ c a b. ap (λ (z : Side). z.ntc) (is c a b) ∙ put_field (λ (z : Side). z.ntc) (shown j s) k x y v w c a b))
    (each _ _ (λ c a b. ap (λ (z : Side). z.aac) (is c a b) ∙ put_field (λ (z : Side). z.aac) (shown j s) k x y v w c a b))
    (each _ _ (net_put (shown j s) (shown j r) k x y v w ne is))
    (each _ _ hd)
    hi
  where
    is : (c a b : ℕ) → shown j r c a b ≡ put (shown j s) k x y v w c a b
    is = shown_put j s r k x y v w o o' hr
