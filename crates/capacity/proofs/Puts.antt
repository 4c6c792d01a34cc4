-- Figures by direction with one connector's two replaced: there, back, and elsewhere.
use Rattle.std.proofs.Common.{◌≡◌, ℕ, Bool, true, false, cond, ◌&&◌, eqb, sym, refl, ap, ◌∙◌, ⊎_elim}
use mathlib.Core.Path.{fun_ext}
use Rattle.std.proofs.Math.Bool.{and_comm}
use Rattle.std.proofs.lemmas.Bool.{cases_Bool, and_parts, and_from, eqb-true, eq-eqb}
use Rattle.capacity.specs.Directions.{is_way_in, put}

pub way_back : (k x y c a b : ℕ) → is_way_in k x y c b a ≡ is_way_in k y x c a b
way_back k x y c a b = ap (λ t. eqb c k && t) (and_comm (eqb b x) (eqb a y))

pub same_way : (k x y c a b : ℕ) → is_way_in k x y c a b ≡ true → (c ≡ k) × (a ≡ x) × (b ≡ y)
same_way k x y c a b e =
    let p = and_parts _ _ e in
    let q = and_parts _ _ p.1 in
    (eqb-true c k p.0, eqb-true a x q.0, eqb-true b y q.1)

pub other_way : (k x y c a b : ℕ) → ((c ≡ k) → (a ≡ x) → (b ≡ y) → ⊥) → is_way_in k x y c a b ≡ false
other_way k x y c a b no_way =
    ⊎_elim
    (λ (e : is_way_in k x y c a b ≡ true). let s = same_way k x y c a b e in absurd (no_way s.0 s.1 s.2))
    (λ (e : is_way_in k x y c a b ≡ false). e)
    (cases_Bool (is_way_in k x y c a b))

pub this_way_in : (k x y : ℕ) → is_way_in k x y k x y ≡ true
this_way_in k x y = and_from _ _ (eq-eqb k k refl) (and_from _ _ (eq-eqb x x refl) (eq-eqb y y refl))

-- what put leaves at each of its three places
pub put_there : {X : Type 0} (f : ℕ → ℕ → ℕ → X) (k x y : ℕ) (v w : X) → put f k x y v w k x y ≡ v
put_there f k x y v w = rw (this_way_in k x y) refl

pub put_back : {X : Type 0} (f : ℕ → ℕ → ℕ → X) (k x y : ℕ) (v w : X) → (x ≡ y → ⊥) → put f k x y v w k y x ≡ w
put_back f k x y v w ne = rw (other_way k x y k y x (λ _ e _. ne (sym e)), this_way_in k y x) refl

pub put_else : {X : Type 0} (f : ℕ → ℕ → ℕ → X) (k x y : ℕ) (v w : X) (c a b : ℕ) → is_way_in k x y c a b ≡ false → is_way_in k y x c a b ≡ false → put f k x y v w c a b ≡ f c a b
put_else f k x y v w c a b p q = rw (p, q) refl

-- by cases: there, back, or elsewhere
pub by_way : (P : ℕ → ℕ → ℕ → Type 0) (k x y : ℕ) → P k x y → P k y x → ((c a b : ℕ) → is_way_in k x y c a b ≡ false → is_way_in k y x c a b ≡ false → P c a b) → (c a b : ℕ) → P c a b
by_way P k x y there back other c a b =
    ⊎_elim
    (λ (e : is_way_in k x y c a b ≡ true). let s = same_way k x y c a b e in rw (s.0, s.1, s.2) there)
    (λ (e : is_way_in k x y c a b ≡ false).
    ⊎_elim
    (λ (f : is_way_in k y x c a b ≡ true). let s = same_way k y x c a b f in rw (s.0, s.1, s.2) back)
    (λ (f : is_way_in k y x c a b ≡ false). other c a b e f)
    (cases_Bool (is_way_in k y x c a b)))
    (cases_Bool (is_way_in k x y c a b))

-- a field of what is put
pub put_field : {X Y : Type 0} (g : X → Y) (f : ℕ → ℕ → ℕ → X) (k x y : ℕ) (v w : X) (c a b : ℕ) → g (put f k x y v w c a b) ≡ put (λ d p q. g (f d p q)) k x y (g v) (g w) c a b
put_field {X} {Y} g f k x y v w c a b = field (is_way_in k x y c a b) (is_way_in k y x c a b) (f c a b)
  where
    field : (p q : Bool) (z : X) → g (cond p v (cond q w z)) ≡ cond p (g v) (cond q (g w) (g z))
    field true q z = refl
    field false true z = refl
    field false false z = refl

-- putting what stands there already
pub put_same : {X : Type 0} (f : ℕ → ℕ → ℕ → X) (k x y : ℕ) (v w : X) → (x ≡ y → ⊥) → f k x y ≡ v → f k y x ≡ w → (c a b : ℕ) → put f k x y v w c a b ≡ f c a b
put_same f k x y v w ne e g =
    by_way (λ c a b. put f k x y v w c a b ≡ f c a b) k x y
    (put_there f k x y v w ∙ sym e)
    (put_back f k x y v w ne ∙ sym g)
    (λ c a b. put_else f k x y v w c a b)

-- two functions of a direction that agree everywhere
pub each : {X : Type 0} (f g : ℕ → ℕ → ℕ → X) → ((c a b : ℕ) → f c a b ≡ g c a b) → f ≡ g
each f g h = fun_ext (λ c. fun_ext (λ a. fun_ext (λ b. h c a b)))
