-- A full table: one with nothing in it, and one with a pair written.
use Rattle.std.proofs.Common.{◌≡◌, ℕ, zero, suc, ◌≤◌, Bool, true, false, cond, not, ◌&&◌, eqb, List, length, get_or, set, replicate, pos, ◌-ℤ◌, sym, refl, ap, ◌∙◌, arith, length-set, get_or-set_other, get_or-set_same}
use Rattle.std.proofs.lemmas.Bool.{and_from, eq-eqb, both_ways}
use Rattle.capacity.specs.declared.side.Side.{Side}
use Rattle.capacity.specs.Directions.{is_way_in, put}
use Rattle.capacity.specs.Granted.{Served}
use Rattle.capacity.specs.Meaning.{Capacity}
use Rattle.capacity.specs.Pairs.{paired}
use Rattle.capacity.specs.Sides.{no_side, Small}
use Rattle.capacity.specs.Tables.{linked, on, place, side_at, shown, full, fresh}
use Rattle.capacity.proofs.Lists.{get_d_same}
use Rattle.capacity.proofs.Puts.{put_there, put_back, put_else, put_same, by_way, each}
use Rattle.capacity.proofs.Sided.{on_known, on_back, on_served, sided_paired}

pub fresh_is : (j : ℕ → ℕ → Bool) (n : ℕ) → full j (replicate n no_side) ≡ fresh j
fresh_is j n =
    ap (λ (f : ℕ → ℕ → ℕ → Side). let m : Capacity = record { joins = j; ntc = λ c a b. (f c a b).ntc; aac = λ c a b. (f c a b).aac; held = λ c a b. 0; net = λ c a b. pos (f c a b).used -ℤ pos (f c b a).used; noted = on j; room = 0 } in m)
    (each (shown j (side_at (replicate n no_side))) (λ c a b. no_side) (λ c a b. none (on j c a b) (get_d_same n (place c a b) no_side)))
  where
    none : (t : Bool) {s : Side} → s ≡ no_side → cond t s no_side ≡ no_side
    none true e = e
    none false e = refl

-- small sides everywhere
pub small_same : (n i : ℕ) (v : Side) → Small v → Small (get_or (replicate n v) i no_side)
small_same zero i v h = (omega arith, omega arith, omega arith)
small_same (suc n) zero v h = h
small_same (suc n) (suc i) v h = small_same n i v h

-- a pair that exists is noted
pub served_noted : (j : ℕ → ℕ → Bool) (c a b : ℕ) (t : Bool) → t ≡ j a b → c ≤ 23 → t ≡ true → false ≡ (not (on j c a b) && eqb 0 0)
served_noted j c a b t p h e = rw (on_known j c a b h (sym p ∙ e)) refl

-- two directions at one place are one
one_place : (k x y c a b : ℕ) → x ≤ 15 → y ≤ 15 → a ≤ 15 → b ≤ 15 → place c a b ≡ place k x y → is_way_in k x y c a b ≡ true
one_place k x y c a b hx hy ha hb s =
    and_from _ _ (eq-eqb c k (omega arith)) (and_from _ _ (eq-eqb a x (omega arith)) (eq-eqb b y (omega arith)))

pub full_paired : (js : List Bool) (ss : List Side) (k x y i i' : ℕ) (v w : Side) → on (linked js) k x y ≡ true → length ss ≡ 6144 → i ≡ place k x y → i' ≡ place k y x → full (linked js) (set (set ss i v) i' w) ≡ paired (full (linked js) ss) k x y v w
full_paired js ss k x y i i' v w h len ei ej =
    rw (ei, ej)
    (sided_paired (linked js) (side_at ss) (side_at written) (on (linked js)) (on (linked js)) 0 0 k x y v w p.apart h (on_back js k x y h)
    (by_way P k x y (λ _. there) (λ _. back) other)
    (λ c a b. sym (put_same (on (linked js)) k x y true true p.apart h (on_back js k x y h) c a b))
    (rw h refl))
  where
    p : Served (linked js) k x y
    p = on_served js k x y h

    written : List Side
    written = set (set ss (place k x y) v) (place k y x) w

    P : ℕ → ℕ → ℕ → Type 0
    P c a b = on (linked js) c a b ≡ true → side_at written c a b ≡ put (side_at ss) k x y v w c a b

    there : side_at written k x y ≡ put (side_at ss) k x y v w k x y
    there =
        get_or-set_other (set ss (place k x y) v) (place k y x) (place k x y) w no_side (λ e. p.apart (omega (arith, p.from, p.to)))
        ∙ get_or-set_same ss (place k x y) v no_side (omega (arith, p.contract, p.from, p.to))
        ∙ sym (put_there (side_at ss) k x y v w)

    back : side_at written k y x ≡ put (side_at ss) k x y v w k y x
    back =
        get_or-set_same (set ss (place k x y) v) (place k y x) w no_side (rw (length-set ss (place k x y) v) (omega (arith, p.contract, p.from, p.to)))
        ∙ sym (put_back (side_at ss) k x y v w p.apart)

    other : (c a b : ℕ) → is_way_in k x y c a b ≡ false → is_way_in k y x c a b ≡ false → P c a b
    other c a b e f o =
        let q = on_served js c a b o in
        let n : place c a b ≡ place k x y → ⊥ = (λ s. both_ways (is_way_in k x y c a b) e (one_place k x y c a b p.from p.to q.from q.to s)) in
        let m : place c a b ≡ place k y x → ⊥ = (λ s. both_ways (is_way_in k y x c a b) f (one_place k y x c a b p.to p.from q.from q.to s)) in
        get_or-set_other (set ss (place k x y) v) (place k y x) (place c a b) w no_side m
        ∙ get_or-set_other ss (place k x y) (place c a b) v no_side n
        ∙ sym (put_else (side_at ss) k x y v w c a b e f)
