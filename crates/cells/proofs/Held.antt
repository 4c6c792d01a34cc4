-- What a register of cells shows of a pair, and holds once one is written.
use Rattle.std.proofs.Common.{◌≡◌, ℕ, ◌+◌, ◌-◌, ◌<◌, Bool, true, false, cond, not, ◌&&◌, eqb, List, [], ◌∷◌, ◌++◌, length, get_or, take, set, Some, None, Option, is_some, sym, refl, ap, ◌∙◌, add-one, arith, length-set, length-take, take-suc-set}
use lib.Seq.{take-set-lt}
use Rattle.std.proofs.lemmas.Bool.{and_right, eqb-false}
use Rattle.std.proofs.lemmas.List.{get_or-take}
use Rattle.std.proofs.lemmas.List.Quantifiers.{position-Some}
use Rattle.std.specs.List.{position}
use Rattle.capacity.specs.declared.side.Side.{Side}
use Rattle.capacity.specs.Directions.{is_way_in, put}
use Rattle.capacity.specs.Granted.{Served}
use Rattle.capacity.specs.Pairs.{Shows, paired}
use Rattle.capacity.specs.Sides.{no_side}
use Rattle.capacity.specs.Tables.{linked, on}
use Rattle.capacity.proofs.Sided.{on_known, on_back, on_way, sided_shows, sided_paired}
use Rattle.cells.specs.declared.cell.Cell.{Cell}
use Rattle.cells.specs.Cells.{names, first_says, noted_in, side_in}
use Rattle.cells.specs.Meaning.{celled}
use Rattle.cells.proofs.Named.{names_back, turned, none_found}
use Rattle.cells.proofs.Said.{says, says_at, says_nothing, said_set, said_push}

-- ---- what is found of a pair

-- with no cell for a pair, nothing is said of either of its directions
pub says_none : {X : Type 0} (g h : Cell → X) (z : X) (ys : List Cell) (c a b : ℕ) → None ≡ position (λ x. names x c a b) ys → (first_says g h z ys c a b ≡ z) × (first_says g h z ys c b a ≡ z)
says_none g h z [] c a b e = (refl, refl)
says_none g h z (x ∷ xs) c a b e =
    let none = none_found (λ y. names y c a b) (x ∷ xs) x e in (
      says_nothing g h z (x ∷ xs) c a b x none,
      says_nothing g h z (x ∷ xs) c b a x (λ k l. names_back (get_or (x ∷ xs) k x) c a b ∙ none k l),
    )

-- the first cell for a pair speaks of both its directions
pub says_first : {X : Type 0} (g h : Cell → X) (z : X) (ys : List Cell) (c a b i : ℕ) (d : Cell) → position (λ x. names x c a b) ys ≡ Some i → (first_says g h z ys c a b ≡ says g h c a b (get_or ys i d)) × (first_says g h z ys c b a ≡ says g h c b a (get_or ys i d))
says_first g h z ys c a b i d e =
    let s = position-Some (λ x. names x c a b) ys i d e in (
      says_at g h z ys c a b i d s.0 s.2 s.1,
      says_at g h z ys c b a i d s.0 (λ k l. names_back (get_or ys k d) c a b ∙ s.2 k l) (names_back (get_or ys i d) c a b ∙ s.1),
    )

pub noted_none : (ys : List Cell) (c a b : ℕ) → None ≡ position (λ x. names x c a b) ys → noted_in ys c a b ≡ false
noted_none ys c a b e = (says_none (λ x. true) (λ x. true) false ys c a b e).0

pub noted_some : (ys : List Cell) (c a b i : ℕ) (d : Cell) → position (λ x. names x c a b) ys ≡ Some i → noted_in ys c a b ≡ true
noted_some ys c a b i d e =
    (says_first (λ x. true) (λ x. true) false ys c a b i d e).0 ∙ same (is_way_in (get_or ys i d).direction.contract (get_or ys i d).direction.from (get_or ys i d).direction.to c a b)
  where
    same : (t : Bool) → cond t true true ≡ true
    same true = refl
    same false = refl

-- a pair is noted where a cell is found for it
pub noted_is : (ys : List Cell) (c a b : ℕ) (o : Option ℕ) → o ≡ position (λ x. names x c a b) ys → noted_in ys c a b ≡ is_some o
noted_is ys c a b None e = noted_none ys c a b e
noted_is [] c a b (Some i) e = absurd cc
noted_is (x ∷ xs) c a b (Some i) e = noted_some (x ∷ xs) c a b i x (sym e)

-- a notice of a pair that has no cell needs a free one
pub room_left : (xs : List Cell) (n c a b : ℕ) (o : Bool) → (not (o && noted_in (take n xs) c a b) && eqb (length xs - n) 0) ≡ false → None ≡ position (λ x. names x c a b) (take n xs) → n < length xs
room_left xs n c a b o h e =
    let t = rw (noted_none (take n xs) c a b e, and_right o false refl) at h in
    let z = eqb-false (length xs - n) 0 t in
    omega arith

-- ---- a pair read

pub sides_none : (ys : List Cell) (c a b : ℕ) (u v : Side) → None ≡ position (λ x. names x c a b) ys → u ≡ no_side → v ≡ no_side → (u ≡ side_in ys c a b) × (v ≡ side_in ys c b a)
sides_none ys c a b u v e p q =
    let w = says_none (λ x. x.pair.there) (λ x. x.pair.back) no_side ys c a b e in (p ∙ sym w.0, q ∙ sym w.1)

pub sides_first : (xs : List Cell) (k c a b i : ℕ) (d : Cell) (u v : Side) → (a ≡ b → ⊥) → position (λ x. names x c a b) (take k xs) ≡ Some i → u ≡ cond (is_way_in (get_or xs i d).direction.contract (get_or xs i d).direction.from (get_or xs i d).direction.to c a b) (get_or xs i d).pair.there (get_or xs i d).pair.back → v ≡ cond (is_way_in (get_or xs i d).direction.contract (get_or xs i d).direction.from (get_or xs i d).direction.to c a b) (get_or xs i d).pair.back (get_or xs i d).pair.there → (u ≡ side_in (take k xs) c a b) × (v ≡ side_in (take k xs) c b a)
sides_first xs k c a b i d u v apart e p q =
    let w = says_first (λ y. y.pair.there) (λ y. y.pair.back) no_side (take k xs) c a b i d e in (
      p ∙ sym (w.0 ∙ ap (says (λ y. y.pair.there) (λ y. y.pair.back) c a b) at),
      q
          ∙ other (is_way_in x.direction.contract x.direction.from x.direction.to c a b) (is_way_in x.direction.contract x.direction.from x.direction.to c b a) (turned x c a b apart (ap (λ y. names y c a b) (sym at) ∙ s.1))
          ∙ sym (w.1 ∙ ap (says (λ y. y.pair.there) (λ y. y.pair.back) c b a) at),
    )
  where
    x : Cell
    x = get_or xs i d

    s : (i < length (take k xs)) × (names (get_or (take k xs) i d) c a b ≡ true) × ((j : ℕ) → j < i → names (get_or (take k xs) j d) c a b ≡ false)
    s = position-Some (λ y. names y c a b) (take k xs) i d e

    at : get_or (take k xs) i d ≡ x
    at = let l = simp length-take at s.0 in get_or-take k xs i d (omega arith)

    other : (t r : Bool) → r ≡ not t → cond t x.pair.back x.pair.there ≡ cond r x.pair.there x.pair.back
    other true r f = rw f refl
    other false r f = rw f refl

pub sides_show : (js : List Bool) (ys : List Cell) (n c a b : ℕ) (u v : Side) → Served (linked js) c a b → (u ≡ side_in ys c a b) × (v ≡ side_in ys c b a) → Shows (celled (linked js) ys n) c a b u v
sides_show js ys n c a b u v h e =
    let o = on_known (linked js) c a b h.contract h.joined in
    sided_shows (linked js) (side_in ys) (λ c' a' b'. on (linked js) c' a' b' && noted_in ys c' a' b') n c a b u v o (on_back js c a b o) e.0 e.1

-- ---- a pair written

celled_paired : (js : List Bool) (ys zs : List Cell) (n m : ℕ) (v : Cell) → Served (linked js) v.direction.contract v.direction.from v.direction.to → ((c a b : ℕ) → side_in zs c a b ≡ put (side_in ys) v.direction.contract v.direction.from v.direction.to v.pair.there v.pair.back c a b) → ((c a b : ℕ) → noted_in zs c a b ≡ put (noted_in ys) v.direction.contract v.direction.from v.direction.to true true c a b) → m ≡ cond (noted_in ys v.direction.contract v.direction.from v.direction.to) n (n - 1) → celled (linked js) zs m ≡ paired (celled (linked js) ys n) v.direction.contract v.direction.from v.direction.to v.pair.there v.pair.back
celled_paired js ys zs n m v h side noted room =
    sided_paired (linked js) (side_in ys) (side_in zs) (λ c a b. on (linked js) c a b && noted_in ys c a b) (λ c a b. on (linked js) c a b && noted_in zs c a b) n m k p q v.pair.there v.pair.back h.apart o (on_back js k p q o)
    (λ c a b _. side c a b)
    (λ c a b.
    ap (λ (t : Bool). on (linked js) c a b && t) (noted c a b)
    ∙ under (on (linked js) c a b) (is_way_in k p q c a b) (is_way_in k q p c a b) (noted_in ys c a b) (on_way (linked js) k p q c a b o) (on_way (linked js) k q p c a b (on_back js k p q o)))
    (rw o room)
  where
    k : ℕ
    k = v.direction.contract

    p : ℕ
    p = v.direction.from

    q : ℕ
    q = v.direction.to

    o : on (linked js) k p q ≡ true
    o = on_known (linked js) k p q h.contract h.joined

    under : (s t u r : Bool) → (t ≡ true → s ≡ true) → (u ≡ true → s ≡ true) → (s && cond t true (cond u true r)) ≡ cond t true (cond u true (s && r))
    under s true u r f g = rw (f refl) refl
    under s false true r f g = rw (g refl) refl
    under s false false r f g = refl

-- over the cell of its pair
pub put_over : (js : List Bool) (xs : List Cell) (n i : ℕ) (v : Cell) → Served (linked js) v.direction.contract v.direction.from v.direction.to → position (λ x. names x v.direction.contract v.direction.from v.direction.to) (take n xs) ≡ Some i → celled (linked js) (take n (set xs i v)) (length (set xs i v) - n) ≡ paired (celled (linked js) (take n xs) (length xs - n)) v.direction.contract v.direction.from v.direction.to v.pair.there v.pair.back
put_over js xs n i v h e =
    ap (λ (ys : List Cell). celled (linked js) ys (length (set xs i v) - n)) (take-set-lt n xs i v l)
    ∙ celled_paired js (take n xs) (set (take n xs) i v) (length xs - n) (length (set xs i v) - n) v h
    (said_set (λ x. x.pair.there) (λ x. x.pair.back) no_side (take n xs) v i e)
    (said_set (λ x. true) (λ x. true) false (take n xs) v i e)
    (rw (length-set xs i v, noted_some (take n xs) v.direction.contract v.direction.from v.direction.to i v e) refl)
  where
    l : i < n
    l = let s = simp length-take at (position-Some (λ x. names x v.direction.contract v.direction.from v.direction.to) (take n xs) i v e).0 in omega arith

-- in a free cell
pub put_new : (js : List Bool) (xs : List Cell) (n : ℕ) (v : Cell) → Served (linked js) v.direction.contract v.direction.from v.direction.to → None ≡ position (λ x. names x v.direction.contract v.direction.from v.direction.to) (take n xs) → n < length xs → celled (linked js) (take (n + 1) (set xs n v)) (length (set xs n v) - (n + 1)) ≡ paired (celled (linked js) (take n xs) (length xs - n)) v.direction.contract v.direction.from v.direction.to v.pair.there v.pair.back
put_new js xs n v h e l =
    ap (λ (ys : List Cell). celled (linked js) ys (length (set xs n v) - (n + 1))) (rw add-one (take-suc-set xs n v l))
    ∙ celled_paired js (take n xs) (take n xs ++ v ∷ []) (length xs - n) (length (set xs n v) - (n + 1)) v h
    (said_push (λ x. x.pair.there) (λ x. x.pair.back) no_side (take n xs) v e)
    (said_push (λ x. true) (λ x. true) false (take n xs) v e)
    (rw (length-set xs n v, noted_none (take n xs) v.direction.contract v.direction.from v.direction.to e) (omega arith))
