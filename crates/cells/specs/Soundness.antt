-- That what a register of cells holds is sound: a proof, which it hands over with its meaning.
use Rattle.std.specs.Prelude.{◌≡◌, ℕ, Bool, true, false, cond, ◌&&◌, List, [], ◌∷◌, refl}
use Rattle.std.proofs.Common.{⊎_elim, arith}
use Rattle.std.proofs.lemmas.Bool.{and_parts, and_cases}
use Rattle.capacity.specs.declared.side.Side.{Side}
use Rattle.capacity.specs.Directions.{is_way_in}
use Rattle.capacity.specs.Meaning.{Sound}
use Rattle.capacity.specs.Sides.{no_side, Small}
use Rattle.capacity.specs.Soundness.{small_cond, shown_off, on_same, sided_sound}
use Rattle.capacity.specs.Tables.{linked, on}
use Rattle.capacity.proofs.Puts.{way_back}
use Rattle.cells.specs.declared.cell.Cell.{Cell}
use Rattle.cells.specs.declared.register.CellRegister.{CellRegister}
use Rattle.cells.specs.Cells.{noted_in, side_in}
use Rattle.cells.specs.Meaning.{celled}
use Rattle.cells.specs.Shapes.{in_use, cells_of}

pub side_small : (ys : List Cell) (c a b : ℕ) → Small (side_in ys c a b)
side_small [] c a b = (omega arith, omega arith, omega arith)
side_small (x ∷ xs) c a b =
    small_cond (is_way_in x.direction.contract x.direction.from x.direction.to c a b) _ _ x.pair.small_there
    (small_cond (is_way_in x.direction.contract x.direction.to x.direction.from c a b) _ _ x.pair.small_back (side_small xs c a b))

-- a pair that no cell is for is at nought
pub side_unnoted : (ys : List Cell) (c a b : ℕ) → noted_in ys c a b ≡ false → side_in ys c a b ≡ no_side
side_unnoted [] c a b e = refl
side_unnoted (x ∷ xs) c a b e =
    none (is_way_in x.direction.contract x.direction.from x.direction.to c a b) (is_way_in x.direction.contract x.direction.to x.direction.from c a b) (noted_in xs c a b) x.pair.there x.pair.back (side_in xs c a b) e (side_unnoted xs c a b)
  where
    none : (p q r : Bool) (v w s : Side) → cond p true (cond q true r) ≡ false → (r ≡ false → s ≡ no_side) → cond p v (cond q w s) ≡ no_side
    none true q r v w s f h = absurd cc
    none false true r v w s f h = absurd cc
    none false false r v w s f h = h f

pub noted_back : (ys : List Cell) (c a b : ℕ) → noted_in ys c b a ≡ noted_in ys c a b
noted_back [] c a b = refl
noted_back (x ∷ xs) c a b =
    back (is_way_in x.direction.contract x.direction.from x.direction.to c a b) (is_way_in x.direction.contract x.direction.to x.direction.from c a b) (noted_in xs c a b) (is_way_in x.direction.contract x.direction.from x.direction.to c b a) (is_way_in x.direction.contract x.direction.to x.direction.from c b a) (noted_in xs c b a) (way_back x.direction.contract x.direction.from x.direction.to c a b) (way_back x.direction.contract x.direction.to x.direction.from c a b) (noted_back xs c a b)
  where
    back : (p q r p' q' r' : Bool) → p' ≡ q → q' ≡ p → r' ≡ r → cond p' true (cond q' true r') ≡ cond p true (cond q true r)
    back true true r p' q' r' e f g = rw e refl
    back true false r p' q' r' e f g = rw (e, f) refl
    back false true r p' q' r' e f g = rw e refl
    back false false r p' q' r' e f g = rw (e, f) g

pub celled_sound : (js : List Bool) (ys : List Cell) (n : ℕ) → Sound (celled (linked js) ys n)
celled_sound js ys n =
    sided_sound js (side_in ys) (λ c a b. on (linked js) c a b && noted_in ys c a b) n (side_small ys)
    (λ c a b. rw (on_same js c a b, noted_back ys c a b) refl)
    (λ c a b e. (and_parts (on (linked js) c a b) (noted_in ys c a b) e).0)
    (λ c a b e. ⊎_elim (shown_off (linked js) (side_in ys) c a b) (λ (f : noted_in ys c a b ≡ false). none (on (linked js) c a b) (side_unnoted ys c a b f)) (and_cases (on (linked js) c a b) (noted_in ys c a b) e))
  where
    none : (t : Bool) {s : Side} → s ≡ no_side → cond t s no_side ≡ no_side
    none true e = e
    none false e = refl

pub cells_sound : (r : CellRegister) → Sound (cells_of r)
cells_sound r = celled_sound r.map.now.links.joined (in_use r) _
