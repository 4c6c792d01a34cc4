-- The one cell that a call sets among those that were lent.
use Rattle.std.proofs.Common.{◌≡◌, ℕ, ◌+◌, ◌<◌, List, [], ◌∷◌, length, take, set, Some, None, Option, sym, refl, ap, ◌∙◌, subst, arith, drop, length-set, length-take}
use Rattle.std.proofs.lemmas.List.{drop-set-lt}
use Rattle.std.proofs.lemmas.List.Quantifiers.{position-Some}
use Rattle.std.specs.List.{position}
use Rattle.std.specs.Option.{unwrap_or}
use Rattle.capacity.specs.declared.direction.Direction.{Direction}
use Rattle.capacity.specs.declared.side.Side.{Side}
use Rattle.capacity.specs.Directions.{put}
use Rattle.capacity.specs.Sides.{no_side}
use Rattle.capacity.proofs.Puts.{put_there}
use Rattle.cells.specs.declared.cell.Cell.{Cell}
use Rattle.cells.specs.declared.register.CellRegister.{CellRegister}
use Rattle.cells.specs.Cells.{names, side_in}
use Rattle.cells.specs.Lent.{lent, lent_name, place_of, side_of, OneSet, SpareStay}
use Rattle.cells.specs.Shapes.{in_use}

module _ (r q : CellRegister) (d : Direction) where
  abbrev found : Option ℕ
  found = position (λ x. names x d.contract d.from d.to) (in_use r)

  in_use_below : (v : Cell) (i : ℕ) → found ≡ Some i → (i < r.count) × (i < length (lent r))
  in_use_below v i e =
      let l = simp length-take at (position-Some (λ x. names x d.contract d.from d.to) (in_use r) i v e).0 in
      (omega arith, omega arith)

  -- over the cell of its pair
  pub set_over : (v : Cell) (i : ℕ) → v.direction ≡ d → found ≡ Some i → lent q ≡ set (lent r) i v → q.count ≡ r.count → OneSet r q d v.pair.there v.pair.back
  set_over v i p e w n =
      let at : place_of r d ≡ i = ap (λ o. unwrap_or o r.count) e in
      let below = in_use_below v i e in
      record { cell = v; pair = p; there = refl; back = refl; place = rw at below.1; set = rw at w; count = rw at (omega arith) }

  -- in a spare one
  pub set_new : (v : Cell) → v.direction ≡ d → found ≡ None → r.count < length (lent r) → lent q ≡ set (lent r) r.count v → q.count ≡ r.count + 1 → OneSet r q d v.pair.there v.pair.back
  set_new v p e l w n =
      let at : place_of r d ≡ r.count = ap (λ o. unwrap_or o r.count) e in
      record { cell = v; pair = p; there = refl; back = refl; place = rw at l; set = rw at w; count = rw at (omega arith) }

  -- the same with what its sides are equal to
  pub set_sides : (s t u v : Side) → OneSet r q d s t → s ≡ u → t ≡ v → OneSet r q d u v
  set_sides s t u v o e f = record {
    cell = o.cell;
    pair = o.pair;
    there = o.there ∙ e;
    back = o.back ∙ f;
    place = o.place;
    set = o.set;
    count = o.count;
  }

  -- where a cell in use is set, no more are in use
  pub set_in_use : (s t : Side) → (None ≡ found → ⊥) → OneSet r q d s t → q.count ≡ r.count
  set_in_use s t some o = by_place found refl
    where
      by_place : (p : Option ℕ) → p ≡ found → q.count ≡ r.count
      by_place None e = absurd (some e)
      by_place (Some i) e =
          let at : place_of r d ≡ i = ap (λ (p : Option ℕ). unwrap_or p r.count) (sym e) in
          let below = in_use_below o.cell i (sym e) in
          let n = o.count in
          omega arith

  -- the spare cells stay
  pub set_spare : (s t : Side) → OneSet r q d s t → lent_name q ≡ lent_name r → SpareStay r q
  set_spare s t o e =
      let n = o.count in record {
        slice = e;
        many = ap length o.set ∙ length-set (lent r) (place_of r d) o.cell;
        used = omega arith;
        spare = ap (drop q.count) o.set ∙ drop-set-lt q.count (lent r) (place_of r d) o.cell (omega arith);
      }

-- ---- the first cell that a register sets

taken_first : (xs : List Cell) (v : Cell) → 0 < length xs → take 1 (set xs 0 v) ≡ v ∷ []
taken_first [] v l = absurd (omega arith)
taken_first (x ∷ xs) v l = refl

pub first_place : (r : CellRegister) (d : Direction) → r.count ≡ 0 → place_of r d ≡ 0
first_place r d e = ap (λ (n : ℕ). unwrap_or (position (λ x. names x d.contract d.from d.to) (take n (lent r))) n) e

pub first_side : (r : CellRegister) (d : Direction) → r.count ≡ 0 → side_of r d ≡ no_side
first_side r d e = ap (λ (n : ℕ). side_in (take n (lent r)) d.contract d.from d.to) e

-- what it says then of the direction asked
pub first_set : (r q : CellRegister) (d : Direction) (s t : Side) → r.count ≡ 0 → OneSet r q d s t → side_in (take 1 (lent q)) d.contract d.from d.to ≡ s
first_set r q d s t e o =
    ap (λ (xs : List Cell). side_in (take 1 xs) d.contract d.from d.to) (o.set ∙ ap (λ (n : ℕ). set (lent r) n o.cell) at)
    ∙ ap (λ (xs : List Cell). side_in xs d.contract d.from d.to) (taken_first (lent r) o.cell (subst (λ n. n < length (lent r)) at o.place))
    ∙ ap (λ (w : Direction). put (side_in []) w.contract w.from w.to o.cell.pair.there o.cell.pair.back d.contract d.from d.to) o.pair
    ∙ put_there (side_in []) d.contract d.from d.to o.cell.pair.there o.cell.pair.back
    ∙ o.there
  where
    at : place_of r d ≡ 0
    at = first_place r d e
