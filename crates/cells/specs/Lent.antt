-- What becomes of the cells that were lent: those in use come first, and the spare ones after them.
use Rattle.std.specs.Prelude.{◌≡◌, ℕ, ◌+◌, ◌-◌, ◌<◌, ◌≤◌, max, List, length, drop, position, slice_set, refl}
use Rattle.std.proofs.Common.{sym, ap, subst, ◌∙◌, arith}
use Rattle.std.proofs.lemmas.List.{drop-drop}
use Rattle.capacity.specs.Memory.{Chains}
use Rattle.std.specs.Borrow.{GName}
use Rattle.std.specs.Option.{unwrap_or}
use Rattle.capacity.specs.declared.direction.Direction.{Direction}
use Rattle.capacity.specs.declared.figures.Figures.{Figures}
use Rattle.capacity.specs.declared.side.Side.{Side}
use Rattle.capacity.specs.Pairs.{taken_there, taken_back, figured}
use Rattle.cells.specs.declared.cell.Cell.{Cell}
use Rattle.cells.specs.declared.register.CellRegister.{CellRegister}
use Rattle.cells.specs.Cells.{names, side_in}
use Rattle.cells.specs.Shapes.{in_use}

-- all the cells that were lent
abbrev pub lent : CellRegister → List Cell
lent r = r.cells.now

-- the name of the slice that was lent: by it whoever lent the cells knows what the register left in them
abbrev pub lent_name : CellRegister → GName
lent_name r = r.cells.ghost_name

-- where the pair of a direction goes: in the first cell in use for it, else in the first spare one
abbrev pub place_of : CellRegister → Direction → ℕ
place_of r d = unwrap_or (position (λ x. names x d.contract d.from d.to) (in_use r)) r.count

-- From r to q one cell is set, for the pair of d, with s in that direction and t in the other. All other cells stay,
-- and a spare one that is set is in use from then on.
pub record OneSet (r q : CellRegister) (d : Direction) (s t : Side) : Type 0 where
  pub cell : Cell
  pub pair : cell.direction ≡ d
  pub there : cell.pair.there ≡ s
  pub back : cell.pair.back ≡ t
  pub place : place_of r d < length (lent r)
  pub set : lent q ≡ slice_set (lent r) (place_of r d) cell
  pub count : q.count ≡ max r.count (place_of r d + 1)

-- what the cells in use say of a direction
abbrev pub side_of : CellRegister → Direction → Side
side_of r d = side_in (in_use r) d.contract d.from d.to

abbrev pub side_back : CellRegister → Direction → Side
side_back r d = side_in (in_use r) d.contract d.to d.from

-- one cell is set: with n more used, and with other figures
abbrev pub SetByTake : CellRegister → CellRegister → Direction → ℕ → Type 0
SetByTake r q d n = OneSet r q d (taken_there (side_of r d) (side_back r d) n) (taken_back (side_back r d) n)

abbrev pub SetByNotice : CellRegister → CellRegister → Direction → Figures → Type 0
SetByNotice r q d f = OneSet r q d (figured (side_of r d) f.ntc f.aac) (figured (side_back r d) f.ntc_back f.aac_back)

-- the same slice, and of its cells those that are spare are as they were
pub record SpareStay (r q : CellRegister) : Type 0 where
  pub slice : lent_name q ≡ lent_name r
  pub many : length (lent q) ≡ length (lent r)
  pub used : r.count ≤ q.count
  pub spare : drop q.count (lent q) ≡ drop q.count (lent r)

-- the register stands in the slice of this name, which was lent as xs, and its spare cells are as they were lent
pub record StandsIn (name : GName) (xs : List Cell) (r : CellRegister) : Type 0 where
  pub slice : lent_name r ≡ name
  pub many : length (lent r) ≡ length xs
  pub spare : drop r.count (lent r) ≡ drop r.count xs

pub spare_chains : Chains SpareStay
spare_chains = record {
  none = λ r. record { slice = refl; many = refl; used = omega arith; spare = refl };
  next = λ r s t h k. record {
    slice = k.slice ∙ h.slice;
    many = k.many ∙ h.many;
    used = omega (arith, h.used, k.used);
    spare = k.spare ∙ further s.count t.count k.used (lent s) (lent r) h.spare;
  };
}
  where
    further : (m n : ℕ) → m ≤ n → (xs ys : List Cell) → drop m xs ≡ drop m ys → drop n xs ≡ drop n ys
    further m n l xs ys e =
        let s : m + (n - m) ≡ n = omega arith in
        subst (λ i. drop i xs ≡ drop i ys) s (sym (drop-drop (n - m) m xs) ∙ ap (drop (n - m)) e ∙ drop-drop (n - m) m ys)
