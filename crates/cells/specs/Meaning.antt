-- What a register of cells holds.
use Rattle.std.specs.Prelude.{ℕ, Bool, false, ◌&&◌, List, pos}
use Rattle.capacity.specs.Meaning.{Capacity}
use Rattle.capacity.specs.Tables.{on, sided}
use Rattle.cells.specs.declared.cell.Cell.{Cell}
use Rattle.cells.specs.Cells.{side_in, noted_in}

-- the cells in use are ys, and n are spare
abbrev pub celled : (ℕ → ℕ → Bool) → List Cell → ℕ → Capacity
celled j ys n = sided j (side_in ys) (λ c a b. on j c a b && noted_in ys c a b) n

-- none noted, all figures and use at nought, nothing held
abbrev pub unnoted : (ℕ → ℕ → Bool) → ℕ → Capacity
unnoted j n = record {
  joins = j;
  ntc = λ c a b. 0;
  aac = λ c a b. 0;
  held = λ c a b. 0;
  net = λ c a b. pos 0;
  noted = λ c a b. false;
  room = n;
}
