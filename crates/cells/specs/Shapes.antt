-- What the crate's register holds.
use Rattle.std.specs.Prelude.{◌-◌, ◌==◌, Bool, not, ◌&&◌, List, length, take}
use Rattle.capacity.specs.declared.direction.Direction.{Direction}
use Rattle.capacity.specs.Meaning.{Capacity}
use Rattle.capacity.specs.Shapes.{network_of}
use Rattle.cells.specs.declared.cell.Cell.{Cell}
use Rattle.cells.specs.Cells.{noted_in}
use Rattle.cells.specs.declared.register.CellRegister.{CellRegister}
use Rattle.cells.specs.Meaning.{celled}

abbrev pub in_use : CellRegister → List Cell
in_use r = take r.count r.cells.now

abbrev pub cells_of : CellRegister → Capacity
cells_of r = celled (network_of r.map.now).joins (in_use r) (length r.cells.now - r.count)

-- the pair has no cell, and none is spare
abbrev pub no_cell_left : CellRegister → Direction → Bool
no_cell_left r d = not (noted_in (in_use r) d.contract d.from d.to) && (length r.cells.now - r.count == 0)
