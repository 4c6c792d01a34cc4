-- What the crate's own types hold.
use Rattle.std.specs.Prelude.{ℕ, Bool}
use Rattle.capacity.specs.declared.map.ConnectorMap.{ConnectorMap}
use Rattle.capacity.specs.declared.map.links.Links.{Links}
use Rattle.capacity.specs.declared.map.wishes.Wishes.{Wishes}
use Rattle.capacity.specs.declared.table.FullTable.{FullTable}
use Rattle.capacity.specs.declared.reserve.Reserve.{Reserve}
use Rattle.capacity.specs.Meaning.{Capacity, reserved}
use Rattle.capacity.specs.Network.{Network}
use Rattle.capacity.specs.Tables.{linked, kept_in, full}

abbrev pub joins_of : Links → ℕ → ℕ → Bool
joins_of l = linked l.joined

abbrev pub kept_of : Wishes → ℕ → ℕ → ℕ
kept_of w = kept_in w.figures

abbrev pub network_of : ConnectorMap → Network
network_of m = record { joins = joins_of m.links; kept = kept_of m.wishes }

abbrev pub table_of : FullTable → Capacity
table_of t = full (joins_of t.links) t.sides

-- a layer over a register with the meaning m
abbrev pub layered : {R : Type 0} → (R → Capacity) → Reserve R → Capacity
layered m s = reserved (m s.below) (kept_of s.wishes)
