-- A register in cells that the caller lends, as a session over it begins.
use Rattle.std.specs.Prelude.{ℕ}
use Rattle.capacity.specs.Meaning.{Capacity, reserved}
use Rattle.capacity.specs.Network.{Network}
use Rattle.cells.specs.Meaning.{unnoted}

-- these connectors, none noted, room for k pairs, and what is kept back on them
abbrev pub lent_kept : Network → ℕ → Capacity
lent_kept n k = reserved (unnoted n.joins k) n.kept
