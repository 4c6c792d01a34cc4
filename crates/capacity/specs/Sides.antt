-- One direction at nought, and how far its numbers go.
use Rattle.std.specs.Prelude.{◌≤◌}
use Rattle.capacity.specs.declared.side.Side.{Side}

abbrev pub no_side : Side
no_side = record { ntc = 0; aac = 0; used = 0 }

abbrev pub Small : Side → Type 0
Small s = (s.ntc ≤ 99999) × (s.aac ≤ 99999) × (s.used ≤ 199998)
