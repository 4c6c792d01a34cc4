-- The numbers so far are without their signs.
use Rattle.std.proofs.Common.{◌≡◌, take, length}
use Rattle.reading.specs.Making.{sizes}
use Rattle.reading.proofs.fields.sizes.Given as goal

abbrev pub invariant-loop-i : goal.invariant-loop-i
invariant-loop-i g l = (take l.i l.sizes ≡ sizes (take l.i l.fn.numbers)) × (length l.sizes ≡ length l.fn.numbers)
