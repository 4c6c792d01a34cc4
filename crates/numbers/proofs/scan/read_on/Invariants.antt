-- What the loop of `read_on` keeps, and what falls.
use Rattle.std.proofs.Common.{drop}
use Rattle.numbers.specs.Numerals.{number_on}
use Rattle.numbers.proofs.Laws.{Left}
use Rattle.numbers.proofs.scan.read_on.Given as goal

abbrev pub invariant-loop-d : goal.invariant-loop-d
invariant-loop-d l = Left (number_on l.start l.ds) l.n (drop l.d-index l.ds)
