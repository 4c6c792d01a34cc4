-- The numbers of the line are what is asked for.
use Rattle.std.proofs.Common.{w32, rules}
use Rattle.std.proofs.lemmas.Int.{to_z-of_z}
use Rattle.reading.specs.Making.{at}
use Rattle.lines.proofs.Asked.{change_is}
use Rattle.lines.proofs.asking.change.Goals as goal

pub returns-clause-call : goal.returns-clause-call
returns-clause-call c =
    let zs = c.in_ok-numbers.numbers in
    (zs, (c.in_ok-numbers.ensures.numbers, change_is zs c.sizes-counts.result _ c.sizes-counts.ensures (to_z-of_z w32 (at zs 2) (search rules))))
