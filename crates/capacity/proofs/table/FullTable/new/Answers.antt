-- A full table made for a map has all figures at nought.
use Rattle.std.proofs.Common.{ap, ◌∙◌, arith}
use Rattle.capacity.specs.Tables.{linked, fresh}
use Rattle.capacity.proofs.Filled.{fresh_is, small_same}
use Rattle.capacity.proofs.table.FullTable.new.Goals as goal

pub invariant_of-result : goal.invariant_of-result
invariant_of-result c = record { small = λ i. small_same 6144 i _ (omega arith, omega arith, omega arith) }

pub returns : goal.returns
returns c = fresh_is (linked c.links.result.joined) 6144 ∙ ap fresh c.links.ensures
