-- A map with no connector: its table is empty and its count is nought.
use Rattle.std.proofs.Common.{sym, arith}
use mathlib.Core.Path.{fun_ext}
use Rattle.capacity.proofs.Links.{none_linked, no_connectors}
use Rattle.capacity.proofs.map.links.Links.none.Goals as goal

pub invariant_of-result : goal.invariant_of-result
invariant_of-result c = record { counted = sym (no_connectors _ (none_linked 256)); few = omega arith }

pub returns : goal.returns
returns c = fun_ext (λ a. fun_ext (λ b. none_linked 256 a b))
