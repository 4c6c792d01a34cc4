-- One more connector: the table has the pair, and the count is one more.
use Rattle.std.proofs.Common.{◌≡◌, ◌+◌, false, length, sym, ap, ◌∙◌, arith, rules}
use mathlib.Core.Path.{fun_ext}
use Rattle.capacity.specs.Network.{connectors}
use Rattle.capacity.specs.Tables.{linked}
use Rattle.capacity.proofs.Links.{linked_set, count_set}
use Rattle.capacity.proofs.map.links.Links.join.Goals as goal

pub invariant_of-self : goal.invariant_of-self
invariant_of-self c =
    let js = c.args.self.now.joined in
    let len : length js ≡ 256 = search rules in
    let free : linked js c.args.from c.args.to ≡ false = search rules in
    let was : c.args.self.now.count ≡ connectors (linked js) = c.args.self.now.counted in
    let more = count_set js c.args.from c.args.to (omega arith) (omega arith) (search rules) len free in
    record { counted = rw (c.min-low.ensures, c.max-high.ensures) (ap (λ n. n + 1) was ∙ sym more); few = omega arith }

pub returns-clause-after : goal.returns-clause-after
returns-clause-after c =
    let js = c.args.self.now.joined in
    let len : length js ≡ 256 = search rules in
    rw (c.min-low.ensures, c.max-high.ensures) (fun_ext (λ a. fun_ext (λ b. linked_set js c.args.from c.args.to (omega arith) (omega arith) (search rules) len a b)))
