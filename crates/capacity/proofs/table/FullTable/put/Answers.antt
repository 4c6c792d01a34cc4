-- Both sides of a pair written.
use Rattle.std.proofs.Common.{◌≡◌, length, ap, ◌∙◌, rules}
use Rattle.capacity.specs.declared.direction.Direction.{Direction}
use Rattle.capacity.specs.Tables.{linked, place}
use Rattle.capacity.proofs.Filled.{full_paired}
use Rattle.capacity.proofs.Sided.{on_known}
use Rattle.capacity.proofs.table.FullTable.put.Goals as goal

pub returns : goal.returns
returns c =
    let t = c.args.self.now in
    let d = c.args.direction in
    let o = on_known (linked t.links.joined) d.contract d.from d.to c.requires.contract c.requires.joined in
    let len : length t.sides ≡ 6144 = search rules in
    full_paired t.links.joined t.sides d.contract d.from d.to _ _ c.args.pair.there c.args.pair.back o len c.place-i.ensures (c.place-j.ensures ∙ ap (λ (x : Direction). place x.contract x.from x.to) c.back.ensures)
