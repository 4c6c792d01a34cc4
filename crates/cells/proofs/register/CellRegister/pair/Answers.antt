-- A pair, from the first cell for it.
use Rattle.std.proofs.Common.{◌-◌, length, sym, ◌∙◌}
use Rattle.cells.specs.Shapes.{in_use}
use Rattle.cells.proofs.Held.{sides_none, sides_first, sides_show}
use Rattle.cells.proofs.register.CellRegister.pair.Goals as goal

pub returns-in_default : goal.returns-in_default
returns-in_default c =
    let r = c.args.self.now in
    let d = c.args.direction in
    let said = sides_none (in_use r) d.contract d.from d.to _ _ (sym c.in_default.is ∙ c.find.ensures) c.none.ensures.0 c.none.ensures.1 in
    record {
      shows = sides_show r.map.now.links.joined (in_use r) (length r.cells.now - r.count) d.contract d.from d.to _ _ c.requires said;
      there = said.0;
      back = said.1;
    }

pub returns : goal.returns
returns c =
    let r = c.args.self.now in
    let d = c.args.direction in
    let said = sides_first r.cells.now r.count d.contract d.from d.to c.in-Some.i c.index-self-i.result _ _ c.requires.apart (sym c.find.ensures ∙ c.in-Some.is) c.pair.ensures.there c.pair.ensures.back in
    record {
      shows = sides_show r.map.now.links.joined (in_use r) (length r.cells.now - r.count) d.contract d.from d.to _ _ c.requires said;
      there = said.0;
      back = said.1;
    }
