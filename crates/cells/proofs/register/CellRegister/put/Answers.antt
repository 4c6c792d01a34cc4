-- A pair written in its place.
use Rattle.std.proofs.Common.{refl, sym, ◌∙◌}
use Rattle.cells.proofs.Held.{put_over, put_new}
use Rattle.cells.proofs.Lent.{set_over, set_new}
use Rattle.cells.proofs.register.CellRegister.put.Goals as goal

pub returns-in-Some-clause-meaning : goal.returns-in-Some-clause-meaning
returns-in-Some-clause-meaning c =
    let r = c.args.self.now in
    put_over r.map.now.links.joined r.cells.now r.count c.in-Some.i (record { direction = c.args.direction; pair = c.args.pair }) c.requires.served (sym c.find.ensures ∙ c.in-Some.is)

pub returns-in-None-clause-meaning : goal.returns-in-None-clause-meaning
returns-in-None-clause-meaning c =
    let r = c.args.self.now in
    let e = sym c.in-None.is ∙ c.find.ensures in
    put_new r.map.now.links.joined r.cells.now r.count (record { direction = c.args.direction; pair = c.args.pair }) c.requires.served e (c.requires.room e)

pub returns-in-Some-clause-set : goal.returns-in-Some-clause-set
returns-in-Some-clause-set c =
    set_over c.args.self.now _ c.args.direction (record { direction = c.args.direction; pair = c.args.pair }) c.in-Some.i refl (sym c.find.ensures ∙ c.in-Some.is) refl refl

pub returns-in-None-clause-set : goal.returns-in-None-clause-set
returns-in-None-clause-set c =
    let e = sym c.in-None.is ∙ c.find.ensures in
    set_new c.args.self.now _ c.args.direction (record { direction = c.args.direction; pair = c.args.pair }) refl (sym e) (c.requires.room e) refl refl
