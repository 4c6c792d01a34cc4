-- The ATC of the cells, by its formula.
use Rattle.std.proofs.Common.{sym, arith}
use Rattle.std.proofs.lemmas.Int.{ints}
use Rattle.capacity.proofs.Layers.{asked_known}
use Rattle.capacity.proofs.Pairs.{shown_atc}
use Rattle.capacity.proofs.Sided.{on_served}
use Rattle.cells.specs.Shapes.{cells_of}
use Rattle.cells.proofs.register.calls.CellRegisterRegister.atc.Goals as goal

pub returns : goal.returns
returns c =
    let t = c.args.self.now in
    let d = c.args.direction in
    let s = on_served t.map.now.links.joined d.contract d.from d.to (sym c.if-not-serves.ensures) in
    let e = shown_atc (cells_of t) d.contract d.from d.to _ _ c.pair-pair.ensures.shows in
    asked_known (cells_of t) d.contract d.from d.to _ _ s.contract s.joined (omega (arith, ints))
