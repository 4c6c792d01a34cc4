-- The ATC of the table, by its formula.
use Rattle.std.proofs.Common.{sym, arith}
use Rattle.std.proofs.lemmas.Int.{ints}
use Rattle.capacity.specs.Shapes.{table_of}
use Rattle.capacity.proofs.Layers.{asked_known}
use Rattle.capacity.proofs.Pairs.{shown_atc}
use Rattle.capacity.proofs.Sided.{on_served}
use Rattle.capacity.proofs.table.calls.FullTableRegister.atc.Goals as goal

pub returns : goal.returns
returns c =
    let t = c.args.self.now in
    let d = c.args.direction in
    let s = on_served t.links.joined d.contract d.from d.to (sym c.if-not-serves.ensures) in
    let e = shown_atc (table_of t) d.contract d.from d.to _ _ c.pair-pair.ensures in
    asked_known (table_of t) d.contract d.from d.to _ _ s.contract s.joined (omega (arith, ints))
