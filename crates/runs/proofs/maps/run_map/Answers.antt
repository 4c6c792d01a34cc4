-- One M line after another is run.
use Rattle.std.proofs.Common.{◌≡◌, Some, rules}
use Rattle.capacity.specs.Network.{no_network}
use Rattle.reading.specs.Fields.{letter_below}
use Rattle.reading.specs.Reading.{below}
use Rattle.runs.specs.Running.{MapsBelow}
use Rattle.runs.proofs.Printing.{m_line, map_more}
use Rattle.runs.proofs.maps.run_map.Goals as goal

pub loop-reader-preserved : goal.loop-reader-preserved
loop-reader-preserved g c =
    let s = c.loop-reader.reader in
    let l = c.run_map_line.ensures in
    let letter : letter_below (below s) ≡ Some 77 = search rules in
    let m = m_line s _ _ _ _ letter c.next_line.ensures c.letter.ensures in
    map_more g.S.TextSink.hears g.S.TextSink.whole (MapsBelow no_network c.args.reader.now) _ _ s c.letter.new.self c.run_map_line.new.reader c.run_map_line.result c.args.out.now.sink c.loop-reader.out.sink c.run_map_line.new.out.sink c.loop-reader.invariant m l.line l.stays
