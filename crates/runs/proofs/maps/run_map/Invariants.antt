-- What the M lines so far have printed, and what may follow.
use Rattle.std.proofs.Common.{length}
use Rattle.capacity.specs.Network.{no_network}
use Rattle.capacity.specs.Shapes.{network_of}
use Rattle.reading.specs.Reading.{below}
use Rattle.runs.specs.Running.{PrintsSome, MapsBelow}
use Rattle.runs.proofs.maps.run_map.Given as goal

abbrev pub invariant-loop-reader : goal.invariant-loop-reader
invariant-loop-reader g l = PrintsSome g.S.TextSink.hears (MapsBelow no_network l.initial.reader) (MapsBelow (network_of l.map) l.reader) l.initial.out.sink l.out.sink

abbrev pub decreases-loop-reader : goal.decreases-loop-reader
decreases-loop-reader g l = length (below l.reader)
