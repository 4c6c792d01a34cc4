-- The lines so far are heard.
use Rattle.std.proofs.Common.{map, take}
use Rattle.reading.specs.Printing.{lines_text}
use Rattle.screens.specs.Lines.{capacity_line}
use Rattle.screens.proofs.screen.print_capacities.Given as goal

abbrev pub invariant-loop-line : goal.invariant-loop-line
invariant-loop-line g l = g.S.TextSink.hears l.initial.out (lines_text (map (capacity_line l.contract) (take l.line-index l.line-items))) l.out
