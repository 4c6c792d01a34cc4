-- The numbers so far are heard.
use Rattle.std.proofs.Common.{map, take}
use Rattle.reading.specs.Printing.{numbers_text}
use Rattle.reading.proofs.output.print_numbers.Given as goal

abbrev pub invariant-loop-number : goal.invariant-loop-number
invariant-loop-number g l = g.S.TextSink.hears l.initial.out (numbers_text (map g.N.Printed.number (take l.number-index l.numbers))) l.out
