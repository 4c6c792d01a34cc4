-- The lines so far are heard.
use Rattle.std.proofs.Common.{map, take}
use Rattle.reading.specs.Printing.{lines_text}
use Rattle.screens.specs.Lines.{book_line}
use Rattle.screens.proofs.screen.print_book.Given as goal

abbrev pub invariant-loop-line : goal.invariant-loop-line
invariant-loop-line g l = g.S.TextSink.hears l.initial.out (lines_text (map (book_line l.contract l.area) (take l.line-index l.line-items))) l.out
