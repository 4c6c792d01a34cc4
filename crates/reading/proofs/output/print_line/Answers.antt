-- With no route.
use Rattle.std.proofs.Common.{ap, map, append-nil}
use Rattle.reading.specs.Printing.{number_of, line_text}
use Rattle.reading.proofs.Heard.{heard_as}
use Rattle.reading.proofs.output.print_line.Goals as goal

pub returns : goal.returns
returns g c =
    heard_as g.S.TextSink.hears g.S.TextSink.whole _ _ _ _ (ap (λ ns. line_text (record { letter = c.args.letter.now; numbers = ns })) (append-nil (map number_of c.args.numbers.now))) c.print_route_line.ensures
