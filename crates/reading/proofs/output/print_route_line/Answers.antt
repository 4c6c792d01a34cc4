-- Letter, numbers, route and line end are heard as one line.
use Rattle.std.proofs.Common.{map}
use Rattle.reading.specs.Printing.{plain, number_of}
use Rattle.reading.proofs.Heard.{line_heard}
use Rattle.reading.proofs.output.print_route_line.Goals as goal

pub returns : goal.returns
returns g c =
    line_heard g.S.TextSink.hears g.S.TextSink.whole c.args.letter.now (map number_of c.args.numbers.now) (map plain c.args.route.now) _ _ _ _ _ c.hear.ensures c.print_numbers.ensures c.print_numbers-2.ensures c.hear-2.ensures
