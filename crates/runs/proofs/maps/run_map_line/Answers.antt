-- An M line is told by what it comes to, and has one answer; an accepted one is heard as nothing.
use Rattle.std.proofs.Common.{rules}
use Rattle.capacity.specs.Shapes.{network_of}
use Rattle.reading.specs.Printing.{lines_text}
use Rattle.reading.specs.Reading.{ahead}
use Rattle.runs.specs.Maps.{map_printed}
use Rattle.runs.proofs.Once.{one_link}
use Rattle.runs.proofs.Told.{map_line_run}
use Rattle.runs.proofs.maps.run_map_line.Goals as goal

pub returns-in-Err-clause-line : goal.returns-in-Err-clause-line
returns-in-Err-clause-line g c =
    let r = c.args.reader.now in
    let answer = c.map_line-answer.result in
    let heard : g.S.TextSink.hears c.args.out.now.sink (lines_text (map_printed r.lines answer)) c.refuse.new.out = search rules in
    map_line_run g.S.TextSink.hears _ _ r answer _ _ c.map_line-answer.ensures.line heard

pub returns-in_default-clause-line : goal.returns-in_default-clause-line
returns-in_default-clause-line g c =
    let r = c.args.reader.now in
    let answer = c.map_line-answer.result in
    let heard : g.S.TextSink.hears c.args.out.now.sink (lines_text (map_printed r.lines answer)) c.args.out.now.sink = search rules in
    map_line_run g.S.TextSink.hears _ _ r answer _ _ c.map_line-answer.ensures.line heard

pub returns-in-Err-clause-only : goal.returns-in-Err-clause-only
returns-in-Err-clause-only g c = one_link c.args.reader.now.words (network_of c.args.map.now) (ahead c.args.reader.now)

pub returns-in_default-clause-only : goal.returns-in_default-clause-only
returns-in_default-clause-only g c = one_link c.args.reader.now.words (network_of c.args.map.now) (ahead c.args.reader.now)
