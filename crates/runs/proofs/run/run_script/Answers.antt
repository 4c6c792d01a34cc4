-- A script that is not too long and has its header prints what its map and its calls print.
use Rattle.std.proofs.Common.{◌<◌, ◌≤◌, length, rules}
use Rattle.capacity.specs.Shapes.{table_of, layered}
use Rattle.session.specs.State.{state}
use Rattle.runs.proofs.Printing.{script_run, too_long_run, no_header_run}
use Rattle.runs.proofs.run.run_script.Goals as goal

pub returns : goal.returns
returns g c =
    let short : length c.args.script.now ≤ 65536 = search rules in
    script_run g.S.TextSink.hears g.S.TextSink.whole c.args.script.now c.new-reader.result c.header.new.reader c.run_map-map.new.reader _ _ (state (layered table_of) c.run_calls-session.result) c.args.out.now.sink c.run_map-map.new.out.sink c.run_calls-session.new.out.sink short c.new-reader.ensures c.if-not-header.ensures c.run_map-map.ensures c.into_register.ensures c.run_calls-session.ensures

pub returns-then-script-gt-SCRIPT_MOST : goal.returns-then-script-gt-SCRIPT_MOST
returns-then-script-gt-SCRIPT_MOST g c =
    let long : 65536 < length c.args.script.now = search rules in
    too_long_run g.S.TextSink.hears g.S.TextSink.whole c.args.script.now c.args.out.now.sink c.refuse.new.out long c.refuse.ensures

pub returns-then-not-header : goal.returns-then-not-header
returns-then-not-header g c =
    let short : length c.args.script.now ≤ 65536 = search rules in
    no_header_run g.S.TextSink.hears g.S.TextSink.whole c.args.script.now c.new-reader.result c.header.new.reader c.args.out.now.sink c.refuse-then-not-header.new.out short c.new-reader.ensures c.if-not-header.ensures c.refuse-then-not-header.ensures
