-- What the script prints is heard, is determined, reads back, and is text.
use Rattle.history.proofs.Once.{one_answer}
use Rattle.history.proofs.Together.{laws_hold}
use Rattle.history.proofs.Told.{standing_told}
use Rattle.runs.proofs.ReadingBack.{reads_back, prints_text}
use Rattle.runs.proofs.Once.{one_print}
use Rattle.runs.proofs.Printing.{printed_run}
use Rattle.runs.specs.Runs.{left}
use Rattle.runs.proofs.run.run.Goals as goal

pub returns-clause-prints : goal.returns-clause-prints
returns-clause-prints g c =
    let all = printed_run g.S.TextSink.hears g.S.TextSink.whole c.args.script.now (left c.run_script-session.result) c.args.out c.print_mark.new.out c.run_script-session.new.out.sink c.print_mark.ensures c.run_script-session.ensures in
    (all.0, all.1.0, all.1.1)

pub returns-clause-only : goal.returns-clause-only
returns-clause-only g c = one_print c.args.script.now

pub returns-clause-reads_back : goal.returns-clause-reads_back
returns-clause-reads_back g c = reads_back c.args.script.now

pub returns-clause-text : goal.returns-clause-text
returns-clause-text g c = prints_text c.args.script.now

pub returns-clause-laws : goal.returns-clause-laws
returns-clause-laws g c = laws_hold

pub returns-clause-standing : goal.returns-clause-standing
returns-clause-standing g c = standing_told

pub returns-clause-once : goal.returns-clause-once
returns-clause-once g c = one_answer
