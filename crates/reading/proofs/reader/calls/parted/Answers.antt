use Rattle.std.proofs.Common.{sym}
use Rattle.reading.proofs.Cuts.{parted_whole, parted_first}
use Rattle.reading.proofs.reader.calls.parted.Goals as goal

pub returns-in-Some : goal.returns-in-Some
returns-in-Some c = parted_first c.args.b c.args.text.now c.in-Some.end (sym c.in-Some.ensures)

pub returns-in-None : goal.returns-in-None
returns-in-None c = parted_whole c.args.b c.args.text.now (sym c.in-None.ensures)
