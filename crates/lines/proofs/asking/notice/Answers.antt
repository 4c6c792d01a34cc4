-- The counts of the line are what is asked for.
use Rattle.std.proofs.Common.{refl}
use Rattle.reading.specs.Making.{sizes}
use Rattle.reading.specs.Reading.{ahead}
use Rattle.reading.proofs.Made.{made}
use Rattle.lines.specs.Asking.{notice_fields, notice}
use Rattle.lines.proofs.asking.notice.Goals as goal

pub returns-clause-call : goal.returns-clause-call
returns-clause-call c = made notice c.args.reader.now.words notice_fields sizes (ahead c.args.reader.now) c.in_ok-counts.counts _ c.in_ok-counts.ensures.counts refl
