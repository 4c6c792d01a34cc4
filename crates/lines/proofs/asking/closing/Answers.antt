-- The counts of the line are what is asked for.
use Rattle.std.proofs.Common.{refl}
use Rattle.reading.specs.Making.{sizes}
use Rattle.reading.specs.Reading.{ahead}
use Rattle.reading.proofs.Made.{made}
use Rattle.lines.specs.Asking.{closing_fields, closing}
use Rattle.lines.proofs.asking.closing.Goals as goal

pub returns-clause-call : goal.returns-clause-call
returns-clause-call c = made closing c.args.reader.now.words closing_fields sizes (ahead c.args.reader.now) c.in_ok-counts.counts _ c.in_ok-counts.ensures.counts refl
