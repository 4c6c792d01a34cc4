-- The counts of the line are what is asked for.
use Rattle.std.proofs.Common.{refl}
use Rattle.reading.specs.Making.{sizes, link_fields, link}
use Rattle.reading.specs.Reading.{ahead}
use Rattle.reading.proofs.Made.{made}
use Rattle.reading.proofs.reader.Reader.link.Goals as goal

pub returns-clause-link : goal.returns-clause-link
returns-clause-link c = made link c.args.self.now.words link_fields sizes (ahead c.args.self.now) c.in_ok-counts.counts _ c.in_ok-counts.ensures.counts refl
