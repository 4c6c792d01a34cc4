-- So many words are passed.
use Rattle.std.proofs.Common.{◌≡◌, drop}
use Rattle.reading.specs.Reading.{ahead}
use Rattle.reading.proofs.reader.Reader.word_ahead.Given as goal

abbrev pub invariant-loop : goal.invariant-loop
invariant-loop l = ahead l.probe ≡ drop l.counter (ahead l.self)
