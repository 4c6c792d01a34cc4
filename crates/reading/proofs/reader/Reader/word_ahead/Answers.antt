use Rattle.reading.specs.Reading.{ahead}
use Rattle.reading.proofs.Words.{passed}
use Rattle.reading.proofs.reader.Reader.word_ahead.Goals as goal

pub loop-preserved : goal.loop-preserved
loop-preserved c = passed c.loop.counter (ahead c.args.self.now) c.loop.probe c.next_word.new.self c.next_word.result c.loop.invariant c.next_word.ensures
