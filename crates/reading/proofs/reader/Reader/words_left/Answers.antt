use Rattle.std.proofs.Common.{◌+◌, ap, sym, ◌∙◌}
use Rattle.reading.proofs.Cuts.{how_many}
use Rattle.reading.proofs.reader.Reader.words_left.Goals as goal

pub returns-in-Some : goal.returns-in-Some
returns-in-Some c = rw c.in-Some.is (ap (λ n. n + 1) c.count_of.ensures ∙ sym (how_many 32 c.in-Some.line.now))
