use Rattle.std.proofs.Common.{◌≡◌, ◌+◌, length}
use Rattle.reading.specs.Reading.{ahead}
use Rattle.reading.specs.Fields.{InLine, WordsRead}
use Rattle.reading.proofs.Numbering.{ReadSoFar}
use Rattle.reading.proofs.reader.Reader.numbers.Given as goal

abbrev pub invariant-loop-i : goal.invariant-loop-i
invariant-loop-i g l =
    ReadSoFar l.fn.fields (ahead l.initial.self) l.i (ahead l.self) l.numbers
    × InLine l.initial.self l.self
    × WordsRead l.i l.initial.self l.self
    × (l.i + length (ahead l.self) ≡ length l.fn.fields)
    × (length l.numbers ≡ length l.fn.fields)
