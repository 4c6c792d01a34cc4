-- Words in euro, as limits, and what they are read as.
use Rattle.std.specs.Prelude.{true, false, pos, Ok, Err, codes}
use Rattle.numbers.specs.declared.Unit.TheVariants.{Euro}
use Rattle.numbers.specs.declared.NumberFault.TheVariants.{Form, Fraction, Range}
use Rattle.numbers.specs.Reading.{Answers}

abbrev pub Examples : Type 0
Examples =
    Answers (codes "1E-2") Euro true (Ok (pos 1))
    × Answers (codes "12E2") Euro true (Ok (pos 120000))
    × Answers (codes "-0") Euro true (Ok (pos 0))
    × Answers (codes "-0") Euro false (Ok (pos 0))
    × Answers (codes "1e-3") Euro true (Err Fraction)
    × Answers (codes "1.") Euro true (Err Form)
    × Answers (codes "0e999999999") Euro true (Ok (pos 0))
    × Answers (codes "1e999999999") Euro true (Err Range)
    × Answers (codes "1e-999999999") Euro true (Err Fraction)
