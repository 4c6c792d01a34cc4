-- What a call line is refused by: the number, the place of the word at fault, and the session's refusal whole.
use Rattle.std.specs.Prelude.{ℕ, Option}
use Rattle.session.specs.Faults as session
use Rattle.reading.specs.Faults.{LineRefusal, own_refusal, lower_refusal}
use Rattle.lines.specs.declared.faults.LineFault.{LineFault}
use Rattle.lines.specs.declared.faults.LineFault.TheVariants.{Word, Session}

-- The session's has the register's whole: contract, from and to, and for 13 the ATC.
abbrev pub told : LineFault → LineRefusal session.Refusal
told (Word f) = own_refusal f
told (Session f) = let r = session.told f in lower_refusal (session.number_of r) r

abbrev pub number : LineFault → ℕ
number f = (told f).number

abbrev pub place : LineFault → Option ℕ
place f = (told f).place
