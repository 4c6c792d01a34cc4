-- What `read` leaves to show.
use Rattle.std.proofs.Common.{rules}
use Rattle.numbers.specs.Reading.{Answers}
use Rattle.numbers.proofs.Once.{only}
use Rattle.numbers.proofs.read.Goals as goal

pub returns-in_err-read_amount-clause-only : goal.returns-in_err-read_amount-clause-only
returns-in_err-read_amount-clause-only g c =
    let h : Answers c.args.word.now c.args.unit g.F.Figure.signed (g.F.Figure.answer c.from_residual.result) = search rules in
    only g.met.F.Figure.laws _ _ _ c.from_residual.result h

pub returns-clause-only : goal.returns-clause-only
returns-clause-only g c =
    let h : Answers c.args.word.now c.args.unit g.F.Figure.signed (g.F.Figure.answer c.fit.result) = search rules in
    only g.met.F.Figure.laws _ _ _ c.fit.result h
