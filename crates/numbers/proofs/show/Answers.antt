-- What `show` leaves to show.
use Rattle.std.proofs.Common.{◌≡◌, Ok, subst, sym, rules}
use Rattle.numbers.specs.Reading.{Answers}
use Rattle.numbers.specs.Printing.{shown, text_of}
use Rattle.numbers.proofs.Printed.{back}
use Rattle.numbers.proofs.show.Goals as goal

pub returns-clause-back : goal.returns-clause-back
returns-clause-back g c = λ k.
    let z = g.F.Figure.value c.args.figure in
    let e : text_of c.show_size.result ≡ shown c.args.unit z = search rules in
    subst (λ x. Answers x c.args.unit g.F.Figure.signed (Ok z)) (sym e) (back c.args.unit g.F.Figure.signed z (c.units-n.ensures.again k))
