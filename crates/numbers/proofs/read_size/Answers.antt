-- What `read_size` leaves to show.
use Rattle.std.proofs.Common.{◌≡◌, Ok, Err, MatchResult, rules}
use Rattle.std.proofs.lemmas.Option.{MatchOption-at_some}
use Rattle.std.proofs.lemmas.Result.{err_from_is_err_and}
use Rattle.numbers.specs.declared.NumberFault.TheVariants.{Range}
use Rattle.numbers.proofs.Scaling.{sized, no_size}
use Rattle.numbers.proofs.read_size.Goals as goal

pub returns-in_err-size : goal.returns-in_err-size
returns-in_err-size c =
    let p = err_from_is_err_and c.from_residual-in_err-size.result c.from_residual-in_err-size.ensures.1 in
    let h = MatchOption-at_some _ _ c.in_ok-number.number c.in_ok-number.ensures.ok_part c.scan_body.ensures in
    rw (p.1, p.2) (no_size _ c.args.unit _ _ h c.in_err-size.field-0.0 c.in_err-size.ensures)

pub returns : goal.returns
returns c =
    let k : MatchResult c.try_from.result (λ x. c.map_err.result ≡ Ok x) (λ _. c.map_err.result ≡ Err Range) = search rules in
    let h = MatchOption-at_some _ _ c.in_ok-number.number c.in_ok-number.ensures.ok_part c.scan_body.ensures in
    sized _ c.args.unit _ _ h c.in_ok-size.size c.try_from.result c.map_err.result c.in_ok-size.ensures c.try_from.ensures k
