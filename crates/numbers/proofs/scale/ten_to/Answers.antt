-- What `ten_to` leaves to show.
use Rattle.std.proofs.Common.{arith, sym, ◌∙◌}
use Rattle.numbers.proofs.Scaling.{no_fit, ten_low}
use Rattle.numbers.proofs.scale.ten_to.Goals as goal

pub returns-in_err-ok : goal.returns-in_err-ok
returns-in_err-ok c = rw c.from_residual.ensures (λ h. no_fit c.try_from.result _ _ c.try_from.ensures (sym c.ok.ensures.value ∙ c.in_err-ok.was) (omega (arith, ten_low c.args.by h)))
