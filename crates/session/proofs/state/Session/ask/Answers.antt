-- The register refuses, or it accepts and a batch round begins.
use Rattle.std.proofs.Common.{Err, refl, ap, ◌∙◌}
use Rattle.std.proofs.lemmas.Result.{err_from_is_err_and}
use Rattle.capacity.specs.Tests.{said}
use Rattle.session.specs.Faults.{told}
use Rattle.session.specs.State.{State, state}
use Rattle.session.proofs.Asking.{asked_refused, asked_granted}
use Rattle.session.proofs.state.Session.ask.Goals as goal

pub returns-in_err-call : goal.returns-in_err-call
returns-in_err-call g c =
    let s : State = state g.R.Register.meaning c.args.self.now in
    let p = err_from_is_err_and c.from_residual-in_err-call.result c.from_residual-in_err-call.ensures.1 in
    record {
      asked = λ ts m by.
          let gave = by _ _ (record { shown = _; shows = refl; left = _; met = c.in_err-call.ensures; leaves = refl }) in
          let so = asked_refused s c.args.pass c.args.direction.contract ts m _ c.in_ok-check_quiet.ensures c.in_ok-check_open.ensures _ gave.0 gave.1 in
          (ap (said told) (p.1 ∙ ap Err p.2) ∙ so.0, so.1);
      memory = λ by. by _ _ (record { shown = _; shows = refl; left = _; met = c.in_err-call.ensures; leaves = refl });
    }

pub returns : goal.returns
returns g c =
    let s : State = state g.R.Register.meaning c.args.self.now in
    record {
      asked = λ ts m by.
          let gave = by _ _ (record { shown = _; shows = refl; left = _; met = c.in_ok-call.ensures; leaves = refl }) in
          asked_granted s c.args.pass c.args.direction.contract ts m _ c.in_ok-check_quiet.ensures c.in_ok-check_open.ensures gave.0 gave.1;
      memory = λ by. by _ _ (record { shown = _; shows = refl; left = _; met = c.in_ok-call.ensures; leaves = refl });
    }
