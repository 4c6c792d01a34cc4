-- A take from a layer: refused by its own tests, or granted below too.
use Rattle.std.proofs.Common.{Err, refl, sym, ap, ◌∙◌}
use Rattle.std.proofs.lemmas.Result.{err_from_is_err_and}
use Rattle.capacity.specs.Meaning.{Capacity, reserved, taken}
use Rattle.capacity.specs.Answers.{take_tests}
use Rattle.capacity.specs.Shapes.{kept_of}
use Rattle.capacity.proofs.Passes.{answered_passes, passes_answered, passes_resulting}
use Rattle.capacity.proofs.Calls.{refused}
use Rattle.capacity.proofs.Layers.{passes_granted, granted_passes, granted_below}
use Rattle.capacity.proofs.reserve.ReserveRegister.take.Goals as goal

pub returns-in_err-check_take : goal.returns-in_err-check_take
returns-in_err-check_take g c =
    let d = c.args.direction in
    let n = reserved (g.R.Register.meaning c.args.self.now.below) (kept_of c.args.self.now.wishes) in
    let p = err_from_is_err_and c.from_residual.result c.from_residual.ensures.1 in
    let r = refused (take_tests n d.contract d.from d.to c.args.quantity) n _ _ _ (p.1 ∙ ap Err p.2) (c.in_err-check_take.ensures.answer n c.atc-flow.ensures) in
    record { answer = r.0; after = r.1; memory = (refl, g.R.Register.chains.none c.args.self.now.below) }

pub returns : goal.returns
returns g c =
    let m = g.R.Register.meaning c.args.self.now.below in
    let w = kept_of c.args.self.now.wishes in
    let n = reserved m w in
    let k = c.args.direction.contract in
    let x = c.args.direction.from in
    let y = c.args.direction.to in
    let q = c.args.quantity in
    let e = c.in_ok-check_take.ensures.answer n c.atc-flow.ensures in
    let above = answered_passes (take_tests n k x y q) e in
    let below = granted_passes m k x y q (granted_below m w (g.R.Register.sound c.args.self.now.below) k x y q (passes_granted n k x y q above)) in
    record {
      answer = c.take.ensures.answer ∙ sym (passes_answered (take_tests m k x y q) below) ∙ e;
      after =
          ap (λ (t : Capacity). reserved t w) (c.take.ensures.after ∙ sym (passes_resulting (take_tests m k x y q) m (taken m k x y q) below))
          ∙ passes_resulting (take_tests n k x y q) n (taken n k x y q) above;
      memory = (refl, c.take.ensures.memory);
    }
