-- A notice is a call that the register answers by the tests of a notice.
use Rattle.std.proofs.Common.{◌∙◌, rules}
use Rattle.capacity.specs.Answers.{notice_tests}
use Rattle.capacity.specs.Meaning.{noticed}
use Rattle.session.specs.State.{State, state}
use Rattle.session.proofs.state.Session.notice.Goals as goal

pub returns : goal.returns
returns g c =
    let s : State = state g.R.Register.meaning c.args.self.now in
    let d = c.args.direction in
    let asked = c.ask-checked.ensures.asked (notice_tests s.capacity d.contract d.from d.to c.args.figures) (noticed s.capacity d.contract d.from d.to c.args.figures) (λ a r h. search rules) in
    record { answer = c.into_round.ensures.answer ∙ asked.0; after = asked.1; pass = c.into_round.ensures.pass; memory = c.ask-checked.ensures.memory (λ a r h. search rules) }
