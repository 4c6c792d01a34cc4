-- What the step answers is the only answer.
use Rattle.std.proofs.Common.{Ok, rules}
use Rattle.session.specs.declared.steps.Step.TheVariants.{Traded, Done}
use Rattle.session.specs.State.{state}
use Rattle.session.proofs.Once.{one_step}
use Rattle.session.proofs.state.Session.step.Goals as goal

pub returns-in-Some-clause-only : goal.returns-in-Some-clause-only
returns-in-Some-clause-only g c = one_step (state g.R.Register.meaning c.args.self.now) c.args.pass.number c.args.places.now (Ok (Traded c.in-Some.deal.trade c.args.pass)) _ _ (search rules)

pub returns-in-None-clause-only : goal.returns-in-None-clause-only
returns-in-None-clause-only g c = one_step (state g.R.Register.meaning c.args.self.now) c.args.pass.number c.args.places.now (Ok (Done (record { number = c.args.pass.number }))) _ _ (search rules)
