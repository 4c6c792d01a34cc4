-- A step carries every history on, and has one answer.
use Rattle.session.specs.State.{state}
use Rattle.history.proofs.Extending.{extends}
use Rattle.history.proofs.Once.{one_answer}
use Rattle.history.proofs.Told.{standing_told}
use Rattle.history.proofs.carrying.step.Goals as goal

pub returns-clause-lawful : goal.returns-clause-lawful
returns-clause-lawful g c = extends _ _ _ c.step.ensures.happens

pub returns-clause-standing : goal.returns-clause-standing
returns-clause-standing g c = standing_told

pub returns-clause-once : goal.returns-clause-once
returns-clause-once g c = (one_answer (state g.R.Register.meaning c.args.session.now) c.args.pass.number).1
