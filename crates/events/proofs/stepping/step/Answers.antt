-- The trade of a step is told as it was made.
use Rattle.events.proofs.Placing.{step_told}
use Rattle.events.proofs.stepping.step.Goals as goal

pub returns-in-Ok-Traded-clause-happens : goal.returns-in-Ok-Traded-clause-happens
returns-in-Ok-Traded-clause-happens g c =
    let did = rw c.in-Ok-Traded.field-0-is at c.in-Ok-Traded.ensures.step in
    (did.0, (step_told _ _ _ _ _ _ did.1 c.new-traded.ensures).0)

pub returns-in-Ok-Traded-clause-places : goal.returns-in-Ok-Traded-clause-places
returns-in-Ok-Traded-clause-places g c =
    let did = rw c.in-Ok-Traded.field-0-is at c.in-Ok-Traded.ensures.step in
    (step_told _ _ _ _ _ _ did.1 c.new-traded.ensures).1
