-- A closing leaves the book orderly, and one more contract closed.
use mathlib.Core.Logic.{∥∥₁_map}
use Rattle.session.proofs.state.Session.close.Goals as goal

pub invariant_of-self : goal.invariant_of-self
invariant_of-self g c = record { orderly = ∥∥₁_map c.args.self.now.orderly c.close-gone.ensures.orderly }
