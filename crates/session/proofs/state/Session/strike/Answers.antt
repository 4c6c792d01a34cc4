-- A withdrawal leaves the book orderly.
use mathlib.Core.Logic.{∥∥₁_map}
use Rattle.session.proofs.state.Session.strike.Goals as goal

pub invariant_of-self : goal.invariant_of-self
invariant_of-self g c = record { orderly = ∥∥₁_map c.args.self.now.orderly c.remove.ensures.orderly }
