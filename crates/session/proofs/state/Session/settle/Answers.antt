-- The takes along the route are granted, and the book is settled.
use mathlib.Core.Logic.{∥∥₁_map}
use Rattle.std.proofs.Common.{List, ap, ◌∙◌}
use Rattle.book.specs.declared.rows.Order.{Order}
use Rattle.capacity.specs.Meaning.{Capacity}
use Rattle.session.specs.State.{State, state}
use Rattle.session.proofs.Carrying.{deal_carries, by_order}
use Rattle.session.proofs.state.Session.settle.Goals as goal

pub invariant_of-self : goal.invariant_of-self
invariant_of-self g c = record { orderly = ∥∥₁_map c.args.self.now.orderly c.trade.ensures.orderly }

pub returns : goal.returns
returns g c =
    let s = state g.R.Register.meaning c.args.self.now in
    let over : List Order → Capacity → State = λ os m. record { number = s.number; round = s.round; closed = s.closed; book = os; capacity = m } in
    let book = by_order c.args.self.now.orderly (λ h. c.trade.ensures.after h.fit) in
    let taken = (c.carry.ensures.traded _ _ _ (deal_carries s.capacity s.book c.requires.0 _ _ c.args.self.now.orderly c.requires.1)).granted in
    record {
      after = ap (λ (os : List Order). over os (g.R.Register.meaning c.carry.new.register)) book ∙ ap (over _) taken;
      memory = c.carry.ensures.memory;
    }
