-- A session as it is begun.
use Rattle.std.proofs.Common.{ℕ, Bool, false, List, None, ap, ◌∙◌}
use Rattle.book.specs.declared.rows.Order.{Order}
use Rattle.book.specs.Places.{orders}
use Rattle.session.specs.State.{State}
use Rattle.session.proofs.Flags.{none_closed}
use Rattle.session.proofs.state.Session.begin.Goals as goal

pub returns-clause-after : goal.returns-clause-after
returns-clause-after g c =
    let over : (ℕ → Bool) → List Order → State = λ cs os. record { number = c.args.number; round = None; closed = cs; book = os; capacity = g.R.Register.meaning c.args.register } in
    ap (λ cs. over cs (orders c.new.result)) (none_closed 24) ∙ ap (over (λ k. false)) c.new.ensures
