-- A change that no test refuses puts the order back as the newest.
use Rattle.std.proofs.Common.{sym, ap, ◌∙◌}
use mathlib.Core.Logic.{∥∥₁_map}
use Rattle.capacity.proofs.Passes.{answered_passes, passes_resulting}
use Rattle.book.specs.declared.rows.Order.{Order}
use Rattle.book.specs.Places.{place, numbered_of}
use Rattle.book.specs.Terms.{refusal}
use Rattle.session.specs.State.{State, state}
use Rattle.session.specs.Calls.{pass_test, terms_with, change_tests, changed}
use Rattle.session.proofs.Changing.{change_passed, changed_so}
use Rattle.session.proofs.state.Session.alter.Goals as goal

pub invariant_of-self : goal.invariant_of-self
invariant_of-self g c =
    let s : State = state g.R.Register.meaning c.args.self.now in
    let h = c.args.change.now in
    let found = c.in_ok-at.ensures.found in
    let terms = c.terms_of-terms.ensures ∙ ap (λ (o : Order). terms_with o h.limit h.quantity) (sym found.2) in
    let fit = c.entered-order.ensures.fit (ap refusal terms ∙ change_passed (pass_test s c.args.pass) s.book h.limit h.quantity _ c.in_ok-at.at found.0 (sym c.in_ok-at.ensures.answer)) in
    let number = ap (λ (o : Order). o.number) (c.entered-order.ensures.order) ∙ ap (λ (o : Order). o.number) (sym found.2) in
    record { orderly = ∥∥₁_map c.args.self.now.orderly (λ o. c.renew.ensures.orderly o fit number) }

pub returns-clause-after : goal.returns-clause-after
returns-clause-after g c =
    let s : State = state g.R.Register.meaning c.args.self.now in
    let h = c.args.change.now in
    let ts = change_tests s c.args.pass h.number h.member h.limit h.quantity in
    let found = c.in_ok-at.ensures.found in
    changed_so s h.limit h.quantity _ c.in_ok-at.at c.in_ok-at.old c.entered-order.result c.terms_of-terms.result _ found.0 found.2 c.terms_of-terms.ensures c.entered-order.ensures.order (c.renew.ensures.after found.1)
    ∙ passes_resulting ts s (changed s h.limit h.quantity (place (numbered_of h.number h.member) s.book)) (answered_passes ts (sym c.in_ok-at.ensures.answer))
