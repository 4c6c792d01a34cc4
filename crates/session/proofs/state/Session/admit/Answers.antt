-- An entry: refused by its tests, or made the newest order.
use Rattle.std.proofs.Common.{[], ◌∷◌, ◌++◌, Err, refl, ap, ◌∙◌}
use mathlib.Core.Logic.{∥∥₁_map}
use Rattle.std.proofs.lemmas.Result.{err_from_is_err_and}
use Rattle.capacity.specs.Tests.{said}
use Rattle.capacity.proofs.Passes.{refused_resulting}
use Rattle.book.specs.declared.rows.Order.{Order}
use Rattle.book.specs.Places.{place, numbered}
use Rattle.session.specs.Faults.{told}
use Rattle.session.specs.State.{State, state}
use Rattle.session.specs.Calls.{entry_checks, full_test, after_entry}
use Rattle.session.proofs.Deciding.{refused_on, entry_passed}
use Rattle.session.proofs.state.Session.admit.Goals as goal

pub returns-in_err-check_entry : goal.returns-in_err-check_entry
returns-in_err-check_entry g c =
    let s : State = state g.R.Register.meaning c.args.self.now in
    let ts = entry_checks s c.args.pass c.args.entry.now in
    let p = err_from_is_err_and c.from_residual.result c.from_residual.ensures.1 in
    let e = refused_on ts (full_test s ∷ []) _ c.in_err-check_entry.ensures in
    record { answer = ap (said told) (p.1 ∙ ap Err p.2) ∙ e; after = refused_resulting (ts ++ full_test s ∷ []) _ s (after_entry s c.args.entry.now) e; register = refl }

pub invariant_of-self-2 : goal.invariant_of-self-2
invariant_of-self-2 g c =
    let s : State = state g.R.Register.meaning c.args.self.now in
    let k = entry_passed s c.args.pass c.args.entry.now c.in_ok-check_entry.ensures in
    let new = ap (λ (o : Order). place (numbered o.number) s.book) c.entered-order.ensures.order ∙ k.1 in
    record { orderly = ∥∥₁_map c.args.self.now.orderly (λ o. c.append.ensures.orderly o (c.entered-order.ensures.fit k.0) new) }
