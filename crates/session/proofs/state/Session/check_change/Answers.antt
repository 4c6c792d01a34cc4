-- The tests of a change, one after another.
use Rattle.std.proofs.Common.{ℤ, Err, sym, ap, ◌∙◌, w32, rules}
use Rattle.std.proofs.lemmas.Result.{err_from_is_err_and}
use Rattle.std.proofs.lemmas.Int.{to_z-of_z}
use Rattle.book.specs.Terms.{slice_tests, bounds_refusal}
use Rattle.session.specs.State.{State, state}
use Rattle.session.specs.Calls.{pass_test}
use Rattle.session.proofs.Deciding.{numbers_refused, numbers_passed, risen_told}
use Rattle.session.proofs.Changing.{is_there, read_row, slices_decide}
use Rattle.session.proofs.state.Session.check_change.Goals as goal

pub unwrap-order-requires : goal.unwrap-order-requires
unwrap-order-requires g c = is_there _ c.in_ok-at.at c.order.result c.in_ok-at.ensures.1 c.order.ensures

pub returns-in_err-check_slices-clause-answer : goal.returns-in_err-check_slices-clause-answer
returns-in_err-check_slices-clause-answer g c =
    let s : State = state g.R.Register.meaning c.args.self.now in
    let h = c.args.change.now in
    let p = err_from_is_err_and c.from_residual-in_err-check_slices.result c.from_residual-in_err-check_slices.ensures.1 in
    let e = slices_decide (pass_test s c.args.pass) s.book h.limit h.quantity _ c.in_ok-at.at _ _ _ c.in_ok-at.ensures.0 c.in_ok-at.ensures.1 c.order.ensures c.unwrap-order.ensures c.terms_of.ensures c.in_ok-check_quiet.ensures (c.in_ok-check_bounds.ensures ∙ ap (λ (z : ℤ). bounds_refusal z h.quantity) (to_z-of_z w32 h.limit (search rules))) in
    rw (p.1, p.2) (sym (ap Err (risen_told _) ∙ numbers_refused (slice_tests c.terms_of.result) _ c.in_err-check_slices.ensures ∙ e))

pub returns-clause-answer : goal.returns-clause-answer
returns-clause-answer g c =
    let s : State = state g.R.Register.meaning c.args.self.now in
    let h = c.args.change.now in
    let e = slices_decide (pass_test s c.args.pass) s.book h.limit h.quantity _ c.in_ok-at.at _ _ _ c.in_ok-at.ensures.0 c.in_ok-at.ensures.1 c.order.ensures c.unwrap-order.ensures c.terms_of.ensures c.in_ok-check_quiet.ensures (c.in_ok-check_bounds.ensures ∙ ap (λ (z : ℤ). bounds_refusal z h.quantity) (to_z-of_z w32 h.limit (search rules))) in
    sym (numbers_passed (slice_tests c.terms_of.result) c.in_ok-check_slices.ensures ∙ e)

pub returns-clause-found : goal.returns-clause-found
returns-clause-found g c =
    let s : State = state g.R.Register.meaning c.args.self.now in
    (c.in_ok-at.ensures.0, c.in_ok-at.ensures.1, read_row s.book c.in_ok-at.at _ _ c.in_ok-at.ensures.1 c.order.ensures c.unwrap-order.ensures)
