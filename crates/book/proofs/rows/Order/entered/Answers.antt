-- How `Order::entered` meets its contract.
use Rattle.std.proofs.Common.{w32, SFits, rules}
use Rattle.std.proofs.lemmas.Int.{to_z-of_z}
use Rattle.book.proofs.Accepting.{accepted}
use Rattle.book.proofs.rows.Order.entered.Goals as goal

pub returns-clause-fit : goal.returns-clause-fit
returns-clause-fit c =
    let t = c.args.terms.now in
    let f : SFits w32 t.limit = search rules in
    λ h. simp (to_z-of_z, c.with_first_slice.ensures.order) (accepted c.args.number c.args.member c.args.contract c.args.area t h)
