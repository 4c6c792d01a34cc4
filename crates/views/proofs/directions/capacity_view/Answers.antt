-- The view's lines as they are counted and written, and that none is left out.
use Rattle.std.proofs.Common.{◌≡◌, List, sym, ap, ◌∙◌}
use Rattle.session.specs.State.{State, state}
use Rattle.views.specs.declared.lines.CapacityLine.{CapacityLine}
use Rattle.views.specs.Capacities.{line_of, ShowsDirection, capacity_lines, CapacityLines, contract_tests}
use Rattle.views.specs.Gathered.{Gathered}
use Rattle.views.specs.Ranks.{capacity_before, capacity_ordered}
use Rattle.views.proofs.Belows.{gathered_below, rows}
use Rattle.views.proofs.Once.{by_fill}
use Rattle.views.proofs.Reaching.{none_left_out}
use Rattle.views.proofs.directions.capacity_view.Goals as goal

-- lines given by a list are one list
one_list : (l xs ys : List CapacityLine) → xs ≡ l → ys ≡ l → xs ≡ ys
one_list l xs ys p q = p ∙ sym q

pub returns-in_err-check_view-clause-all : goal.returns-in_err-check_view-clause-all
returns-in_err-check_view-clause-all g c = none_left_out (state g.R.Register.meaning c.args.session.now) (g.R.Register.sound c.args.session.now.register) c.args.contract

pub returns : goal.returns
returns g c =
    let s : State = state g.R.Register.meaning c.args.session.now in
    let k = c.args.contract in
    let a = by_fill capacity_before capacity_ordered (contract_tests s k) (CapacityLines s k) (one_list (capacity_lines s.capacity k)) c.args.lines.now
    (Gathered (ShowsDirection (g.R.Register.meaning c.register.result.now) k) 256)
    (λ xs h. gathered_below _ 256 xs h ∙ rows (line_of (g.R.Register.meaning c.register.result.now) k) 16 ∙ ap (λ m. capacity_lines m k) c.register.ensures.meaning)
    c.in_ok-check_view.ensures c.fill.result c.fill.new.lines c.fill.ensures in
    record { view = a.0; only = a.1; all = none_left_out s (g.R.Register.sound c.args.session.now.register) k }
