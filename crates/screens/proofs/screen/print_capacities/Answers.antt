-- There are lines enough, so that the view is not refused; and one line after another is heard.
use Rattle.std.proofs.Common.{◌≡◌, length, take, subst, ap, arith, rules, Err}
use Rattle.capacity.specs.Tests.{answered}
use Rattle.ranking.specs.Ranking.{Shuffled}
use Rattle.session.specs.Faults.{told}
use Rattle.session.specs.State.{State, state}
use Rattle.views.specs.Capacities.{CapacityLines, capacity_lines, contract_tests}
use Rattle.views.specs.Ranks.{capacity_before}
use Rattle.screens.specs.Lines.{capacity_line}
use Rattle.screens.proofs.Fitting.{capacity_few}
use Rattle.screens.proofs.Printing.{line_heard, all_heard, by_tests, view_heard}
use Rattle.screens.proofs.Ranges.{FewFlows, all_shuffled, all_back, capacity_range, contract_few, capacity_back}
use Rattle.screens.proofs.screen.print_capacities.Goals as goal

pub returns-in_default : goal.returns-in_default
returns-in_default g c =
    let s : State = state g.R.Register.meaning c.args.session.now in
    let k = c.args.contract in
    let e = c.in_default.field-0 in
    let all : length c.capacity_view.new.lines ≡ 256 = search rules in
    let t : answered (contract_tests s k) ≡ Err (told e) = by_tests capacity_before (contract_tests s k) (CapacityLines s k) _ _ (λ xs h. omega (arith, ap length h, capacity_few s.capacity k, all)) e c.in_default.ensures.view in
    absurd (cc (t, c.requires))

pub loop-line-preserved : goal.loop-line-preserved
loop-line-preserved g c =
    line_heard g.S.TextSink.hears g.S.TextSink.whole (capacity_line c.args.contract) (take c.in-Ok.count c.capacity_view.new.lines) c.loop-line.line-index _ c.args.out.now c.loop-line.out c.print_capacity_line.new.out c.loop-line-test.true c.loop-line.invariant c.print_capacity_line.ensures

pub returns : goal.returns
returns g c =
    let s : State = state g.R.Register.meaning c.args.session.now in
    let k = c.args.contract in
    let after = c.capacity_view.new.lines in
    let n = c.in-Ok.count in
    let v = c.in-Ok.ensures.view in
    let few = all_shuffled FewFlows (capacity_lines s.capacity k) (take n after) (subst (λ xs. Shuffled xs (take n after)) v.1.1 v.1.3.ranked.all) (capacity_range s.capacity (g.R.Register.sound c.args.session.now.register) k) in
    let back = all_back FewFlows (capacity_line k) (λ x. capacity_back k x (contract_few s k c.requires)) (take n after) few in
    view_heard g.S.TextSink.hears g.S.TextSink.whole (capacity_line k) capacity_before (contract_tests s k) (CapacityLines s k) _ after n c.args.out.now c.loop-line.out v back
    (all_heard g.S.TextSink.hears g.S.TextSink.whole (capacity_line k) (take n after) c.loop-line.line-index c.args.out.now c.loop-line.out c.loop-line-test.false c.loop-line.invariant)
