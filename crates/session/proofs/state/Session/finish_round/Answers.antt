-- Each step carries the round on, and the last one ends it.
use Rattle.std.proofs.Common.{◌≡◌, ℕ, List, length, ap, ◌∙◌, subst, arith}
use Rattle.session.specs.State.{State}
use Rattle.session.proofs.Falling.{total_open, deal_falls}
use Rattle.session.proofs.Running.{areas_are, trades_on, ends_so}
use Rattle.session.proofs.state.Session.finish_round.Goals as goal

pub loop-trade-smaller : goal.loop-trade-smaller
loop-trade-smaller g c =
    let st = rw c.in-Traded.is at c.in_ok-trade.ensures.step in
    omega (arith, ap (λ (u : State). total_open u.book) st.1.state, deal_falls _ _ _ _ _ c.loop-trade.self.orderly st.1.deal)

pub loop-trade-preserved : goal.loop-trade-preserved
loop-trade-preserved g c =
    let st = rw c.in-Traded.is at c.in_ok-trade.ensures.step in
    let pass = rw c.in-Traded.is at c.in_ok-trade.ensures.pass in
    let i = c.loop-trade.invariant in
    let long : length c.step.new.places ≡ 16 = omega (arith, i.0) in
    let noted = subst (λ (r : List ℕ). g.L.TradeLog.notes c.loop-trade.log (record { trade = c.in-Traded.trade; route = r }) c.note.new.self) (areas_are _ _ _ _ _ st.1) c.note.ensures in
    let memory = g.R.Register.chains.next _ _ _ i.1 c.in_ok-trade.ensures.memory in
    (long, memory, pass ∙ i.2, trades_on g.L.TradeLog.notes _ _ _ _ _ _ _ _ _ _ _ i.3 i.2 st.0 st.1 noted)

pub returns-in-Done-clause-ran : goal.returns-in-Done-clause-ran
returns-in-Done-clause-ran g c =
    let st = rw c.in-Done.is at c.in_ok-trade.ensures.step in
    let i = c.loop-trade.invariant in
    ends_so g.L.TradeLog.notes _ _ _ (length c.loop-trade.places) _ _ _ _ i.3 i.2 st.0 st.1
