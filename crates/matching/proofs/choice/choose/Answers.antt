-- How `choose` meets its contract.
use Rattle.std.proofs.Common.{◌≡◌, ℕ, length, rules}
use Rattle.book.specs.Places.{orders}
use Rattle.routes.specs.Grids.{Leads}
use Rattle.matching.specs.Ways.{Leading}
use Rattle.matching.specs.Pairs.{InRound, Chosen}
use Rattle.matching.proofs.Tables.{leads_way, way_leads}
use Rattle.matching.proofs.Choosing.{no_pair, chosen}
use Rattle.matching.proofs.Unique.{one_chosen}
use Rattle.matching.proofs.choice.choose.Goals as goal

pub returns-in_err-buy : goal.returns-in_err-buy
returns-in_err-buy c =
    let O = Leads c.args.grid.now in
    let t = c.of.result.to in
    let os = orders c.args.book.now in
    let long : length t ≡ 16 = search rules in
    let none : (i j : ℕ) → InRound O c.args.round os i j → ⊥ = no_pair O (Leading t) (leads_way O t long c.of.ensures) (way_leads O t long c.of.ensures) c.args.round os c.in_err-buy.ensures in
    record { chosen = rw c.from_residual.ensures none; only = λ i j h. absurd (none i j h.pair) }

pub returns : goal.returns
returns c =
    let O = Leads c.args.grid.now in
    let t = c.of.result.to in
    let os = orders c.args.book.now in
    let i = c.in_ok-buy.buy in
    let j = c.in_ok-sell.sell in
    let long : length t ≡ 16 = search rules in
    let it : Chosen O c.args.round os i j = chosen O (Leading t) (leads_way O t long c.of.ensures) (way_leads O t long c.of.ensures) c.args.round os i j c.in_ok-buy.ensures c.in_ok-sell.ensures in
    record { chosen = it; only = λ k l h. one_chosen O c.args.round os i j k l it h }
