-- A connector that no test refuses.
use Rattle.std.proofs.Common.{◌≡◌, ℕ, ◌<◌, Bool, false, cond, ap, ◌∙◌, arith, rules}
use Rattle.capacity.specs.Directions.{is_way}
use Rattle.capacity.specs.Network.{Network, connectors, connect_tests, connected}
use Rattle.capacity.specs.Shapes.{network_of, kept_of}
use Rattle.capacity.proofs.Passes.{passes_resulting}
use Rattle.capacity.proofs.Links.{connect_passes}
use Rattle.capacity.proofs.map.ConnectorMap.connect.Goals as goal

pub returns-clause-after : goal.returns-clause-after
returns-clause-after c =
    let m = network_of c.args.self.now in
    let x = c.args.from in
    let y = c.args.to in
    let v = c.args.held in
    let w = c.args.held_back in
    let free : m.joins x y ≡ false = search rules in
    let few : connectors m.joins < 32 = omega arith in
    let over : (ℕ → ℕ → ℕ) → ℕ → ℕ → ℕ = λ f a b. cond (is_way x y a b) v (f a b) in
    ap (λ (j : ℕ → ℕ → Bool). let n : Network = record { joins = j; kept = kept_of c.keep-2.new.self } in n) c.join.ensures.after
    ∙ ap (λ (k : ℕ → ℕ → ℕ). let n : Network = record { joins = (connected m x y v w).joins; kept = k } in n) (c.keep-2.ensures ∙ ap over c.keep.ensures)
    ∙ passes_resulting (connect_tests m x y v w) m (connected m x y v w) (connect_passes m x y v w (omega arith) (omega arith) (omega arith) (omega arith) c.if-from-to.false free few)
