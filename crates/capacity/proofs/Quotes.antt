-- One connector between areas 0 and 1, and what can flow on it under two layers.
use Rattle.std.proofs.Common.{◌≡◌, ℕ, ◌≤◌, false, sym, refl, ap, ◌∙◌, arith}
use Rattle.capacity.specs.declared.example.Flow.{Flow}
use Rattle.capacity.specs.Tests.{resulting}
use Rattle.capacity.specs.Meaning.{Capacity, reserved}
use Rattle.capacity.specs.Network.{Network, no_network, connectors, connect_tests, connected}
use Rattle.capacity.specs.Tables.{fresh}
use Rattle.capacity.specs.Quotes.{flow_in, told_of, taken_from}
use Rattle.capacity.proofs.Passes.{passes_resulting}
use Rattle.capacity.proofs.Links.{no_connectors, connect_passes}

-- areas 0 and 1 joined and nothing else, with v kept back from 0 to 1
abbrev pub joined_01 : ℕ → Network
joined_01 v = connected no_network 0 1 v 0

pub connect_01 : (v : ℕ) → v ≤ 99999 → (s t : Network) → s ≡ no_network → t ≡ resulting (connect_tests s 0 1 v 0) s (connected s 0 1 v 0) → t ≡ joined_01 v
connect_01 v h s t p e =
    let none : connectors (λ a b. false) ≡ 0 = no_connectors (λ a b. false) (λ a b. refl) in
    let passes = connect_passes no_network 0 1 v 0 h (omega arith) (omega arith) (omega arith) (λ z. omega arith) refl (omega arith) in
    e
    ∙ ap (λ (n : Network). resulting (connect_tests n 0 1 v 0) n (connected n 0 1 v 0)) p
    ∙ sym (passes_resulting (connect_tests no_network 0 1 v 0) no_network (joined_01 v) passes)

abbrev pub piled : Network → Network → Capacity
piled i o = reserved (reserved (fresh i.joins) i.kept) o.kept

-- what a register quotes that means the pile of two such maps
pub quoted : (v w : ℕ) (m : Capacity) (i o : Network) (r : Flow × Flow) → i ≡ joined_01 v → o ≡ joined_01 w → m ≡ piled i o → r.0 ≡ flow_in (told_of m) → r.1 ≡ flow_in (taken_from (told_of m)) → r ≡ (flow_in (told_of (piled (joined_01 v) (joined_01 w))), flow_in (taken_from (told_of (piled (joined_01 v) (joined_01 w)))))
quoted v w m i o r p q e before later =
    let is : m ≡ piled (joined_01 v) (joined_01 w) = e ∙ ap (λ (n : Network). piled n o) p ∙ ap (piled (joined_01 v)) q in
    let first : r.0 ≡ flow_in (told_of (piled (joined_01 v) (joined_01 w))) = before ∙ ap (λ (n : Capacity). flow_in (told_of n)) is in
    let second : r.1 ≡ flow_in (taken_from (told_of (piled (joined_01 v) (joined_01 w)))) = later ∙ ap (λ (n : Capacity). flow_in (taken_from (told_of n))) is in
    ap (λ (f : Flow). let t : Flow × Flow = (f, r.1) in t) first
    ∙ ap (λ (f : Flow). let t : Flow × Flow = (flow_in (told_of (piled (joined_01 v) (joined_01 w))), f) in t) second
