-- Two connectors, one after the other.
use Rattle.std.proofs.Common.{◌≡◌, sym, refl, ap, ◌∙◌, arith}
use Rattle.capacity.specs.Network.{Network, connectors, sum_below, connect_tests, connected}
use Rattle.capacity.specs.Tests.{resulting}
use Rattle.capacity.proofs.Links.{connect_passes}
use Rattle.capacity.proofs.Passes.{passes_resulting}
use Rattle.trials.specs.Registers.{one_connector, two_connectors}

one : connectors one_connector.joins ≡ 1
unfolding connectors sum_below
one = refl

-- of areas 0 and 2, where 0 and 1 are joined
pub connect_02 : (s t : Network) → s ≡ one_connector → t ≡ resulting (connect_tests s 0 2 0 0) s (connected s 0 2 0 0) → t ≡ two_connectors
connect_02 s t p e =
    let count = one in
    let passes = connect_passes one_connector 0 2 0 0 (omega arith) (omega arith) (omega arith) (omega arith) (λ z. omega arith) refl (omega arith) in
    e
    ∙ ap (λ (n : Network). resulting (connect_tests n 0 2 0 0) n (connected n 0 2 0 0)) p
    ∙ sym (passes_resulting (connect_tests one_connector 0 2 0 0) one_connector two_connectors passes)
