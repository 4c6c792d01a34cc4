-- The registers that the worked examples begin with: of whatever shape, with a few connectors and nothing used.
use Rattle.std.specs.Prelude.{◌≡◌, ℕ, ◌≤◌, ◌⊎◌, pos}
use Rattle.capacity.specs.Meaning.{Capacity}
use Rattle.capacity.specs.Network.{Network, no_network, connected}
use Rattle.capacity.specs.Tables.{on}

-- areas 0 and 1 are joined, and no others
abbrev pub one_connector : Network
one_connector = connected no_network 0 1 0 0

-- 0 and 2 are joined too
abbrev pub two_connectors : Network
two_connectors = connected one_connector 0 2 0 0

-- These connectors exist, nothing is held and nothing used, whatever was noticed; and every pair is noted, or k more can be.
pub record Unused (n : Network) (k : ℕ) (m : Capacity) : Type 0 where
  pub joins : m.joins ≡ n.joins
  pub held : m.held ≡ (λ c a b. 0)
  pub net : m.net ≡ (λ c a b. pos 0)
  pub room : (m.noted ≡ on n.joins) ⊎ (k ≤ m.room)
