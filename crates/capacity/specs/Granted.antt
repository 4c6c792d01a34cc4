-- A take that no test refuses, for the proofs, and a pair that exists, for the contracts of private functions.
use Rattle.std.specs.Prelude.{◌≡◌, ◌≢◌, ℕ, ◌≤◌, Bool, true, pos, ◌≤ℤ◌}
use Rattle.capacity.specs.Meaning.{Capacity, atc}

pub record Granted (m : Capacity) (c a b q : ℕ) : Type 0 where
  pub contract : c ≤ 23
  pub some : 1 ≤ q
  pub few : q ≤ 99999
  pub joined : m.joins a b ≡ true
  pub flows : pos q ≤ℤ atc m c a b

-- a pair that exists
pub record Served (j : ℕ → ℕ → Bool) (c a b : ℕ) : Type 0 where
  pub contract : c ≤ 23
  pub from : a ≤ 15
  pub to : b ≤ 15
  pub apart : a ≢ b
  pub joined : j a b ≡ true
