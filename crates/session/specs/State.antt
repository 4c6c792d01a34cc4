-- A session as its contracts see it.
use Rattle.std.specs.Prelude.{ℕ, Bool, true, false, ◌&&◌, List, [], Option, Some, None, ◌==◌, slice_index_or}
use Rattle.capacity.specs.Meaning.{Capacity}
use Rattle.book.specs.declared.rows.Order.{Order}
use Rattle.book.specs.Places.{orders}
use Rattle.matching.specs.declared.round.Round.{Round}
use Rattle.session.specs.declared.state.Session.{Session}

pub record State : Type 0 where
  pub number : ℕ
  -- the round under way, none while quiet
  pub round : Option Round
  -- by contract
  pub closed : ℕ → Bool
  -- oldest first
  pub book : List Order
  pub capacity : Capacity

module _ {R : Type 0} (meaning : R → Capacity) where
  abbrev pub state : Session R → State
  state s = record {
    number = s.number;
    round = s.round;
    closed = λ c. slice_index_or s.closed c false;
    book = orders s.book;
    capacity = meaning s.register;
  }

-- the register itself, with all the memory that it stands in
abbrev pub register_of : {R : Type 0} → Session R → R
register_of s = s.register

-- a session as it is begun
abbrev pub fresh : ℕ → Capacity → State
fresh n m = record { number = n; round = None; closed = λ c. false; book = []; capacity = m }

abbrev pub is_quiet : Option Round → Bool
is_quiet None = true
is_quiet (Some r) = false

-- a pass with the number p names this session, and it is quiet
abbrev pub quiet_here : State → ℕ → Bool
quiet_here s p = p == s.number && is_quiet s.round
