-- What an accepted call means: what held before it, and the state after it.
use Rattle.std.proofs.Common.{◌≡◌, ℕ, ◌||◌, eqb, Some, None, filter}
use Rattle.book.specs.Places.{place, without, numbered, numbered_of, not_of_contract}
use Rattle.book.specs.Ranks.{order_at}
use Rattle.book.specs.Terms.{refusal}
use Rattle.capacity.specs.declared.direction.Direction.{Direction}
use Rattle.capacity.specs.declared.figures.Figures.{Figures}
use Rattle.capacity.specs.Granted.{Granted}
use Rattle.capacity.specs.Meaning.{taken, noticed}
use Rattle.session.specs.declared.entries.Change.{Change}
use Rattle.session.specs.declared.entries.Entry.{Entry}
use Rattle.session.specs.Calls.{after_entry, in_batch, terms_with, changed}
use Rattle.session.specs.State.{State}

pub record Enters (s : State) (e : Entry) (t : State) : Type 0 where
  pub quiet : s.round ≡ None
  pub terms : refusal e.terms ≡ None
  pub new : place (numbered e.number) s.book ≡ None
  pub after : t ≡ after_entry s e

-- the order of that number and member stands at the place k
pub record Changes (s : State) (c : Change) (t : State) : Type 0 where
  pub quiet : s.round ≡ None
  pub k : ℕ
  pub there : place (numbered_of c.number c.member) s.book ≡ Some k
  pub terms : refusal (terms_with (order_at s.book k) c.limit c.quantity) ≡ None
  pub after : t ≡ changed s c.limit c.quantity (Some k)

pub record Withdraws (s : State) (n i : ℕ) (t : State) : Type 0 where
  pub quiet : s.round ≡ None
  pub k : ℕ
  pub there : place (numbered_of n i) s.book ≡ Some k
  pub after : t ≡ record { number = s.number; round = s.round; closed = s.closed; book = without s.book k; capacity = s.capacity }

pub record Requests (s : State) (d : Direction) (q : ℕ) (t : State) : Type 0 where
  pub quiet : s.round ≡ None
  pub granted : Granted s.capacity d.contract d.from d.to q
  pub after : t ≡ in_batch s d.contract (taken s.capacity d.contract d.from d.to q)

pub record Notifies (s : State) (d : Direction) (f : Figures) (t : State) : Type 0 where
  pub quiet : s.round ≡ None
  pub after : t ≡ in_batch s d.contract (noticed s.capacity d.contract d.from d.to f)

pub record Closes (s : State) (c : ℕ) (t : State) : Type 0 where
  pub quiet : s.round ≡ None
  pub after : t ≡ record { number = s.number; round = s.round; closed = λ k. eqb k c || s.closed k; book = filter (not_of_contract c) s.book; capacity = s.capacity }
