-- The table of the worked examples.
use Rattle.std.specs.Prelude.{◌≡◌, ℕ, pos, Some}
use Rattle.numbers.specs.declared.NumberFault.TheVariants.{Form, Fraction}
use Rattle.numbers.specs.Examples as numbers
use Rattle.numbers.specs.Reading.{fault_number}
use Rattle.capacity.specs.declared.example.Flow.{Flow}
use Rattle.capacity.specs.Meaning.{Capacity, reserved}
use Rattle.capacity.specs.Network.{Network}
use Rattle.capacity.specs.Quotes.{flow_in, told_of, taken_from}
use Rattle.capacity.specs.Tables.{fresh}
use Rattle.cells.specs.Meaning.{unnoted}
use Rattle.routes.specs.Example.{Example}
use Rattle.session.specs.Faults.{told, number_of}
use Rattle.book.specs.Examples as book
use Rattle.trials.specs.Registers.{one_connector, two_connectors, Unused}
use Rattle.trials.specs.Rows.{Comes}
use Rattle.trials.specs.Rounds.{short, grant, border}

abbrev pub flows : ℕ → ℕ → Flow
flows x y = record { there = Some (pos x); back = Some (pos y) }

pub record Trials : Type 0 where
  -- what number words are read as
  pub words : numbers.Examples
  -- by which number a word without the form is refused, one that means no whole count, and the request for more than can flow
  pub no_form : fault_number Form ≡ 18
  pub no_count : fault_number Fraction ≡ 19
  pub too_much : number_of (told short) ≡ 13
  -- slices of icebergs, and which terms are refused
  pub icebergs : book.Examples
  -- 0, 1, 3 of two ways with three areas
  pub route : Example
  -- a full table that is made is unused, cells that are lent, and a layer over one that keeps nothing back
  pub table : (n : Network) (k : ℕ) → Unused n k (fresh n.joins)
  pub cells : (n : Network) (k : ℕ) → Unused n k (unnoted n.joins k)
  pub layer : (n : Network) (k : ℕ) (m : Capacity) (w : ℕ → ℕ → ℕ) → ((a b : ℕ) → w a b ≡ 0) → Unused n k m → Unused n k (reserved m w)
  -- with NTC 200 and AAC 50 there 150 can flow and 50 back; after a take of 30, 120 and 80
  pub noticed : (m : Capacity) → Unused one_connector 1 m → flow_in (told_of m) ≡ flows 150 50
  pub taken : (m : Capacity) → Unused one_connector 1 m → flow_in (taken_from (told_of m)) ≡ flows 120 80
  -- a grant opens the way back
  pub way_back : (m : Capacity) → Unused one_connector 1 m → Comes m grant
  -- the better price across the border
  pub better_price : (m : Capacity) → Unused two_connectors 2 m → Comes m border
