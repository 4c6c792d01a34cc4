-- The calls of the worked example, on any register.
use Rattle.std.specs.Prelude.{ℕ, Bool, List, Some, None, Option, Ok, Err, Result}
use Rattle.capacity.specs.Answers.{notice_tests}
use Rattle.capacity.specs.Faults.{Refusal}
use Rattle.capacity.specs.Meaning.{Capacity}
use Rattle.capacity.specs.Quotes.{flow_in, told_of, taken_from, the_figures}
use Rattle.capacity.specs.Tests.{answered}
use Rattle.cells.specs.declared.example.Quote.{Quote}
use Rattle.cells.specs.Meaning.{unnoted}

-- a refusal's number
abbrev pub number_of : Result (Unit {0}) Refusal → Option ℕ
number_of (Ok x) = None
number_of (Err e) = Some e.number

abbrev pub quote_of : Capacity → Quote
quote_of m = record {
  before = flow_in (told_of m);
  later = flow_in (taken_from (told_of m));
  refused = number_of (answered (notice_tests (taken_from (told_of m)) 4 0 1 the_figures));
}

-- the tests of the notice of the worked example as the first call on n cells
abbrev pub first_notice : (ℕ → ℕ → Bool) → ℕ → List (Bool × Refusal)
first_notice j n = notice_tests (unnoted j n) 3 0 1 the_figures
