-- A take and a notice asked of a register by direction: the tests of each, and what stands after it.
use Rattle.std.specs.Prelude.{ℕ, Bool, List}
use Rattle.capacity.specs.declared.direction.Direction.{Direction}
use Rattle.capacity.specs.declared.figures.Figures.{Figures}
use Rattle.capacity.specs.Answers.{take_tests, notice_tests}
use Rattle.capacity.specs.Faults.{Refusal}
use Rattle.capacity.specs.Meaning.{Capacity, taken, noticed}
use Rattle.capacity.specs.Tests.{resulting}

abbrev pub tests_of_take : Capacity → Direction → ℕ → List (Bool × Refusal)
tests_of_take m d q = take_tests m d.contract d.from d.to q

abbrev pub after_take : Capacity → Direction → ℕ → Capacity
after_take m d q = resulting (tests_of_take m d q) m (taken m d.contract d.from d.to q)

abbrev pub tests_of_notice : Capacity → Direction → Figures → List (Bool × Refusal)
tests_of_notice m d f = notice_tests m d.contract d.from d.to f

abbrev pub after_notice : Capacity → Direction → Figures → Capacity
after_notice m d f = resulting (tests_of_notice m d f) m (noticed m d.contract d.from d.to f)
