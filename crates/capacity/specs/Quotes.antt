-- A notice and then a take on any register: NTC 200 and AAC 50 from 0 to 1 in contract 3, and 30 taken.
use Rattle.capacity.specs.declared.example.Flow.{Flow}
use Rattle.capacity.specs.declared.figures.Figures.{Figures}
use Rattle.capacity.specs.Tests.{resulting}
use Rattle.capacity.specs.Meaning.{Capacity, atc, taken, noticed}
use Rattle.capacity.specs.Answers.{asked, take_tests, notice_tests}

abbrev pub flow_in : Capacity → Flow
flow_in m = record { there = asked m 3 0 1 (atc m 3 0 1); back = asked m 3 1 0 (atc m 3 1 0) }

abbrev pub the_figures : Figures
the_figures = record { ntc = 200; ntc_back = 0; aac = 50; aac_back = 0 }

abbrev pub told_of : Capacity → Capacity
told_of m = resulting (notice_tests m 3 0 1 the_figures) m (noticed m 3 0 1 the_figures)

abbrev pub taken_from : Capacity → Capacity
taken_from m = resulting (take_tests m 3 0 1 30) m (taken m 3 0 1 30)
