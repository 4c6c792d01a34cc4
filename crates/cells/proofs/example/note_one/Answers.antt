-- The first cell says what was noticed.
use Rattle.std.proofs.Common.{rules, ◌≡◌, take, Result, ap, ◌∙◌}
use Rattle.std.proofs.lemmas.Result.{IfOk-weaker}
use Rattle.std.specs.Result.{OnOk}
use Rattle.capacity.specs.declared.direction.Direction.{Direction}
use Rattle.capacity.specs.declared.faults.RegisterFault.{RegisterFault}
use Rattle.capacity.specs.declared.side.Side.{Side}
use Rattle.capacity.specs.Answers.{notice_tests}
use Rattle.capacity.specs.Meaning.{Capacity}
use Rattle.capacity.specs.Pairs.{figured}
use Rattle.capacity.specs.Quotes.{the_figures}
use Rattle.capacity.specs.Tests.{answered}
use Rattle.cells.specs.declared.register.CellRegister.{CellRegister}
use Rattle.cells.specs.Cells.{side_in}
use Rattle.cells.specs.Lent.{lent, SetByNotice}
use Rattle.cells.proofs.Lent.{first_set, first_side}
use Rattle.cells.proofs.example.note_one.Goals as goal

abbrev way : Direction
way = record { contract = 3; from = 0; to = 1 }

abbrev noticed_there : Side
noticed_there = record { ntc = 200; aac = 50; used = 0 }

says_so : (r q : CellRegister) (a : Result (Unit {0}) RegisterFault) → r.count ≡ 0 → OnOk a (SetByNotice r q way the_figures) → OnOk a (side_in (take 1 (lent q)) 3 0 1 ≡ noticed_there)
says_so r q a e s =
    IfOk-weaker a _ _ (λ _ o. first_set r q way _ _ e o ∙ ap (λ (v : Side). figured v 200 50) (first_side r way e)) s

pub returns-clause-answer : goal.returns-clause-answer
returns-clause-answer c =
    c.notice.ensures.answer ∙ ap (λ (m : Capacity). answered (notice_tests m 3 0 1 the_figures)) c.new-register.ensures.meaning

pub returns-clause-first : goal.returns-clause-first
returns-clause-first c =
    let told = says_so c.new-register.result c.notice.new.self c.notice.result c.new-register.ensures.none_in_use c.notice.ensures.set in
    search rules
